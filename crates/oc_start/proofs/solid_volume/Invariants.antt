-- `oc_start::solid_volume` meets its contract: what is added up is the fold over the places passed. Assumes nothing.
use Rattle.lists.specs.Lists.{fold_to, choose, zero64}
use Rattle.oc_start.proofs.solid_volume.Given as goal
use lib.Ieee.{nan, binary64, add}
use lib.ListN.{get_or}
use mathlib.Core.Bool.{false}
use mathlib.Core.Path.{◌≡◌}

abbrev pub invariant-loop-i : goal.invariant-loop-i
invariant-loop-i l = l.t ≡ fold_to (λ k t. choose (get_or l.passive k false) (add binary64 t (get_or l.volumes k nan)) t) zero64 l.i
