-- `oc_start::free_volumes` meets its contract: the places passed are filled. Assumes nothing.
use Rattle.lists.specs.Lists.{overwrite, choose, zero64}
use Rattle.oc_start.proofs.free_volumes.Given as goal
use lib.Ieee.{nan}
use lib.ListN.{get_or}
use mathlib.Core.Bool.{false}
use mathlib.Core.Path.{◌≡◌}

abbrev pub invariant-loop-i : goal.invariant-loop-i
invariant-loop-i l = l.free ≡ overwrite (λ k. choose (get_or l.passive k false) zero64 (get_or l.volumes k nan)) l.i l.initial.free
