-- `oc_start::start_design` meets its contract: the places passed are filled. Assumes nothing.
use Rattle.ieee.specs.Basic.{one64}
use Rattle.lists.specs.Lists.{overwrite, choose}
use Rattle.oc_start.proofs.start_design.Given as goal
use lib.ListN.{get_or}
use mathlib.Core.Bool.{false}
use mathlib.Core.Path.{◌≡◌}

abbrev pub invariant-loop-i : goal.invariant-loop-i
invariant-loop-i l = l.design ≡ overwrite (λ k. choose (get_or l.passive k false) one64 l.start) l.i l.initial.design
