-- `run_round::slopes_plain` meets its contract: the places passed are filled. Assumes nothing.
use Rattle.ieee.specs.Basic.{one64}
use Rattle.lists.specs.Lists.{overwrite, choose, zero64}
use Rattle.run_round.proofs.slopes_plain.Given as goal
use lib.ListN.{get_or}
use mathlib.Core.Bool.{false}
use mathlib.Core.Path.{◌≡◌}

abbrev pub invariant-loop-i : goal.invariant-loop-i
invariant-loop-i l = l.slope ≡ overwrite (λ k. choose (get_or l.passive k false) zero64 one64) l.i l.initial.slope
