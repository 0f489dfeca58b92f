-- `run_round::slopes_plain` meets its contract: the places passed are filled. Assumes nothing.
use Rattle.lists.proofs.Filled.{filled}
use Rattle.run_round.proofs.slopes_plain.Goals as goal
use Rattle.run_round.specs.Round.{plain_slopes}
use native.Mathlib.Omega.{arith}

pub returns : goal.returns
unfolding plain_slopes
returns c = filled _ _ _ _ c.loop-i.invariant _ (omega arith) (omega arith)
