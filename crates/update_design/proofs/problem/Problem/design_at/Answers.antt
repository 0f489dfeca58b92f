use Rattle.lists.proofs.Filled.{filled}
use Rattle.update_design.proofs.problem.Problem.design_at.Goals as goal
use Rattle.update_design.specs.Design.{design_at}
use native.Mathlib.Omega.{arith}

pub returns : goal.returns
unfolding design_at
returns c = filled _ _ _ _ c.loop-i.invariant _ (omega arith) (omega arith)
