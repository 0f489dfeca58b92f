use Rattle.lists.proofs.Filled.{filled}
use Rattle.update_design.proofs.gains.Goals as goal
use Rattle.update_design.specs.Design.{gains_of}
use native.Mathlib.Omega.{arith}

pub returns : goal.returns
unfolding gains_of
returns c = filled _ _ _ _ c.loop-i.invariant _ (omega arith) (omega arith)
