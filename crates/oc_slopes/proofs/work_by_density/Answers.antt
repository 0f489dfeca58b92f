use Rattle.std.proofs.Common.{arith}
use Rattle.lists.proofs.Filled.{filled}
use Rattle.oc_slopes.specs.Slopes.{work_by_density}
use Rattle.oc_slopes.proofs.work_by_density.Goals as goal

pub returns : goal.returns
unfolding work_by_density
returns c = filled _ _ _ _ c.loop-i.invariant _ (omega arith) (omega arith)
