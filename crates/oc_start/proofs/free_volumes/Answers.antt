use Rattle.std.proofs.Common.{arith}
use Rattle.lists.proofs.Filled.{filled}
use Rattle.oc_start.specs.Start.{free_volumes}
use Rattle.oc_start.proofs.free_volumes.Goals as goal

pub returns : goal.returns
unfolding free_volumes
returns c = filled _ _ _ _ c.loop-i.invariant _ (omega arith) (omega arith)
