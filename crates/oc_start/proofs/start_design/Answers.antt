use Rattle.std.proofs.Common.{arith}
use Rattle.lists.proofs.Filled.{filled}
use Rattle.oc_start.specs.Start.{start_design}
use Rattle.oc_start.proofs.start_design.Goals as goal

pub returns : goal.returns
unfolding start_design
returns c = filled _ _ _ _ c.loop-i.invariant _ (omega arith) (omega arith)
