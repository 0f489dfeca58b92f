-- `region_by_nodes::mark` meets its contract. Assumes nothing.
use Rattle.lists.proofs.Filled.{filled}
use Rattle.region_by_nodes.proofs.mark.Goals as goal
use mathlib.Core.Path.{sym}
use native.Mathlib.Omega.{arith}

pub returns : goal.returns
returns c = filled _ c.args.marks.now _ _ c.loop-e.invariant _ (omega arith) (sym c.requires)
