-- `region_passive::stages::centroids_of` meets its contract: the loop's end has written every place. Assumes nothing.
use Rattle.lists.proofs.Filled.{filled}
use Rattle.region_passive.proofs.stages.centroids_of.Goals as goal
use mathlib.Core.Path.{sym}
use native.Mathlib.Omega.{arith}

pub returns : goal.returns
returns c = filled _ c.args.centroids.now _ _ c.loop-e.invariant _ (omega arith) (sym c.requires)
