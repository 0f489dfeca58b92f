-- `region_tree::build` ends: each half is shorter than the part.
use lib.ListN.{length}
use Rattle.region_tree.proofs.+build.Given as goal

abbrev pub decreases-build : goal.decreases-build
decreases-build l = length l.order.now
