-- `region_nearest::seek` ends: each half is shorter than the part.
use lib.ListN.{length}
use Rattle.region_nearest.proofs.+seek.Given as goal

abbrev pub decreases-seek : goal.decreases-seek
decreases-seek l = length l.tree.order.now
