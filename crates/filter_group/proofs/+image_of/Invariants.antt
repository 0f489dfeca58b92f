-- `filter_group::image_of` ends: one plane less each time. Assumes nothing.
use Rattle.std.proofs.Common.{length}
use Rattle.filter_group.proofs.+image_of.Given as goal

abbrev pub decreases-image_of : goal.decreases-image_of
decreases-image_of l = length l.mirrors.now
