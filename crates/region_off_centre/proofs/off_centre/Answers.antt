-- `region_off_centre::off_centre` meets its contract: before the first point the least is +∞ and the greatest is −∞. Assumes nothing.
use Rattle.std.proofs.Common.{refl}
use Rattle.lists.specs.Lists.{fold_to}
use Rattle.region_off_centre.proofs.off_centre.Goals as goal
use Rattle.region_off_centre.specs.OffCentre.{lowest, highest}
use lib.Ieee.{of_bits}

pub loop-p-init : goal.loop-p-init
unfolding lowest highest fold_to of_bits
loop-p-init c = (refl, refl)
