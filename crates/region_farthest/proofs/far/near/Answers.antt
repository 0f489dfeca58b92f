-- `far::near` meets its contract. Assumes nothing.
use Rattle.region_farthest.proofs.far.near.Goals as goal
use Rattle.region_nearest.specs.Nearest.{best_of}
use lib.Ieee.{div, of_bits}
use mathlib.Core.Path.{ap}

pub returns-in-Continue : goal.returns-in-Continue
unfolding div of_bits
returns-in-Continue c = ap best_of c.in-Continue.ensures

pub returns-in-Break : goal.returns-in-Break
unfolding div of_bits
returns-in-Break c = ap best_of c.in-Break.ensures
