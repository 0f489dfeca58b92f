-- `topo::constants` meets its contract: the constants are mod.rs's, by computation. Assumes nothing.
use Rattle.topo.proofs.constants.Goals as goal
use lib.Ieee.{eq, of_bits}
use mathlib.Core.Path.{refl}

pub returns : goal.returns
unfolding eq of_bits
returns c = refl
