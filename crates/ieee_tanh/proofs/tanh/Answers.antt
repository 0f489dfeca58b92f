-- `ieee_tanh::tanh` meets its contract: 63.0 is the whole number 63. Assumes nothing.
use Rattle.ieee_tanh.proofs.Lambert.{lambert-none}
use Rattle.ieee_tanh.proofs.tanh.Goals as goal
use lib.Ieee.{of_bits, of_int}

pub loop-i-init : goal.loop-i-init
unfolding of_bits of_int
loop-i-init c = lambert-none c.args.z
