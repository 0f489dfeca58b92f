-- The continued fraction's end. Assumes nothing.
use mathlib.Core.Path.{◌≡◌, ap, ◌∙◌}
use lib.Ieee.{Float, binary64, mul, div}
use Rattle.ieee_tanh.specs.Tanh.{tanh_of}
use Rattle.ieee_lanes.specs.Fraction.{fraction}
use Rattle.ieee_lanes.proofs.Squeeze.{fraction-is}

pub turn_over : (z r : Float) → r ≡ fraction (mul binary64 z z) 31 → div binary64 z r ≡ tanh_of z
unfolding tanh_of
turn_over z r h = ap (div binary64 z) (h ∙ fraction-is z 31)
