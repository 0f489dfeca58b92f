-- Bit patterns as floats: a strip's numbers become floats when its job is run. Definitions only.
use Rattle.std.specs.Prelude.{ℕ, List, get_or, Float}
use Rattle.lists.specs.Lists.{tabulate}
use Rattle.std.specs.Float.Ieee.{of_bits}
use Rattle.std.specs.Float.{binary64}

-- place i of a list of patterns; past its end the pattern 0
abbrev pub float_at : List ℕ → ℕ → Float
float_at bits i = of_bits binary64 (get_or bits i 0)

-- a row of n numbers, a point, and a plane's point and normal
abbrev pub floats_of : ℕ → List ℕ → List Float
floats_of n bits = tabulate (float_at bits) n

abbrev pub point_of : List ℕ → List Float
point_of bits = floats_of 3 bits

abbrev pub plane_of : List ℕ → List Float
plane_of bits = floats_of 6 bits
