-- Sharpening: `project` of oc.rs, in its operation order, with 01's tanh. Definitions only.
use Rattle.std.specs.Prelude.{List, [], ◌∷◌, Float}
use Rattle.std.specs.Float.{binary64}
use Rattle.std.specs.Float.Ieee.{add, sub, mul, div, of_bits}
use Rattle.ieee.specs.Basic.{one64}
use Rattle.ieee_tanh.specs.Tanh.{tanh_of}

-- PROJECT_AT, 0.5
abbrev pub project_at : Float
project_at = of_bits binary64 0x3fe0_0000_0000_0000

-- STAGES: "The steepness runs 1, 2, 4, 8, 16"
abbrev pub stages : List Float
stages =
    of_bits binary64 0x3ff0_0000_0000_0000
    ∷ of_bits binary64 0x4000_0000_0000_0000
    ∷ of_bits binary64 0x4010_0000_0000_0000
    ∷ of_bits binary64 0x4020_0000_0000_0000
    ∷ of_bits binary64 0x4030_0000_0000_0000
    ∷ []

-- `below`
unfoldable pub below_of : Float → Float
below_of beta = tanh_of (mul binary64 beta project_at)

-- `whole`
unfoldable pub whole_of : Float → Float
whole_of beta = add binary64 (below_of beta) (tanh_of (mul binary64 beta (sub binary64 one64 project_at)))

-- `t`
unfoldable pub turned : Float → Float → Float
turned beta v = tanh_of (mul binary64 beta (sub binary64 v project_at))

-- `(below + t) / whole`
unfoldable pub projected : Float → Float → Float
projected beta v = div binary64 (add binary64 (below_of beta) (turned beta v)) (whole_of beta)

-- `beta * (1.0 - t * t) / whole`
unfoldable pub projected_slope : Float → Float → Float
projected_slope beta v =
    div binary64 (mul binary64 beta (sub binary64 one64 (mul binary64 (turned beta v) (turned beta v)))) (whole_of beta)
