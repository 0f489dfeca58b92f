-- 01, "The rounds": an element's value after an update, at one rate. Definitions only.
use Rattle.std.specs.Prelude.{Bool, Float}
use Rattle.std.specs.Float.{binary64}
use Rattle.std.specs.Float.Ieee.{add, sub, mul, div, neg, lt, of_bits}
use Rattle.lists.specs.Lists.{choose, zero64}
use Rattle.ieee.specs.Basic.{one64, max_of, min_of}
use Rattle.ieee_root.specs.Sqrt.{sqrt_of}
use Rattle.oc_goal.specs.Goal.{xMin}

-- 1e4
abbrev pub ten_thousand : Float
ten_thousand = of_bits binary64 0x40c3_8800_0000_0000

-- the work that a value saves for the volume that it costs: `if *v > 0.0 { (-c).max(0.0) / v } else { 0.0 }`
unfoldable pub gain_of : Float → Float → Float
gain_of c v = choose (lt zero64 v) (div binary64 (max_of (neg c) zero64) v) zero64

-- "old·√(gain/rate), or 0 where the gain isn't above 0"
unfoldable pub grown : Float → Float → Float → Float
grown old gain rate = choose (lt zero64 gain) (mul binary64 old (sqrt_of binary64 (div binary64 gain rate))) zero64

-- "raised to max(old−move, 0.001), then lowered to min(old+move, 1), sum and difference rounded"
unfoldable pub limited : Float → Float → Float → Float
limited old move v = min_of (max_of v (max_of (sub binary64 old move) xMin)) (min_of (add binary64 old move) one64)

-- "The design after an update is 1 where held; elsewhere .."
unfoldable pub next_of : Bool → Float → Float → Float → Float → Float
next_of held old gain move rate = choose held one64 (limited old move (grown old gain rate))
