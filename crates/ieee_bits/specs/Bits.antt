-- IEEE 754's totalOrder, as an order of numbers and as a test. Bit patterns are the kit's `to_bits` and `of_bits`, which write every NaN as 7FF8000000000000.
use Rattle.std.specs.Prelude.{ℕ, ◌+◌, ◌-◌, ◌^◌, Bool, not, cond, ◌&&◌, ◌||◌, ltb, Float}
use Rattle.std.specs.Float.Ieee.{lt, eq, is_nan, to_bits}
use Rattle.std.specs.Float.{binary64}
use Rattle.ieee.specs.Basic.{negative}

-- totalOrder, strict: the one NaN after everything else, -0 before +0, and the smaller number before the larger
unfoldable pub precedes : Float → Float → Bool
precedes x y = (not (is_nan x) && is_nan y) || (negative x && not (negative y) && eq x y) || lt x y

-- totalOrder as an order of numbers: the pattern of a float with a plus above 2 ^ 63, that of one with a minus below it, backwards
unfoldable pub total_key : Float → ℕ
total_key x = cond (ltb (to_bits binary64 x) (2 ^ 63)) (to_bits binary64 x + 2 ^ 63) (2 ^ 64 - 1 - to_bits binary64 x)
