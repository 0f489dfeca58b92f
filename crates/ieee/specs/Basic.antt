-- The sign, the order and the range of an f64. Definitions only.
use Rattle.std.specs.Prelude.{ℕ, Bool, true, false, pos, Float}
use Rattle.std.specs.Float.{nan, inf, fin, binary64}
use Rattle.std.specs.Float.Ieee.{is_nan, lt, of_int, of_bits}
use Rattle.lists.specs.Lists.{choose, zero64}

-- 1.0
abbrev pub one64 : Float
one64 = of_bits binary64 0x3ff0_0000_0000_0000

-- the whole number k as a float
abbrev pub whole64 : ℕ → Float
whole64 k = of_int binary64 (pos k)

-- whether the sign is minus; a NaN counts as having none
abbrev pub negative : Float → Bool
negative nan = false
negative (inf s) = s
negative (fin s m e) = s

-- the size of x: IEEE 754's abs, which clears the sign
unfoldable pub abs_of : Float → Float
abs_of nan = nan
abs_of (inf s) = inf false
abs_of (fin s m e) = fin false m e

-- 01: "Where `max` or `min` meets one not-a-number, the other operand results."
unfoldable pub max_of : Float → Float → Float
unfolding choose
max_of x y = choose (is_nan x) y (choose (is_nan y) x (choose (lt x y) y x))

unfoldable pub min_of : Float → Float → Float
unfolding choose
min_of x y = choose (is_nan x) y (choose (is_nan y) x (choose (lt y x) y x))

-- Rust's `x.clamp(0.0, 1.0)`, which keeps a not-a-number
unfoldable pub clamp_of : Float → Float
unfolding choose
clamp_of x = choose (lt x zero64) zero64 (choose (lt one64 x) one64 x)

-- neither a not-a-number nor an infinity
unfoldable pub is_finite : Float → Bool
is_finite nan = false
is_finite (inf s) = false
is_finite (fin s m e) = true
