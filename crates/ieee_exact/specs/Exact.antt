-- Finite floats as whole numbers, so that a claim on their exact values needs no fractions: 02's "no real arithmetic enters". Definitions only.
use Rattle.std.specs.Prelude.{ℕ, zero, suc, ◌+◌, ◌-◌, ◌*◌, ◌/◌, ◌^◌, Float}
use Rattle.std.specs.Float.{nan, inf, fin, Format}
use Rattle.std.specs.Float.Ieee.{low, up, down}

-- the size of a finite x, counted in the format's smallest value: for f64 it is x times 2 ^ 1074, which is a whole number
unfoldable pub amount : Format → Float → ℕ
amount f nan = 0
amount f (inf s) = 0
amount f (fin s m e) = m * up e * 2 ^ low f / down e

-- f 0 + f 1 .. + f (n - 1), without rounding
unfoldable pub total : (ℕ → ℕ) → ℕ → ℕ
total f zero = 0
total f (suc n) = total f n + f n

-- how far apart two numbers are
abbrev pub apart : ℕ → ℕ → ℕ
apart a b = (a - b) + (b - a)
