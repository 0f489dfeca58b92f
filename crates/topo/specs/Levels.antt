-- mod.rs: the level that a density is solved at, and the modulus of a level. Definitions only.
use Rattle.std.specs.Prelude.{ℕ, min, Float}
use Rattle.std.specs.Float.{binary64}
use Rattle.std.specs.Float.Ieee.{add, sub, mul, div, of_bits}
use Rattle.ieee.specs.Basic.{one64, clamp_of, whole64}
use Rattle.ieee_whole.specs.Whole.{round_half_away}

-- 1e-9
abbrev pub FLOOR : Float
FLOOR = of_bits binary64 0x3e11_2e0b_e826_d695

-- "Half a level rounds away from zero; not-a-number gives level 0."
unfoldable pub level_of : Float → ℕ
level_of x = round_half_away (mul binary64 (clamp_of x) (whole64 1000))

-- a level's density: "Levels above 1000 count as 1000."
unfoldable pub density_of : ℕ → Float
density_of level = div binary64 (whole64 (min level 1000)) (whole64 1000)

-- "x³ is (x·x)·x"
abbrev pub cube : Float → Float
cube x = mul binary64 (mul binary64 x x) x

-- e0·(FLOOR + x³·(1 − FLOOR)), x the level's density
unfoldable pub modulus_of : ℕ → Float → Float
unfolding density_of
modulus_of level e0 = mul binary64 e0 (add binary64 FLOOR (mul binary64 (cube (density_of level)) (sub binary64 one64 FLOOR)))
