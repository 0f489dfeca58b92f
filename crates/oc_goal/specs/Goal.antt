-- 01, "The rounds": "Start, filter row, projection, slopes and grey are `optimize`'s formulas, in its operation order." Here what the goal asks of the
-- start. Definitions only.
use Rattle.std.specs.Prelude.{Bool, Float}
use Rattle.std.specs.Float.{binary64}
use Rattle.std.specs.Float.Ieee.{add, sub, mul, div, le, of_bits}

-- X_MIN, 0.001
abbrev pub xMin : Float
xMin = of_bits binary64 0x3f50_624d_d2f1_a9fc

-- VOLUME_TOLERANCE, 1e-10
abbrev pub volume_tolerance : Float
volume_tolerance = of_bits binary64 0x3ddb_7cdf_d9d7_bdbb

-- 7 of the table of refusals: "held + 0.001·(total − held) ≥ share·total"; equality refuses
abbrev pub no_room : Float → Float → Float → Bool
no_room solid total target = le target (add binary64 solid (mul binary64 xMin (sub binary64 total solid)))

-- "share·total"
abbrev pub target_of : Float → Float → Float
target_of fraction total = mul binary64 fraction total

-- "1e-10·total"
abbrev pub tolerance_of : Float → Float
tolerance_of total = mul binary64 volume_tolerance total

-- `(target - solid) / (total - solid)`
abbrev pub start_density : Float → Float → Float → Float
start_density solid total target = div binary64 (sub binary64 target solid) (sub binary64 total solid)
