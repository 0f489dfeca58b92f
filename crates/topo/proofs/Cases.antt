-- 01's proved cases of mod.rs: "levels of 0.5, −3, 7: 500, 0, 1000"; and that a not-a-number gives level 0. Assumes nothing.
use mathlib.Core.Path.{◌≡◌, refl}
use lib.Ieee.{nan, binary64, of_bits, of_int, neg, mul, round, units, lt}
use Rattle.lists.specs.Lists.{choose}
use Rattle.ieee.specs.Basic.{clamp_of, whole64}
use Rattle.ieee_whole.specs.Whole.{round_half_away}
use Rattle.topo.specs.Levels.{level_of}

pub level_of-half : level_of (of_bits binary64 0x3fe0_0000_0000_0000) ≡ 500
unfolding level_of clamp_of choose round_half_away of_bits of_int mul round units lt
level_of-half = refl

pub level_of-minus-three : level_of (neg (whole64 3)) ≡ 0
unfolding level_of clamp_of choose round_half_away of_bits of_int neg mul round units lt
level_of-minus-three = refl

pub level_of_seven_lem : level_of (whole64 7) ≡ 1000
unfolding level_of clamp_of choose round_half_away of_bits of_int mul round units lt
level_of_seven_lem = refl

pub level_of-nan : level_of nan ≡ 0
unfolding level_of clamp_of choose round_half_away of_bits mul lt
level_of-nan = refl
