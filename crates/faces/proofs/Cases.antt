-- 01's proved cases of faces.rs: "(0,0,2) and (0.25,0.25,1) to triangle (0,0,0),(1,0,0),(0,1,0): 4 and 1". Assumes nothing.
use mathlib.Core.Path.{◌≡◌, refl}
use lib.Ieee.{Float, binary64, of_bits, add, sub, mul, div, neg, sum, round, units, le, lt, eq}
use Rattle.lists.specs.Lists.{choose, zero64}
use Rattle.ieee.specs.Basic.{one64}
use Rattle.geom.specs.Vectors.{vec, plus, less, scaled, dot, len2}
use Rattle.geom.specs.declared.Vec3.{Vec3}
use Rattle.faces.specs.Triangle.{dist2_to_triangle}

-- a quarter, two and four
abbrev quarter64 : Float
quarter64 = of_bits binary64 0x3fd0_0000_0000_0000

abbrev two64 : Float
two64 = of_bits binary64 0x4000_0000_0000_0000

abbrev four64 : Float
four64 = of_bits binary64 0x4010_0000_0000_0000

abbrev to_unit_triangle : Vec3 → Float
to_unit_triangle p = dist2_to_triangle p (vec zero64 zero64 zero64) (vec one64 zero64 zero64) (vec zero64 one64 zero64)

pub above-a-corner : to_unit_triangle (vec zero64 zero64 two64) ≡ four64
unfolding dist2_to_triangle choose dot less plus scaled len2 of_bits add sub mul div neg sum round units le lt eq
above-a-corner = refl

pub above_the_face : to_unit_triangle (vec quarter64 quarter64 one64) ≡ one64
unfolding dist2_to_triangle choose dot less plus scaled len2 of_bits add sub mul div neg sum round units le lt eq
above_the_face = refl
