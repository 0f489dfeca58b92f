-- 01's proved case of `image`: "(2,0,0) in plane x = 0: (−2,0,0)". Assumes nothing.
use mathlib.Core.Path.{◌≡◌, refl}
use lib.Ieee.{of_bits, add, sub, mul, neg, sum, round, units}
use Rattle.lists.specs.Lists.{zero64}
use Rattle.ieee.specs.Basic.{one64}
use Rattle.geom.specs.Vectors.{vec, less, scaled, dot, two64, image}
use Rattle.geom.specs.declared.Mirror.{Mirror}

-- x = 0
abbrev plane_x : Mirror
plane_x = record { point = vec zero64 zero64 zero64; normal = vec one64 zero64 zero64 }

pub image_in-x : image plane_x (vec two64 zero64 zero64) ≡ vec (neg two64) zero64 zero64
unfolding image less scaled dot of_bits add sub mul neg sum round units
image_in-x = refl
