-- Points and planes as lists of numbers. Definitions only.
use Rattle.std.specs.Prelude.{List, [], ◌∷◌, get_or, Float}
use Rattle.std.specs.Float.{nan}
use Rattle.geom.specs.Vectors.{vec}
use Rattle.geom.specs.declared.Vec3.{Vec3}
use Rattle.geom.specs.declared.Mirror.{Mirror}

-- a lent point: x, y, z
abbrev pub point : List Float → Vec3
point p = vec (get_or p 0 nan) (get_or p 1 nan) (get_or p 2 nan)

-- a point as it is stored
abbrev pub stored : Vec3 → List Float
stored v = v.x ∷ v.y ∷ v.z ∷ []

-- a lent plane: its point, then its normal
abbrev pub plane : List Float → Mirror
plane p = record { point = point p; normal = vec (get_or p 3 nan) (get_or p 4 nan) (get_or p 5 nan) }

-- a plane as it is lent
abbrev pub flat : Mirror → List Float
flat m = m.point.x ∷ m.point.y ∷ m.point.z ∷ m.normal.x ∷ m.normal.y ∷ m.normal.z ∷ []
