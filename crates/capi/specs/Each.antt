-- What the export over triangles gives at each place. Definitions only.
use Rattle.std.specs.Prelude.{ℕ, ◌+◌, List, get_or, Float}
use Rattle.std.specs.Float.{nan}
use Rattle.geom.specs.Vectors.{vec}
use Rattle.geom.specs.declared.Vec3.{Vec3}
use Rattle.faces.specs.Triangle.{dist2_to_triangle}

-- the point whose coordinates stand at i, i + 1 and i + 2
abbrev pub point_at : List Float → ℕ → Vec3
point_at l i = vec (get_or l i nan) (get_or l (i + 1) nan) (get_or l (i + 2) nan)

-- the squared distance from the point p to the triangle t, whose corners stand one after the other
abbrev pub dist2_of : List Float → List Float → Float
dist2_of p t = dist2_to_triangle (point_at p 0) (point_at t 0) (point_at t 3) (point_at t 6)
