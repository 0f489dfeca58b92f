-- 01's vectors: "sums, `min`, `max` and scaling go by component; `dot` adds x, y, z products in order; `len2` is `dot` with itself, `len` its
-- root, `dist` the `len` of the difference; `cross` is (y1·z2 − z1·y2, z1·x2 − x1·z2, x1·y2 − y1·x2); `normalized` divides each component by
-- `len`." Each operation is rounded once. Definitions only.
use Rattle.std.specs.Prelude.{Bool, ◌&&◌, Float}
use Rattle.std.specs.Float.{binary64}
use Rattle.std.specs.Float.Ieee.{add, sub, mul, div, of_bits}
use Rattle.ieee.specs.Basic.{min_of, max_of, is_finite}
use Rattle.ieee_root.specs.Sqrt.{sqrt_of}
use Rattle.geom.specs.declared.Vec3.{Vec3}
use Rattle.geom.specs.declared.Mirror.{Mirror}

abbrev pub vec : Float → Float → Float → Vec3
vec a b c = record { x = a; y = b; z = c }

-- by component
unfoldable pub plus : Vec3 → Vec3 → Vec3
plus a b = vec (add binary64 a.x b.x) (add binary64 a.y b.y) (add binary64 a.z b.z)

unfoldable pub less : Vec3 → Vec3 → Vec3
less a b = vec (sub binary64 a.x b.x) (sub binary64 a.y b.y) (sub binary64 a.z b.z)

unfoldable pub scaled : Vec3 → Float → Vec3
scaled a k = vec (mul binary64 a.x k) (mul binary64 a.y k) (mul binary64 a.z k)

unfoldable pub least : Vec3 → Vec3 → Vec3
least a b = vec (min_of a.x b.x) (min_of a.y b.y) (min_of a.z b.z)

unfoldable pub greatest : Vec3 → Vec3 → Vec3
greatest a b = vec (max_of a.x b.x) (max_of a.y b.y) (max_of a.z b.z)

-- the x, y, z products added in order
unfoldable pub dot : Vec3 → Vec3 → Float
dot a b = add binary64 (add binary64 (mul binary64 a.x b.x) (mul binary64 a.y b.y)) (mul binary64 a.z b.z)

-- (y1·z2 − z1·y2, z1·x2 − x1·z2, x1·y2 − y1·x2)
unfoldable pub cross : Vec3 → Vec3 → Vec3
cross a b =
    vec
    (sub binary64 (mul binary64 a.y b.z) (mul binary64 a.z b.y))
    (sub binary64 (mul binary64 a.z b.x) (mul binary64 a.x b.z))
    (sub binary64 (mul binary64 a.x b.y) (mul binary64 a.y b.x))

unfoldable pub len2 : Vec3 → Float
len2 a = dot a a

unfoldable pub len : Vec3 → Float
len a = sqrt_of binary64 (len2 a)

unfoldable pub dist : Vec3 → Vec3 → Float
dist a b = len (less a b)

-- each component divided by `len`
unfoldable pub normalized : Vec3 → Vec3
normalized a = vec (div binary64 a.x (len a)) (div binary64 a.y (len a)) (div binary64 a.z (len a))

unfoldable pub all_finite : Vec3 → Bool
all_finite a = is_finite a.x && is_finite a.y && is_finite a.z

-- 2.0
abbrev pub two64 : Float
two64 = of_bits binary64 0x4000_0000_0000_0000

-- mod.rs, `Mirror::image`: p − n·(2·((p − point)·n))
unfoldable pub image : Mirror → Vec3 → Vec3
image m p = less p (scaled m.normal (mul binary64 two64 (dot (less p m.point) m.normal)))
