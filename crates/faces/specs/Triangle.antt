-- The squared distance from the point p to the triangle a, b, c: `dist2_to_triangle` of faces.rs, with the names and the order of Ericson,
-- Real-Time Collision Detection, 5.1.5, "Closest point on triangle to point". Definitions only.
use Rattle.std.specs.Prelude.{Bool, ◌&&◌, Float}
use Rattle.std.specs.Float.{binary64}
use Rattle.std.specs.Float.Ieee.{add, sub, mul, div, le}
use Rattle.lists.specs.Lists.{choose, zero64}
use Rattle.ieee.specs.Basic.{one64}
use Rattle.geom.specs.Vectors.{plus, less, scaled, dot, len2}
use Rattle.geom.specs.declared.Vec3.{Vec3}

-- what the regions are told apart by
module _ (p a b c : Vec3) where
  abbrev pub ab : Vec3
  ab = less b a

  abbrev pub ac : Vec3
  ac = less c a

  abbrev pub ap : Vec3
  ap = less p a

  abbrev pub bp : Vec3
  bp = less p b

  abbrev pub cp : Vec3
  cp = less p c

  abbrev pub d1 : Float
  d1 = dot ab ap

  abbrev pub d2 : Float
  d2 = dot ac ap

  abbrev pub d3 : Float
  d3 = dot ab bp

  abbrev pub d4 : Float
  d4 = dot ac bp

  abbrev pub d5 : Float
  d5 = dot ab cp

  abbrev pub d6 : Float
  d6 = dot ac cp

  -- the barycentric coordinates of c, b and a at the point under p in the plane, times the square of twice the triangle's area
  abbrev pub vc : Float
  vc = sub binary64 (mul binary64 d1 d4) (mul binary64 d3 d2)

  abbrev pub vb : Float
  vb = sub binary64 (mul binary64 d5 d2) (mul binary64 d1 d6)

  abbrev pub va : Float
  va = sub binary64 (mul binary64 d3 d6) (mul binary64 d5 d4)

  -- Ericson's regions, as tests
  abbrev pub outside_a : Bool
  outside_a = le d1 zero64 && le d2 zero64

  abbrev pub outside_b : Bool
  outside_b = le zero64 d3 && le d4 d3

  abbrev pub along_ab : Bool
  along_ab = le vc zero64 && le zero64 d1 && le d3 zero64

  abbrev pub outside_c : Bool
  outside_c = le zero64 d6 && le d5 d6

  abbrev pub along_ac : Bool
  along_ac = le vb zero64 && le zero64 d2 && le d6 zero64

  abbrev pub along_bc : Bool
  along_bc = le va zero64 && le zero64 (sub binary64 d4 d3) && le zero64 (sub binary64 d5 d6)

  -- the nearest point on an edge or inside
  abbrev pub on_ab : Vec3
  on_ab = plus a (scaled ab (div binary64 d1 (sub binary64 d1 d3)))

  abbrev pub on_ac : Vec3
  on_ac = plus a (scaled ac (div binary64 d2 (sub binary64 d2 d6)))

  abbrev pub on_bc : Vec3
  on_bc = plus b (scaled (less c b) (div binary64 (sub binary64 d4 d3) (add binary64 (sub binary64 d4 d3) (sub binary64 d5 d6))))

  abbrev pub denom : Float
  denom = div binary64 one64 (add binary64 (add binary64 va vb) vc)

  abbrev pub inside : Vec3
  inside = plus (plus a (scaled ab (mul binary64 vb denom))) (scaled ac (mul binary64 vc denom))

  -- 01: "`dist2_to_triangle`, regions tested in its order": a vertex's, an edge's, and what is left, the face's
  unfoldable pub dist2_to_triangle : Float
  dist2_to_triangle =
      choose outside_a (len2 ap)
      (choose outside_b (len2 bp)
      (choose along_ab (len2 (less p on_ab))
      (choose outside_c (len2 cp)
      (choose along_ac (len2 (less p on_ac))
      (choose along_bc (len2 (less p on_bc))
      (len2 (less p inside)))))))
