-- region.rs, `off_centre`, in the Rust's operation order; the plane's normal is used as it is given. Definitions only.
use Rattle.std.specs.Prelude.{ℕ, true, false, ◌&&◌, List, [], length, get_or, eqb, Option, Some, None, Result, Ok, Err, Float}
use Rattle.std.specs.Float.{inf, binary64}
use Rattle.std.specs.Float.Ieee.{add, sub, mul, div, neg, le, lt, of_bits}
use Rattle.lists.specs.Lists.{fold_to, choose, zero64}
use Rattle.ieee.specs.Basic.{abs_of, min_of, max_of}
use Rattle.geom.specs.Vectors.{less, dot, two64}
use Rattle.geom.specs.declared.Vec3.{Vec3}
use Rattle.geom.specs.declared.Mirror.{Mirror}
use Rattle.geom.specs.Points.{point, flat}
use Rattle.lent.specs.Domain.{too_many_nodes, points_bad, plane_bad}
use Rattle.region_off_centre.specs.declared.Reaches.{Reaches}

-- 0.1
abbrev pub tenth64 : Float
tenth64 = of_bits binary64 0x3fb9_9999_9999_999a

-- (p − point)·normal
unfoldable pub reach_of : Mirror → Vec3 → Float
reach_of m p = dot (less p m.point) m.normal

-- the least and the greatest among the first n points, from +∞ and −∞ on
unfoldable pub lowest : List (List Float) → Mirror → ℕ → Float
lowest points m n = fold_to (λ k lo. min_of lo (reach_of m (point (get_or points k [])))) (inf false) n

unfoldable pub highest : List (List Float) → Mirror → ℕ → Float
highest points m n = fold_to (λ k hi. max_of hi (reach_of m (point (get_or points k [])))) (inf true) n

-- hi ≥ lo and |hi + lo|/2 > 0.1·(hi − lo): how far they reach to either side. "No points: `off_centre` gives none", since −∞ is below +∞
unfoldable pub balance_of : Float → Float → Option Reaches
balance_of lo hi =
    choose (le lo hi && lt (mul binary64 tenth64 (sub binary64 hi lo)) (div binary64 (abs_of (add binary64 hi lo)) two64))
    (Some (record { ahead = max_of hi zero64; behind = max_of (neg lo) zero64 }))
    None

-- 3, 9, 11 in this order, 0 where nothing is refused; the points are nodes
unfoldable pub refusal_of : List (List Float) → Mirror → ℕ
refusal_of points m =
    choose (too_many_nodes (length points)) 3
    (choose (points_bad points) 9
    (choose (plane_bad (flat m)) 11 0))

-- the answer, case by case: 01's number, none, or the two reaches
unfoldable pub off_centre_of : List (List Float) → Mirror → Result (Option Reaches) ℕ
off_centre_of points m =
    choose (eqb (refusal_of points m) 0)
    (Ok (balance_of (lowest points m (length points)) (highest points m (length points))))
    (Err (refusal_of points m))
