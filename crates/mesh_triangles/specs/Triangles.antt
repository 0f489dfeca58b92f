-- mesh.rs, `block`: the triangles on the sides of the box. Each operation is rounded once, in the Rust's order. Definitions only.
use Rattle.std.specs.Prelude.{ℕ, Bool, ◌&&◌, List, [], ◌∷◌, ◌++◌, Option, Some, None, Float}
use Rattle.std.specs.Float.{binary64}
use Rattle.std.specs.Float.Ieee.{add, sub, mul, le, lt, of_bits}
use Rattle.lists.specs.Lists.{fold_to, choose, zero64}
use Rattle.ieee.specs.Basic.{abs_of}
use Rattle.geom.specs.Vectors.{less, dot, cross}
use Rattle.geom.specs.declared.Vec3.{Vec3}
use Rattle.mesh_lattice.specs.declared.Grid.{Grid}
use Rattle.mesh_lattice.specs.declared.Corner.{Corner}
use Rattle.mesh_lattice.specs.Lattice.{number_of, place_of, tets_in, nth, four_of, edge, middle_of}

-- 1e-9
abbrev pub near64 : Float
near64 = of_bits binary64 0x3e11_2e0b_e826_d695

-- 1e-9·(size.x + size.y + size.z)
abbrev pub slack : Grid → Float
slack g = mul binary64 near64 (add binary64 (add binary64 g.size.x g.size.y) g.size.z)

-- |v − at| ≤ slack
abbrev pub at : Grid → Float → Float → Bool
at g v s = le (abs_of (sub binary64 v s)) (slack g)

-- all three points have their coordinate v at s
abbrev pub all_at : Grid → Float → Float → Float → Float → Bool
all_at g u v w s = at g u s && (at g v s && at g w s)

-- the side of the box that three points share, the first of x = 0, x = size.x, y = 0, y = size.y, z = 0, z = size.z, which are 1 to 6
unfoldable pub side_of : Grid → Vec3 → Vec3 → Vec3 → Option ℕ
side_of g p q r =
    choose (all_at g p.x q.x r.x zero64) (Some 1)
    (choose (all_at g p.x q.x r.x g.size.x) (Some 2)
    (choose (all_at g p.y q.y r.y zero64) (Some 3)
    (choose (all_at g p.y q.y r.y g.size.y) (Some 4)
    (choose (all_at g p.z q.z r.z zero64) (Some 5)
    (choose (all_at g p.z q.z r.z g.size.z) (Some 6) None)))))

-- a triangle: its side, and its nodes
abbrev pub Triangle : Type 0
Triangle = ℕ × List ℕ

-- the nodes of the triangle a, b, c: its corners, then the middles of a-b, b-c, c-a
abbrev pub triangle_of : Grid → ℕ → ℕ → ℕ → List ℕ
triangle_of g a b c = a ∷ b ∷ c ∷ middle_of g (edge a b) ∷ middle_of g (edge b c) ∷ middle_of g (edge c a) ∷ []

-- a face with the nodes n, as a list of one triangle where it lies on a side, and of none elsewhere
abbrev pub on_side : Option ℕ → List ℕ → List Triangle
on_side None n = []
on_side (Some s) n = (s, n) ∷ []

-- the face a, b, c of a tetrahedron; b and c change places where ((b − a)×(c − a))·(o − a) > 0, o being the tetrahedron's other corner
unfoldable pub face_of : Grid → Corner → Corner → Corner → Corner → List Triangle
face_of g a b c o =
    let p = place_of g a in
    on_side
    (side_of g p (place_of g b) (place_of g c))
    (choose (lt zero64 (dot (cross (less (place_of g b) p) (less (place_of g c) p)) (less (place_of g o) p)))
    (triangle_of g (number_of g a) (number_of g c) (number_of g b))
    (triangle_of g (number_of g a) (number_of g b) (number_of g c)))

-- the triangles of the first n tetrahedra, each tetrahedron's faces 0-1-2, 0-1-3, 0-2-3, 1-2-3 in this order
unfoldable pub triangles_to : Grid → ℕ → List Triangle
triangles_to g n =
    fold_to
    (λ e l.
    let p = nth (four_of g e) in
    (((l ++ face_of g (p 0) (p 1) (p 2) (p 3)) ++ face_of g (p 0) (p 1) (p 3) (p 2)) ++ face_of g (p 0) (p 2) (p 3) (p 1))
    ++ face_of g (p 1) (p 2) (p 3) (p 0))
    []
    n

abbrev pub triangles_in : Grid → List Triangle
triangles_in g = triangles_to g (tets_in g)
