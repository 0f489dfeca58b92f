-- What the steps of the code promise each other: the sides of a face, and the triangles stored. No part of what a caller must believe. Definitions only.
use Rattle.std.specs.Prelude.{ℕ, ◌+◌, ◌≤◌, ◌≡◌, Bool, ◌&&◌, List, [], ◌∷◌, length, get_or, set, Option, Some, None}
use Rattle.std.specs.Float.{nan}
use Rattle.std.specs.Float.Ieee.{lt}
use Rattle.lists.specs.Lists.{choose, overwrite, zero64}
use Rattle.geom.specs.Vectors.{vec, less, dot, cross}
use Rattle.geom.specs.declared.Vec3.{Vec3}
use Rattle.mesh_lattice.specs.declared.Grid.{Grid}
use Rattle.mesh_triangles.specs.declared.Touch.{Touch}
use Rattle.mesh_lattice.specs.declared.Vertex.{Vertex}
use Rattle.mesh_triangles.specs.declared.Placer.{Placer}
use Rattle.mesh_lattice.specs.Lattice.{tets_in, tet_of}
use Rattle.mesh_triangles.specs.Triangles.{at, side_of, triangles_in}

-- the sides of the box that a point lies on
abbrev pub touch_of : Grid → Vec3 → Touch
touch_of g p =
    record {
      x0 = at g p.x zero64;
      x1 = at g p.x g.size.x;
      y0 = at g p.y zero64;
      y1 = at g p.y g.size.y;
      z0 = at g p.z zero64;
      z1 = at g p.z g.size.z;
    }

-- the first side that three points share
unfoldable pub side_by : Touch → Touch → Touch → Option ℕ
side_by p q r =
    choose (p.x0 && (q.x0 && r.x0)) (Some 1)
    (choose (p.x1 && (q.x1 && r.x1)) (Some 2)
    (choose (p.y0 && (q.y0 && r.y0)) (Some 3)
    (choose (p.y1 && (q.y1 && r.y1)) (Some 4)
    (choose (p.z0 && (q.z0 && r.z0)) (Some 5)
    (choose (p.z1 && (q.z1 && r.z1)) (Some 6) None)))))

-- where corner m of a tetrahedron is
abbrev pub place_at : List Vertex → ℕ → Vec3
place_at v m = (get_or v m (record { number = 0; place = vec nan nan nan })).place

-- the sides of a tetrahedron's faces 0-1-2, 0-1-3, 0-2-3, 1-2-3
abbrev pub sides_of : Grid → List Vertex → List (Option ℕ)
sides_of g v =
    let p = place_at v in
    side_of g (p 0) (p 1) (p 2) ∷ side_of g (p 0) (p 1) (p 3) ∷ side_of g (p 0) (p 2) (p 3) ∷ side_of g (p 1) (p 2) (p 3) ∷ []

-- how many triangles a face is
abbrev pub one_of : Option ℕ → ℕ
one_of None = 0
one_of (Some s) = 1

-- ((b − a)×(c − a))·(o − a) > 0
abbrev pub is_inward : Vec3 → Vec3 → Vec3 → Vec3 → Bool
is_inward a b c o = lt zero64 (dot (cross (less b a) (less c a)) (less o a))

-- a triangle's nodes, the other way round where t holds
unfoldable pub wound_by : Bool → List ℕ → List ℕ
wound_by t n =
    choose t
    (get_or n 0 0 ∷ get_or n 2 0 ∷ get_or n 1 0 ∷ get_or n 5 0 ∷ get_or n 4 0 ∷ get_or n 3 0 ∷ [])
    (get_or n 0 0 ∷ get_or n 1 0 ∷ get_or n 2 0 ∷ get_or n 3 0 ∷ get_or n 4 0 ∷ get_or n 5 0 ∷ [])

-- the triangles stored, and the next one's place
pub record Placing : Type 0 where
  pub surfaces : List ℕ
  pub tris : List (List ℕ)
  pub next : ℕ

-- a triangle more, where it lies on a side
unfoldable pub placed : Placing → Option ℕ → List ℕ → Placing
placed p None n = p
placed p (Some s) n = record { surfaces = set p.surfaces p.next s; tris = set p.tris p.next n; next = p.next + 1 }

-- what the code holds
abbrev pub placing : Placer → Placing
placing p = record { surfaces = p.surfaces.now; tris = p.tris.now; next = p.next }

-- it holds the same lists, as long as they were
pub record SameLists (p p' : Placer) : Type 0 where
  pub surfaces : p'.surfaces.ghost_name ≡ p.surfaces.ghost_name
  pub tris : p'.tris.ghost_name ≡ p.tris.ghost_name
  pub surfaces-long : length p'.surfaces.now ≡ length p.surfaces.now
  pub tris-long : length p'.tris.now ≡ length p.tris.now

-- the face a, b, c, with the nodes n
abbrev pub placed_face : Grid → Vec3 → Vec3 → Vec3 → Vec3 → List ℕ → Placing → Placing
placed_face g a b c o n p = placed p (side_of g a b c) (wound_by (is_inward a b c o) n)

-- six of a tetrahedron's nodes
abbrev pub nodes_at : List ℕ → ℕ → ℕ → ℕ → ℕ → ℕ → ℕ → List ℕ
nodes_at t a b c d e f = get_or t a 0 ∷ get_or t b 0 ∷ get_or t c 0 ∷ get_or t d 0 ∷ get_or t e 0 ∷ get_or t f 0 ∷ []

-- the faces 0-1-2, 0-1-3, 0-2-3, 1-2-3 of a tetrahedron with corners v and nodes t
unfoldable pub placed_all : Grid → List Vertex → List ℕ → Placing → Placing
placed_all g v t s =
    let p = place_at v in
    placed_face g (p 1) (p 2) (p 3) (p 0) (nodes_at t 1 2 3 5 8 9)
    (placed_face g (p 0) (p 2) (p 3) (p 1) (nodes_at t 0 2 3 6 8 7)
    (placed_face g (p 0) (p 1) (p 3) (p 2) (nodes_at t 0 1 3 4 9 7)
    (placed_face g (p 0) (p 1) (p 2) (p 3) (nodes_at t 0 1 2 4 5 6) s)))

-- what `triangles` asks: the tetrahedra stored
pub record Meshed (g : Grid) (tets : List (List ℕ)) : Type 0 where
  pub places : tets_in g ≤ length tets
  pub tets-are : tets ≡ overwrite (tet_of g) (tets_in g) tets

-- what `triangles` leaves
pub record Bounded (g : Grid) (surfaces surfaces' : List ℕ) (tris tris' : List (List ℕ)) (r : ℕ) : Type 0 where
  pub next-is : r ≡ length (triangles_in g)
  pub surfaces-are : surfaces' ≡ overwrite (λ k. (get_or (triangles_in g) k (0, [])).0) (length (triangles_in g)) surfaces
  pub tris-are : tris' ≡ overwrite (λ k. (get_or (triangles_in g) k (0, [])).1) (length (triangles_in g)) tris
