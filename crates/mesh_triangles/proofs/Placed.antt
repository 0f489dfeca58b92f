-- What the code has stored is the list of the triangles. Kept by each face, and so by a tetrahedron's four. Assumes nothing.
use mathlib.Core.Path.{◌≡◌, refl, sym, ap, ◌∙◌, subst}
use mathlib.Core.Bool.{Bool, true, false}
use mathlib.Core.List.{List, [], ◌∷◌, ◌++◌, append-nil}
use Prim.Native.Nat.{ℕ, ◌+◌, ◌≤◌}
use native.Mathlib.Omega.{arith}
use native.Mathlib.Nat.{min_comm, max_comm}
use lib.ListN.{length, get_or, set, length-append, get_or-append}
use lib.Seq.{get_or-append_seam}
use Rattle.std.proofs.Common.{Option, Some, None}
use Rattle.lists.specs.Lists.{choose, overwrite}
use Rattle.lists.proofs.Laws.{overwrite-same, overwrite-none}
use Rattle.mesh_lattice.specs.declared.Grid.{Grid}
use Rattle.mesh_lattice.specs.declared.Corner.{Corner}
use Rattle.mesh_lattice.specs.declared.Vertex.{Vertex}
use Rattle.geom.specs.declared.Vec3.{Vec3}
use Rattle.mesh_lattice.specs.Lattice.{number_of, place_of, nth, four_of, vertices_of, edge, sides_of, middle_of, tet_of}
use Rattle.mesh_triangles.specs.Triangles.{side_of, Triangle, triangle_of, on_side, face_of, triangles_to}
use Rattle.mesh_triangles.specs.Steps.{is_inward, wound_by, Placing, placed, placed_face, nodes_at, placed_all}
use Rattle.mesh_lattice.proofs.Lists.{overwrite-one}
use Rattle.mesh_triangles.proofs.Faces.{with_faces, faces-more}

-- ---- one face

placed-few : (p : Placing) (s : Option ℕ) (n : List ℕ) → (placed p s n).next ≤ p.next + 1
unfolding placed
placed-few p None n = omega arith
placed-few p (Some s) n = omega arith

pub few-more : (p q : Placing) (s : Option ℕ) (k b : ℕ) (n : List ℕ) → q ≡ placed p s n → p.next ≤ b + k → q.next ≤ b + (k + 1)
few-more p q s k b n e h = omega (arith, ap (λ (r : Placing). r.next) e, placed-few p s n)

-- a face after others, whose side is s
pub face-placed : (g : Grid) (a b c o : Vec3) (n : List ℕ) (s : Option ℕ) (p q r : Placing) → s ≡ side_of g a b c
    → r ≡ placed q s (wound_by (is_inward a b c o) n) → q ≡ p → r ≡ placed_face g a b c o n p
face-placed g a b c o n s p q r es er eq = er ∙ (λ i. placed (eq i) (es i) (wound_by (is_inward a b c o) n))

pub record Placed (surfaces : List ℕ) (tris : List (List ℕ)) (l : List Triangle) (p : Placing) : Type 0 where
  pub next-is : p.next ≡ length l
  pub surfaces-are : p.surfaces ≡ overwrite (λ k. (get_or l k (0, [])).0) (length l) surfaces
  pub tris-are : p.tris ≡ overwrite (λ k. (get_or l k (0, [])).1) (length l) tris

-- one triangle more in a list of what is stored of each
store-one : {A : Type 0} (f : Triangle → A) (l : List Triangle) (x : Triangle) (lent : List A)
    → set (overwrite (λ k. f (get_or l k (0, []))) (length l) lent) (length l) (f x) ≡ overwrite (λ k. f (get_or (l ++ x ∷ []) k (0, []))) (length (l ++ x ∷ [])) lent
store-one f l x lent =
    let new : ℕ → _ = λ k. f (get_or (l ++ x ∷ []) k (0, [])) in
    (λ i. set
    (overwrite-same (λ k. f (get_or l k (0, []))) new (length l) lent (λ k h. ap f (sym (get_or-append l (x ∷ []) (0, []) k h))) i)
    (length l)
    (f (sym (get_or-append_seam l x [] (0, [])) i)))
    ∙ overwrite-one new (length l) lent
    ∙ ap (λ (n : ℕ). overwrite new n lent) (sym (length-append l (x ∷ [])))

module _ (surfaces : List ℕ) (tris : List (List ℕ)) where
  pub placed-none : Placed surfaces tris [] (record { surfaces = surfaces; tris = tris; next = 0 })
  placed-none = record { next-is = refl; surfaces-are = sym (overwrite-none _ surfaces); tris-are = sym (overwrite-none _ tris) }

  one_placed : (l : List Triangle) (p : Placing) (s : Option ℕ) (n : List ℕ) → Placed surfaces tris l p → Placed surfaces tris (l ++ on_side s n) (placed p s n)
  unfolding placed
  one_placed l p None n h = subst (λ (m : List Triangle). Placed surfaces tris m p) (sym (append-nil l)) h
  one_placed l p (Some s) n h =
      record {
        next-is = ap (λ (k : ℕ). k + 1) h.next-is ∙ sym (length-append l ((s, n) ∷ []));
        surfaces-are = (λ i. set (h.surfaces-are i) (h.next-is i) s) ∙ store-one (λ x. x.0) l (s, n) surfaces;
        tris-are = (λ i. set (h.tris-are i) (h.next-is i) n) ∙ store-one (λ x. x.1) l (s, n) tris;
      }

-- ---- a triangle's nodes

turned : (a b : ℕ) → edge a b ≡ edge b a
turned a b = λ i. (min_comm a b i, max_comm a b i)

wound-is : (g : Grid) (t : Bool) (a b c : ℕ) → wound_by t (triangle_of g a b c) ≡ choose t (triangle_of g a c b) (triangle_of g a b c)
unfolding wound_by choose
wound-is g true a b c = λ i. a ∷ c ∷ b ∷ middle_of g (turned c a i) ∷ middle_of g (turned b c i) ∷ middle_of g (turned a b i) ∷ []
wound-is g false a b c = refl

module _ (g : Grid) (e : ℕ) where
  n : ℕ → ℕ
  n k = number_of g (nth (four_of g e) k)

  abc : nodes_at (tet_of g e) 0 1 2 4 5 6 ≡ triangle_of g (n 0) (n 1) (n 2)
  unfolding n tet_of sides_of
  abc = refl

  abd : nodes_at (tet_of g e) 0 1 3 4 9 7 ≡ triangle_of g (n 0) (n 1) (n 3)
  unfolding n tet_of sides_of
  abd = λ i. n 0 ∷ n 1 ∷ n 3 ∷ middle_of g (edge (n 0) (n 1)) ∷ middle_of g (edge (n 1) (n 3)) ∷ middle_of g (turned (n 0) (n 3) i) ∷ []

  acd : nodes_at (tet_of g e) 0 2 3 6 8 7 ≡ triangle_of g (n 0) (n 2) (n 3)
  unfolding n tet_of sides_of
  acd = λ i. n 0 ∷ n 2 ∷ n 3 ∷ middle_of g (turned (n 2) (n 0) i) ∷ middle_of g (edge (n 2) (n 3)) ∷ middle_of g (turned (n 0) (n 3) i) ∷ []

  bcd : nodes_at (tet_of g e) 1 2 3 5 8 9 ≡ triangle_of g (n 1) (n 2) (n 3)
  unfolding n tet_of sides_of
  bcd = λ i. n 1 ∷ n 2 ∷ n 3 ∷ middle_of g (edge (n 1) (n 2)) ∷ middle_of g (edge (n 2) (n 3)) ∷ middle_of g (turned (n 1) (n 3) i) ∷ []

-- ---- a tetrahedron's faces

module _ (surfaces : List ℕ) (tris : List (List ℕ)) where
  face-more : (g : Grid) (a b c o : Corner) (m : List ℕ) (l : List Triangle) (p : Placing) → m ≡ triangle_of g (number_of g a) (number_of g b) (number_of g c)
      → Placed surfaces tris l p → Placed surfaces tris (l ++ face_of g a b c o) (placed_face g (place_of g a) (place_of g b) (place_of g c) (place_of g o) m p)
  unfolding face_of
  face-more g a b c o m l p e h =
      subst (λ (x : List ℕ). Placed surfaces tris (l ++ face_of g a b c o) (placed p (side_of g (place_of g a) (place_of g b) (place_of g c)) x))
      (sym (ap (wound_by (is_inward (place_of g a) (place_of g b) (place_of g c) (place_of g o))) e ∙ wound-is g (is_inward (place_of g a) (place_of g b) (place_of g c) (place_of g o)) (number_of g a) (number_of g b) (number_of g c)))
      (one_placed surfaces tris l p (side_of g (place_of g a) (place_of g b) (place_of g c)) _ h)

  pub faces-placed : (g : Grid) (e : ℕ) (l : List Triangle) (p : Placing) → Placed surfaces tris l p → Placed surfaces tris (with_faces g e l) (placed_all g (vertices_of g e) (tet_of g e) p)
  unfolding placed_all n
  faces-placed g e l p h =
      face-more g _ _ _ _ _ _ _ (bcd g e) (face-more g _ _ _ _ _ _ _ (acd g e) (face-more g _ _ _ _ _ _ _ (abd g e) (face-more g _ _ _ _ _ _ _ (abc g e) h)))

  -- a turn: tetrahedron e, whose corners are v and whose nodes are t
  pub turn-placed : (g : Grid) (e : ℕ) (v : List Vertex) (t : List ℕ) (p q : Placing) → v ≡ vertices_of g e → t ≡ tet_of g e → q ≡ placed_all g v t p
      → Placed surfaces tris (triangles_to g e) p → Placed surfaces tris (triangles_to g (e + 1)) q
  turn-placed g e v t p q ev et eq h =
      subst (λ (l : List Triangle). Placed surfaces tris l q) (faces-more g e)
      (subst (Placed surfaces tris (with_faces g e (triangles_to g e))) (sym (eq ∙ (λ i. placed_all g (ev i) (et i) p))) (faces-placed g e (triangles_to g e) p h))
