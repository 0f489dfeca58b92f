-- region.rs, `asymmetry`: the farthest any corner of a boundary triangle, seen in the plane, is from the boundary. Definitions only.
use Rattle.std.specs.Prelude.{ℕ, Bool, ◌||◌, List, [], ◌∷◌, map, length, get_or, eqb, Float}
use Rattle.std.specs.Float.{binary64}
use Rattle.std.specs.Float.Ieee.{mul}
use Rattle.lists.specs.Lists.{tabulate, fold_to, any_to, choose, zero64}
use Rattle.ieee.specs.Basic.{max_of}
use Rattle.ieee_root.specs.Sqrt.{sqrt_of}
use Rattle.geom.specs.Vectors.{image}
use Rattle.geom.specs.declared.Vec3.{Vec3}
use Rattle.geom.specs.declared.Mirror.{Mirror}
use Rattle.geom.specs.Points.{point}
use Rattle.region_tree.specs.Tree.{Tree, tree_of}
use Rattle.region_nearest.specs.Nearest.{search_in, unfound, best_of}

-- ---- the boundary

-- the coordinates of a triangle's three corners, in a row; its first three names are the corners
unfoldable pub nine_of : List (List Float) → List ℕ → List Float
nine_of nodes t =
    let a = point (get_or nodes (get_or t 0 0) []) in
    let b = point (get_or nodes (get_or t 1 0) []) in
    let c = point (get_or nodes (get_or t 2 0) []) in
    a.x ∷ a.y ∷ a.z ∷ b.x ∷ b.y ∷ b.z ∷ c.x ∷ c.y ∷ c.z ∷ []

-- `tris`
unfoldable pub faces_of : List (List Float) → List (List ℕ) → List (List Float)
faces_of nodes tris = map (nine_of nodes) tris

-- whether node k is a corner of a triangle
abbrev pub corner_of : List ℕ → ℕ → Bool
corner_of t k = (eqb (get_or t 0 0) k || eqb (get_or t 1 0) k) || eqb (get_or t 2 0) k

unfoldable pub is_corner : List (List ℕ) → ℕ → Bool
is_corner tris k = any_to (λ i. corner_of (get_or tris i []) k) (length tris)

-- ---- the distance

-- `Tree::new`: the tree of all triangles
unfoldable pub whole_tree : List (List Float) → Tree
whole_tree faces = tree_of faces (length faces) (tabulate (λ k. k) (length faces))

-- the farthest so far, with the corner p: its image's distance from the boundary by the tree's search, which needs none nearer than the farthest so far
unfoldable pub farther : List (List Float) → Tree → Mirror → Vec3 → Float → Float
farther faces t m p worst = max_of worst (sqrt_of binary64 (best_of (search_in faces (image m p) (mul binary64 worst worst) t unfound)))

-- the corners one after another, by number; 0.0 with no triangles
unfoldable pub asymmetry_of : List (List Float) → List (List ℕ) → Mirror → Float
asymmetry_of nodes tris m =
    let faces = faces_of nodes tris in
    fold_to (λ k worst. choose (is_corner tris k) (farther faces (whole_tree faces) m (point (get_or nodes k [])) worst) worst) zero64 (length nodes)
