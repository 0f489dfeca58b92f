-- region.rs, `passive`: what a kept set with a depth marks besides the elements of its nodes. Each operation is rounded once. Definitions only.
use Rattle.std.specs.Prelude.{ℕ, ◌+◌, Bool, ◌&&◌, List, [], length, get_or, leb, Float}
use Rattle.std.specs.Float.{binary64}
use Rattle.std.specs.Float.Ieee.{mul, div, le}
use Rattle.lists.specs.Lists.{fold_to, any_to, choose, zero64}
use Rattle.ieee.specs.Basic.{max_of}
use Rattle.ieee_whole.specs.Whole.{floor_at}
use Rattle.geom.specs.Vectors.{least, greatest, dist}
use Rattle.geom.specs.declared.Vec3.{Vec3}
use Rattle.faces.specs.Triangle.{dist2_to_triangle}
use Rattle.lent.specs.Domain.{is_depth}
use Rattle.mesh.specs.Mesh.{node_of}
use Rattle.faces.specs.declared.Triangle.{Triangle}

-- a triangle's corners: the first three of its nodes
unfoldable pub corners_of : List (List Float) → List ℕ → Triangle
corners_of nodes tri = record { a = node_of nodes tri 0; b = node_of nodes tri 1; c = node_of nodes tri 2 }

-- `Grid::new`: the longest side of those of n triangles that a set has; the sides are a-b, b-c and c-a
unfoldable pub longer : Triangle → Float → Float
longer t m = max_of (max_of (max_of m (dist t.a t.b)) (dist t.b t.c)) (dist t.c t.a)

unfoldable pub longest_side : List (List Float) → List (List ℕ) → (ℕ → Bool) → ℕ → Float
longest_side nodes tris set n = fold_to (λ t m. choose (set t) (longer (corners_of nodes (get_or tris t [])) m) m) zero64 n

-- 01: "a cell is the larger of the depth and the longest side"
unfoldable pub cell_size : List (List Float) → List (List ℕ) → (ℕ → Bool) → Float → Float
cell_size nodes tris set depth = max_of depth (longest_side nodes tris set (length tris))

-- `Grid::key`: the whole number at or below v/size, and 2^63 more
unfoldable pub cell_number : Float → Float → ℕ
cell_number v size = floor_at (div binary64 v size)

-- on an axis the cells from lo's to hi's come within one of v's
unfoldable pub axis_near : Float → Float → Float → Float → Bool
axis_near size lo hi v = leb (cell_number lo size) (cell_number v size + 1) && leb (cell_number v size) (cell_number hi size + 1)

-- the corners of a triangle's box
unfoldable pub low_of : Triangle → Vec3
low_of t = least (least t.a t.b) t.c

unfoldable pub high_of : Triangle → Vec3
high_of t = greatest (greatest t.a t.b) t.c

-- 01: "only if its cells come within one of the middle's cell on each axis": the cells of a triangle's box
unfoldable pub cells_near : Float → Triangle → Vec3 → Bool
cells_near size t p =
    let lo = low_of t in
    let hi = high_of t in
    axis_near size lo.x hi.x p.x && (axis_near size lo.y hi.y p.y && axis_near size lo.z hi.z p.z)

-- 01: "a triangle marks an element at squared distance at most depth²": the square is one product
unfoldable pub at_most : Float → Triangle → Vec3 → Bool
at_most limit t p = le (dist2_to_triangle p t.a t.b t.c) limit

-- the triangle marks the element whose middle is p
unfoldable pub reaches : Float → Float → Triangle → Vec3 → Bool
reaches size depth t p = cells_near size t p && at_most (mul binary64 depth depth) t p

-- a triangle of the set does, where the set has a depth
unfoldable pub by_depth : List (List Float) → List (List ℕ) → (ℕ → Bool) → Float → Vec3 → Bool
by_depth nodes tris set depth p = is_depth depth && any_to (λ t. set t && reaches (cell_size nodes tris set depth) depth (corners_of nodes (get_or tris t [])) p) (length tris)
