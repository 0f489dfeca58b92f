-- How the code goes about the elements near a triangle. No caller must believe this: `Depth` says what comes of it. Definitions only.
use Rattle.std.specs.Prelude.{ℕ, ◌+◌, ◌≤◌, ◌<◌, ◌≡◌, Bool, true, ◌&&◌, List, [], ◌∷◌, length, get_or, Float}
use Rattle.lists.specs.Lists.{tabulate, fold_to, choose}
use Rattle.geom.specs.declared.Vec3.{Vec3}
use Rattle.geom.specs.Points.{point}
use Rattle.cells.specs.Cells.{axis, in_box, box_cell, changed}
use Rattle.cells.specs.Filing.{Filed}
use Rattle.region_cells.specs.Depth.{corners_of, cell_number, at_most, reaches}
use Rattle.faces.specs.declared.Triangle.{Triangle}

-- the cell of a middle, by x, y, z
unfoldable pub cell_about : Float → Vec3 → List ℕ
cell_about size p = cell_number p.x size ∷ cell_number p.y size ∷ cell_number p.z size ∷ []

-- the middles' cells, filed in m buckets
pub record Ready (size : Float) (centroids : List (List Float)) (cells : List (List ℕ)) (order first : List ℕ) (m : ℕ) : Type 0 where
  pub cells_are : cells ≡ tabulate (λ i. cell_about size (point (get_or centroids i []))) (length centroids)
  pub many : length cells ≡ length centroids
  pub filed : ∥ Filed cells order first m ∥₁
  pub some : 0 < m
  pub firsts : m < length first
  pub orders : length cells ≤ length order
  pub elements : (k : ℕ) → k < length cells → get_or order k 0 < length cells

-- middle i is at most at the limit
unfoldable pub near_at : Triangle → Float → List (List Float) → ℕ → Bool
near_at t limit centroids i = at_most limit t (point (get_or centroids i []))

-- and its cell is in these ranges
unfoldable pub box_near : Triangle → Float → List (List Float) → List (List ℕ) → ℕ → ℕ → ℕ → ℕ → ℕ → ℕ → ℕ → Bool
box_near t limit centroids cells x0 x1 y0 y1 z0 z1 i = in_box cells x0 x1 y0 y1 z0 z1 i && near_at t limit centroids i

-- the same of the middle at position k
unfoldable pub seen_at : Triangle → Float → ℕ → ℕ → ℕ → ℕ → ℕ → List (List Float) → List (List ℕ) → List ℕ → Bool
seen_at t limit k x y z0 z1 centroids cells order =
    let i = get_or order k 0 in
    box_cell (axis cells i 0) (axis cells i 1) (axis cells i 2) x (x + 1) y (y + 1) z0 (z1 + 1) && near_at t limit centroids i

-- the elements that a triangle reaches are marked
unfoldable pub reached : Float → Float → Triangle → List (List Float) → List Bool → List Bool
reached size depth t centroids marks = changed (λ i. reaches size depth t (point (get_or centroids i []))) (λ _ _. true) marks

-- those that the first n triangles of a set reach are
unfoldable pub reached_by : List (List Float) → List (List ℕ) → (ℕ → Bool) → Float → Float → List (List Float) → ℕ → List Bool → List Bool
reached_by nodes tris set size depth centroids n marks = fold_to (λ t w. choose (set t) (reached size depth (corners_of nodes (get_or tris t [])) centroids w) w) marks n
