-- The box of cells that is walked holds all elements that a triangle reaches. Assumes nothing.
use mathlib.Core.Path.{◌≡◌, ap, ◌∙◌}
use mathlib.Core.Bool.{Bool, true, false, ◌&&◌}
use mathlib.Core.List.{List, []}
use mathlib.Core.Logic.{⊎_elim}
use Prim.Native.Nat.{ℕ, ◌+◌, ◌-◌, ◌^◌, ◌≤◌, ◌<◌, min}
use native.Mathlib.Omega.{arith}
use lib.ListN.{length, get_or}
use lib.Dec.{leb, ltb}
use lib.Ieee.{Float, binary64, mul}
use borrow.Author.Tests.{le-leb, lt-leb, lt-ltb, le-ltb}
use Rattle.ieee_whole.proofs.Floor.{floor-fits}
use Rattle.lists.proofs.Laws.{get_or-tabulate}
use Rattle.geom.specs.Points.{point}
use Rattle.cells.specs.Cells.{axis, within, box_cell, in_box, changed}
use Rattle.cells.specs.Cells.{about}
use Rattle.cells.specs.declared.Block.{Block}
use Rattle.cells.proofs.Changed.{changed-none, changed-same, and-false}
use Rattle.lists.proofs.Bools.{le-or-lt}
use Rattle.region_cells.specs.Depth.{low_of, high_of, cell_number, axis_near, cells_near, reaches}
use Rattle.region_cells.specs.Steps.{cell_about, Ready, near_at, box_near, reached}
use Rattle.faces.specs.declared.Triangle.{Triangle}

-- the numbers within one of those from l to h, of those that fit 64 digits
range-within : (l h v : ℕ) → v < 2 ^ 64 → (leb l (v + 1) && leb v (h + 1)) ≡ within (l - 1) (min (h + 1) (2 ^ 64 - 1) + 1) v
unfolding within
range-within l h v fit =
    ⊎_elim
    (λ (a : l ≤ v + 1).
    rw (le-leb l (v + 1) a, le-leb (l - 1) v (omega arith))
    (⊎_elim
    (λ (b : v ≤ h + 1). rw (le-leb v (h + 1) b, lt-ltb v (min (h + 1) (2 ^ 64 - 1) + 1) (omega arith)))
    (λ (b : h + 1 < v). rw (lt-leb v (h + 1) b, le-ltb v (min (h + 1) (2 ^ 64 - 1) + 1) (omega arith)))
    (le-or-lt v (h + 1))))
    (λ (a : v + 1 < l). rw (lt-leb l (v + 1) a, lt-leb (l - 1) v (omega arith)))
    (le-or-lt l (v + 1))

axis-within : (size lo hi v : Float) → axis_near size lo hi v ≡ within (cell_number lo size - 1) (min (cell_number hi size + 1) (2 ^ 64 - 1) + 1) (cell_number v size)
unfolding axis_near cell_number
axis-within size lo hi v = range-within (cell_number lo size) (cell_number hi size) (cell_number v size) (floor-fits _)

within-empty : (x0 x1 v : ℕ) → x1 < x0 → within x0 (x1 + 1) v ≡ false
unfolding within
within-empty x0 x1 v h =
    ⊎_elim
    (λ (a : x0 ≤ v). rw (le-ltb v (x1 + 1) (omega arith)) (and-false (leb x0 v)))
    (λ (a : v < x0). rw (lt-leb x0 v a))
    (le-or-lt x0 v)

module _ (t : Triangle) (limit : Float) (centroids : List (List Float)) (cells : List (List ℕ)) (x0 x1 y0 y1 z0 z1 i : ℕ) where
  empty-x : x1 < x0 → box_near t limit centroids cells x0 (x1 + 1) y0 (y1 + 1) z0 (z1 + 1) i ≡ false
  unfolding box_near in_box box_cell
  empty-x h = rw (within-empty x0 x1 (axis cells i 0) h, and-false (ltb i (length cells)))

  empty-y : y1 < y0 → box_near t limit centroids cells x0 (x1 + 1) y0 (y1 + 1) z0 (z1 + 1) i ≡ false
  unfolding box_near in_box box_cell
  empty-y h = rw (within-empty y0 y1 (axis cells i 1) h, and-false (within x0 (x1 + 1) (axis cells i 0)), and-false (ltb i (length cells)))

module _ (t : Triangle) (size depth : Float) (centroids : List (List Float)) (cells : List (List ℕ)) (order first : List ℕ) (m : ℕ) (r : Ready size centroids cells order first m) where
  abbrev square : Float
  square = mul binary64 depth depth

  cell_of_lem : (i : ℕ) → i < length centroids → get_or cells i [] ≡ cell_about size (point (get_or centroids i []))
  cell_of_lem i lt = ap (λ (l : List (List ℕ)). get_or l i []) r.cells_are ∙ get_or-tabulate (λ j. cell_about size (point (get_or centroids j []))) (length centroids) i [] lt

  module _ (x0 x1 y0 y1 z0 z1 : ℕ) (ex0 : x0 ≡ cell_number (low_of t).x size - 1) (ex1 : x1 ≡ min (cell_number (high_of t).x size + 1) (2 ^ 64 - 1))
      (ey0 : y0 ≡ cell_number (low_of t).y size - 1) (ey1 : y1 ≡ min (cell_number (high_of t).y size + 1) (2 ^ 64 - 1))
      (ez0 : z0 ≡ cell_number (low_of t).z size - 1) (ez1 : z1 ≡ min (cell_number (high_of t).z size + 1) (2 ^ 64 - 1)) where
    box-reaches : (i : ℕ) → i < length centroids → box_near t square centroids cells x0 (x1 + 1) y0 (y1 + 1) z0 (z1 + 1) i ≡ reaches size depth t (point (get_or centroids i []))
    unfolding box_near reaches near_at in_box box_cell cells_near cell_about
    box-reaches i lt =
        let p = point (get_or centroids i []) in
        rw (lt-ltb i (length cells) (omega (arith, r.many)), cell_of_lem i lt, ex0, ex1, ey0, ey1, ez0, ez1, axis-within size (low_of t).x (high_of t).x p.x, axis-within size (low_of t).y (high_of t).y p.y, axis-within size (low_of t).z (high_of t).z p.z)

    -- what the walk leaves
    pub reach-done : (marks marks' : List Bool) → length marks ≡ length centroids → marks' ≡ changed (box_near t square centroids cells x0 (x1 + 1) y0 (y1 + 1) z0 (z1 + 1)) (λ _ _. true) marks → marks' ≡ reached size depth t centroids marks
    unfolding reached
    reach-done marks marks' len e = e ∙ changed-same (λ _ _. true) true _ _ marks (λ j lt. box-reaches j (omega (arith, len)))

    -- a box with no cells
    pub reach-none-x : (marks : List Bool) → length marks ≡ length centroids → x1 < x0 → marks ≡ reached size depth t centroids marks
    reach-none-x marks len h = reach-done marks marks len (changed-none (λ _ _. true) true _ marks (λ i. empty-x t square centroids cells x0 x1 y0 y1 z0 z1 i h))

    pub reach-none-y : (marks : List Bool) → length marks ≡ length centroids → y1 < y0 → marks ≡ reached size depth t centroids marks
    reach-none-y marks len h = reach-done marks marks len (changed-none (λ _ _. true) true _ marks (λ i. empty-y t square centroids cells x0 x1 y0 y1 z0 z1 i h))

  -- the same of the block about the triangle's box
  module _ (b : Block) (is : b ≡ about (cell_about size (low_of t)) (cell_about size (high_of t))) where
    pub walk-done : (marks marks' : List Bool) → length marks ≡ length centroids → marks' ≡ changed (box_near t square centroids cells b.x0 (b.x1 + 1) b.y0 (b.y1 + 1) b.z0 (b.z1 + 1)) (λ _ _. true) marks → marks' ≡ reached size depth t centroids marks
    unfolding cell_about
    walk-done = reach-done b.x0 b.x1 b.y0 b.y1 b.z0 b.z1 (ap (λ (v : Block). v.x0) is) (ap (λ (v : Block). v.x1) is) (ap (λ (v : Block). v.y0) is) (ap (λ (v : Block). v.y1) is) (ap (λ (v : Block). v.z0) is) (ap (λ (v : Block). v.z1) is)

    pub walk-none-x : (marks : List Bool) → length marks ≡ length centroids → b.x1 < b.x0 → marks ≡ reached size depth t centroids marks
    unfolding cell_about
    walk-none-x = reach-none-x b.x0 b.x1 b.y0 b.y1 b.z0 b.z1 (ap (λ (v : Block). v.x0) is) (ap (λ (v : Block). v.x1) is) (ap (λ (v : Block). v.y0) is) (ap (λ (v : Block). v.y1) is) (ap (λ (v : Block). v.z0) is) (ap (λ (v : Block). v.z1) is)

    pub walk-none-y : (marks : List Bool) → length marks ≡ length centroids → b.y1 < b.y0 → marks ≡ reached size depth t centroids marks
    unfolding cell_about
    walk-none-y = reach-none-y b.x0 b.x1 b.y0 b.y1 b.z0 b.z1 (ap (λ (v : Block). v.x0) is) (ap (λ (v : Block). v.x1) is) (ap (λ (v : Block). v.y0) is) (ap (λ (v : Block). v.y1) is) (ap (λ (v : Block). v.z0) is) (ap (λ (v : Block). v.z1) is)
