-- The block of cubes about an image holds the elements that count for it. Assumes nothing.
use Rattle.std.proofs.Common.{◌≡◌, ◌∙◌, sym, ap, ℕ, ◌+◌, ◌-◌, ◌^◌, ◌≤◌, ◌<◌, min, Bool, true, false, not, ◌&&◌, List, length, get_or, arith}
use borrow.Author.Tests.{lt-ltb}
use Rattle.geom.specs.declared.Vec3.{Vec3}
use Rattle.geom.specs.Points.{stored}
use Rattle.cells.specs.Cells.{axis, in_block, cell_at, cell_of, about}
use Rattle.cells.specs.declared.Block.{Block}
use Rattle.cells.proofs.Boxes.{block_box}
use Rattle.cells.proofs.Fit.{cell-fits}
use Rattle.filter.specs.Filter.{middle, lowest, highest, outside, near_cubes, counts}
use Rattle.filter_look.specs.Steps.{Lists, nearer, near_box, gained, Took}
use Rattle.filter_look.specs.declared.grid.Grid.{Grid}
use Rattle.filter_look.specs.declared.met.Met.{Met}
use Rattle.filter_look.proofs.Taking.{took_same}

-- ---- what counts for an image

-- outside the box, nothing
pub counts_none : (g : Grid) (q : Vec3) → outside g.extent.lo g.extent.hi g.radius q ≡ true → (i : ℕ) → counts g.centroids.now g.radius q i ≡ false
unfolding counts
counts_none g q e i = let h = rw (g.ready.lo, g.ready.hi) at e in rw h

-- the image's cube
abbrev pub cube : Grid → Vec3 → List ℕ
cube g q = cell_of (stored q) g.extent.lo g.radius

abbrev pub block : Grid → Vec3 → Block
block g q = about (cube g q) (cube g q)

-- the ranges of the block about it
about-range : (x : ℕ) → x < 2 ^ 64 → x - 1 ≤ min (x + 1) (2 ^ 64 - 1)
about-range x fit = omega arith

module _ (g : Grid) (q : Vec3) where
  pub block-x : (block g q).x0 ≤ (block g q).x1
  unfolding cell_of
  block-x = about-range _ (cell-fits q.x g.extent.lo.x g.radius)

  pub block-y : (block g q).y0 ≤ (block g q).y1
  unfolding cell_of
  block-y = about-range _ (cell-fits q.y g.extent.lo.y g.radius)

  -- the cube that is held is the middle's
  cube_0 : (i : ℕ) → i < length g.cell.now → axis g.cell.now i 0 ≡ cell_at (middle g.centroids.now i).x (lowest g.centroids.now).x g.radius
  unfolding cell_of
  cube_0 i lt = ap (λ (c : List ℕ). get_or c 0 0) (g.ready.cubes i lt)

  cube_1 : (i : ℕ) → i < length g.cell.now → axis g.cell.now i 1 ≡ cell_at (middle g.centroids.now i).y (lowest g.centroids.now).y g.radius
  unfolding cell_of
  cube_1 i lt = ap (λ (c : List ℕ). get_or c 1 0) (g.ready.cubes i lt)

  cube_2 : (i : ℕ) → i < length g.cell.now → axis g.cell.now i 2 ≡ cell_at (middle g.centroids.now i).z (lowest g.centroids.now).z g.radius
  unfolding cell_of
  cube_2 i lt = ap (λ (c : List ℕ). get_or c 2 0) (g.ready.cubes i lt)

  -- within the box, the elements of the block about the image's cube that are near enough
  counts_block : outside (lowest g.centroids.now) (highest g.centroids.now) g.radius q ≡ false → (i : ℕ) → i < length g.cell.now
      → (let x = cell_at q.x (lowest g.centroids.now).x g.radius in
      let y = cell_at q.y (lowest g.centroids.now).y g.radius in
      let z = cell_at q.z (lowest g.centroids.now).z g.radius in
      near_box g q (x - 1) (min (x + 1) (2 ^ 64 - 1) + 1) (y - 1) (min (y + 1) (2 ^ 64 - 1) + 1) (z - 1) (min (z + 1) (2 ^ 64 - 1) + 1) i)
      ≡ counts g.centroids.now g.radius q i
  unfolding counts near_cubes
  counts_block e i lt =
      let x = cell_at q.x (lowest g.centroids.now).x g.radius in
      let y = cell_at q.y (lowest g.centroids.now).y g.radius in
      let z = cell_at q.z (lowest g.centroids.now).z g.radius in
      let inside : in_block g.cell.now x y z i ≡ near_cubes g.centroids.now g.radius (middle g.centroids.now i) q = unfold in_block in rw (lt-ltb i (length g.cell.now) lt, cube_0 i lt, cube_1 i lt, cube_2 i lt) in
      ap (λ (t : Bool). t && nearer g.centroids.now g.radius q i) (block_box g.cell.now g.ready.fit x y z i ∙ inside) ∙ sym (ap (λ (t : Bool). not t && (near_cubes g.centroids.now g.radius (middle g.centroids.now i) q && nearer g.centroids.now g.radius q i)) e)

  -- the same of what was met in that block
  pub block_counts : (m m' : Met) → Lists (length g.cell.now) m → outside g.extent.lo g.extent.hi g.radius q ≡ false
      → (let b = block g q in Took (near_box g q b.x0 (b.x1 + 1) b.y0 (b.y1 + 1) b.z0 (b.z1 + 1)) (gained g.centroids.now g.radius q) m m')
      → Took (counts g.centroids.now g.radius q) (gained g.centroids.now g.radius q) m m'
  unfolding cell_of
  block_counts m m' l out t =
      let within : outside (lowest g.centroids.now) (highest g.centroids.now) g.radius q ≡ false = rw (g.ready.lo, g.ready.hi) at out in
      took_same (gained g.centroids.now g.radius q) m _ (counts g.centroids.now g.radius q) m' (length g.cell.now) l
      (λ j lt. rw g.ready.lo (counts_block within j lt)) t
