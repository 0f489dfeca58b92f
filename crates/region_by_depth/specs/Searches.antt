-- What a search about a triangle leaves. Definitions only.
use Rattle.std.specs.Prelude.{◌≡◌, ℕ, true, length}
use Rattle.cells.specs.Cells.{changed}
use Rattle.region_cells.specs.Steps.{box_near}
use Rattle.region_by_depth.specs.declared.walk.Search.{Search}

-- each middle has a mark
abbrev pub Fits : Search → Type 0
Fits s = length s.marks.now ≡ length s.middles.centroids.now

-- the elements in these ranges of cells that are near are marked
pub record Done (s : Search) (x0 x1 y0 y1 z0 z1 : ℕ) (s' : Search) : Type 0 where
  pub t : s'.t ≡ s.t
  pub limit : s'.limit ≡ s.limit
  pub middles : s'.middles ≡ s.middles
  pub held : s'.marks.ghost_name ≡ s.marks.ghost_name
  pub marked : s'.marks.now ≡ changed (box_near s.t s.limit s.middles.centroids.now s.middles.cells.now x0 x1 y0 y1 z0 z1) (λ _ _. true) s.marks.now
