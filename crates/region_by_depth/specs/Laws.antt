-- The steps of a search add up. Assumes nothing.
use Rattle.std.specs.Prelude.{refl}
use Rattle.std.proofs.Common.{◌∙◌}
use Rattle.cells_walk.specs.Walks.{WalkLaws}
use Rattle.region_cells.proofs.Near.{near-none-x, near-none-y, near-more-x, near-more-y}
use Rattle.region_by_depth.specs.Searches.{Fits, Done}

pub search_laws : WalkLaws Fits Done
search_laws =
    record {
      none-x = λ s x y0 y1 z0 z1 _. record { t = refl; limit = refl; middles = refl; held = refl; marked = near-none-x s.t s.limit s.middles.centroids.now s.middles.cells.now s.marks.now x y0 y1 z0 z1 };
      none-y = λ s x0 x1 y z0 z1 _. record { t = refl; limit = refl; middles = refl; held = refl; marked = near-none-y s.t s.limit s.middles.centroids.now s.middles.cells.now s.marks.now x0 x1 y z0 z1 };
      more-x = λ s s' s'' x0 k y0 y1 z0 z1 le a b.
          record {
            t = b.t ∙ a.t;
            limit = b.limit ∙ a.limit;
            middles = b.middles ∙ a.middles;
            held = b.held ∙ a.held;
            marked = near-more-x s.t s.limit s.middles.centroids.now s.middles.cells.now s.marks.now s'.marks.now s''.marks.now x0 k y0 y1 z0 z1 le a.marked (rw (a.t, a.limit, a.middles) at b.marked);
          };
      more-y = λ s s' s'' x0 x1 y0 k z0 z1 le a b.
          record {
            t = b.t ∙ a.t;
            limit = b.limit ∙ a.limit;
            middles = b.middles ∙ a.middles;
            held = b.held ∙ a.held;
            marked = near-more-y s.t s.limit s.middles.centroids.now s.middles.cells.now s.marks.now s'.marks.now s''.marks.now x0 x1 y0 k z0 z1 le a.marked (rw (a.t, a.limit, a.middles) at b.marked);
          };
    }
