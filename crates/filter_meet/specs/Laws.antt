-- The steps of a search add up. Assumes nothing.
use Rattle.std.specs.Prelude.{refl}
use Rattle.std.proofs.Common.{◌∙◌}
use Rattle.cells_walk.specs.Walks.{WalkLaws}
use Rattle.filter_look.proofs.Keeping.{kept_same, kept_on}
use Rattle.filter_look.proofs.Taking.{took_none, took_more, near_grows-x, near_grows-y, near_none-x, near_none-y}
use Rattle.filter_meet.specs.Searches.{Ready, Done}

pub search_laws : WalkLaws Ready Done
search_laws =
    record {
      none-x = λ s x y0 y1 z0 z1 l. record { g = refl; q = refl; met = refl; kept = kept_same _; found = refl; took = took_none _ s.met.now _ (near_none-x s.g.now s.q x y0 y1 z0 z1) l.counted };
      none-y = λ s x0 x1 y z0 z1 l. record { g = refl; q = refl; met = refl; kept = kept_same _; found = refl; took = took_none _ s.met.now _ (near_none-y s.g.now s.q x0 x1 y z0 z1) l.counted };
      more-x = λ s s' s'' x0 k y0 y1 z0 z1 le a b.
          record {
            g = b.g ∙ a.g;
            q = b.q ∙ a.q;
            met = b.met ∙ a.met;
            kept = kept_on _ _ _ a.kept b.kept;
            found = b.found ∙ a.found;
            took = took_more _ s.met.now _ _ _ s'.met.now s''.met.now (near_grows-x s.g.now s.q x0 k y0 y1 z0 z1 le) a.kept.mark a.took (rw (a.g, a.q) at b.took);
          };
      more-y = λ s s' s'' x0 x1 y0 k z0 z1 le a b.
          record {
            g = b.g ∙ a.g;
            q = b.q ∙ a.q;
            met = b.met ∙ a.met;
            kept = kept_on _ _ _ a.kept b.kept;
            found = b.found ∙ a.found;
            took = took_more _ s.met.now _ _ _ s'.met.now s''.met.now (near_grows-y s.g.now s.q x0 x1 y0 k z0 z1 le) a.kept.mark a.took (rw (a.g, a.q) at b.took);
          };
    }
