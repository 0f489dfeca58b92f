-- What a search about a point leaves. Definitions only.
use Rattle.std.specs.Prelude.{◌≡◌, ℕ, length}
use Rattle.filter_look.specs.Steps.{Lists, Kept, Took, near_box, gained}
use Rattle.filter_meet.specs.declared.walk.Search.{Search}

abbrev pub Ready : Search → Type 0
Ready s = Lists (length s.g.now.cell.now) s.met.now

-- the elements in these ranges of cubes that are near enough are met
pub record Done (s : Search) (x0 x1 y0 y1 z0 z1 : ℕ) (s' : Search) : Type 0 where
  pub g : s'.g ≡ s.g
  pub q : s'.q ≡ s.q
  pub met : s'.met.ghost_name ≡ s.met.ghost_name
  pub kept : Kept s.met.now s'.met.now
  pub found : s'.met.now.found.now ≡ s.met.now.found.now
  pub took : Took (near_box s.g.now s.q x0 x1 y0 y1 z0 z1) (gained s.g.now.centroids.now s.g.now.radius s.q) s.met.now s'.met.now
