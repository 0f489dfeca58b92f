-- What the call reads and is lent, as the code holds it. Definitions only.
use Rattle.std.specs.Prelude.{ℕ, Bool, List, Float}
use Rattle.std.specs.Borrow.{MutBor}
use Rattle.region_passive_checks.specs.declared.Part.{Part}
use Rattle.region_passive_checks.specs.declared.Work.{Work}
use Rattle.region_passive.specs.Passive.{Problem, Lent}

abbrev pub problem : Part → Problem
problem p = record { nodes = p.nodes.now; tets = p.tets.now; tris = p.tris.now; surfaces = p.surfaces.now; held = p.held.now; loaded = p.loaded.now; starts = p.starts.now; kept = p.kept.now; depths = p.depths.now }

-- the lists as the call finds them
abbrev pub lent : Work → Lent
lent w = record { marks = w.marks.now; keep = w.keep.now; centroids = w.centroids.now; cells = w.cells.now; order = w.order.now; place = w.place.now; first = w.first.now }

-- and as it leaves them: what is behind each field at the return
abbrev pub Left : Type 0
Left = MutBor (List Bool) × (MutBor (List Bool) × (MutBor (List (List Float)) × (MutBor (List (List ℕ)) × (MutBor (List ℕ) × (MutBor (List ℕ) × (MutBor (List ℕ) × Unit {0}))))))

abbrev pub left : Left → Lent
left w = record { marks = w.0.now; keep = w.1.0.now; centroids = w.1.1.0.now; cells = w.1.1.1.0.now; order = w.1.1.1.1.0.now; place = w.1.1.1.1.1.0.now; first = w.1.1.1.1.1.1.0.now }
