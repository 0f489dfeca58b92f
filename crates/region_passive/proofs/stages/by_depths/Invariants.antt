-- `region_passive::stages::by_depths` meets its contract. The invariant: what the sets passed reach is marked, and the lists are as long as needed. Assumes nothing.
use Rattle.region_by_depth.specs.Held.{Long}
use Rattle.region_passive.proofs.stages.by_depths.Given as goal
use Rattle.region_passive.specs.Steps.{deepened_to}
use lib.ListN.{length}
use mathlib.Core.List.{[]}
use mathlib.Core.Path.{◌≡◌}

abbrev pub invariant-loop-s : goal.invariant-loop-s
invariant-loop-s l = record {
  long : Long (length l.centroids) l.filing;
  marked : l.marks ≡ deepened_to (record { nodes = l.nodes; tets = []; tris = l.b.tris.now; surfaces = l.b.surfaces.now; held = []; loaded = []; starts = l.b.starts.now; kept = l.b.kept.now; depths = l.depths }) l.centroids l.s l.initial.marks;
}
