-- `region_by_depth::reach::reach_all` meets its contract. The invariant: what the set's triangles passed reach is marked. Assumes nothing.
use Rattle.lists.specs.Lists.{fold_to, choose}
use Rattle.region_by_depth.proofs.reach.reach_all.Given as goal
use Rattle.region_by_nodes.specs.Nodes.{in_set}
use Rattle.region_cells.specs.Depth.{corners_of}
use Rattle.region_cells.specs.Steps.{reached}
use lib.ListN.{get_or}
use mathlib.Core.List.{[]}
use mathlib.Core.Path.{◌≡◌}

abbrev pub invariant-loop-t : goal.invariant-loop-t
invariant-loop-t l = let b = l.set.boundary in l.marks ≡ fold_to (λ i w. choose (in_set b.surfaces.now b.starts.now b.kept.now l.set.number i) (reached l.middles.size l.depth (corners_of l.nodes (get_or b.tris.now i [])) l.middles.centroids.now w) w) l.initial.marks l.t
