-- `region_cells::longest` meets its contract. The invariant: the longest side of the set's triangles passed. Assumes nothing.
use Rattle.lists.specs.Lists.{fold_to, choose, zero64}
use Rattle.region_by_nodes.specs.Nodes.{in_set}
use Rattle.region_cells.proofs.longest.Given as goal
use Rattle.region_cells.specs.Depth.{corners_of, longer}
use lib.ListN.{get_or}
use mathlib.Core.List.{[]}
use mathlib.Core.Path.{◌≡◌}

abbrev pub invariant-loop-t : goal.invariant-loop-t
invariant-loop-t l = l.m ≡ fold_to (λ i w. choose (in_set l.set.boundary.surfaces.now l.set.boundary.starts.now l.set.boundary.kept.now l.set.number i) (longer (corners_of l.nodes (get_or l.set.boundary.tris.now i [])) w) w) zero64 l.t
