-- `region_by_nodes::flag_set` meets its contract. The invariant: the nodes of the set's triangles passed are flagged. Assumes nothing.
use Rattle.lists.specs.Lists.{fold_to, choose}
use Rattle.region_by_nodes.proofs.flag_set.Given as goal
use Rattle.region_by_nodes.specs.Nodes.{in_set}
use Rattle.region_by_nodes.specs.Steps.{flagged}
use lib.ListN.{get_or}
use mathlib.Core.List.{[]}
use mathlib.Core.Path.{◌≡◌}

abbrev pub invariant-loop-t : goal.invariant-loop-t
invariant-loop-t it = it.keep ≡ fold_to (λ i l. choose (in_set it.set.boundary.surfaces.now it.set.boundary.starts.now it.set.boundary.kept.now it.set.number i) (flagged (get_or it.set.boundary.tris.now i []) 6 l) l) it.initial.keep it.t
