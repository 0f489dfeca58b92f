-- `region_by_nodes::flag_sets` meets its contract. The invariant: the nodes of the sets passed are flagged. Assumes nothing.
use Rattle.lists.specs.Lists.{fold_to}
use Rattle.region_by_nodes.proofs.flag_sets.Given as goal
use Rattle.region_by_nodes.specs.Steps.{flagged_set}
use mathlib.Core.Path.{◌≡◌}

abbrev pub invariant-loop-s : goal.invariant-loop-s
invariant-loop-s it = it.keep ≡ fold_to (λ i l. flagged_set it.b.tris.now it.b.surfaces.now it.b.starts.now it.b.kept.now i l) it.initial.keep it.s
