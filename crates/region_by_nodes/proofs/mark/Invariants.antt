-- `region_by_nodes::mark` meets its contract. The invariant: the marks of the elements passed are written. Assumes nothing.
use Rattle.lists.specs.Lists.{overwrite}
use Rattle.region_by_nodes.proofs.mark.Given as goal
use Rattle.region_by_nodes.specs.Steps.{any_flagged}
use lib.ListN.{get_or}
use mathlib.Core.List.{[]}
use mathlib.Core.Path.{◌≡◌}

abbrev pub invariant-loop-e : goal.invariant-loop-e
invariant-loop-e l = l.marks ≡ overwrite (λ i. any_flagged l.keep (get_or l.tets i [])) l.e l.initial.marks
