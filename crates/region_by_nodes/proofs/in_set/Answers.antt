-- `region_by_nodes::in_set` meets its contract. Assumes nothing.
use Rattle.region_by_nodes.proofs.Among.{any-between}
use Rattle.region_by_nodes.proofs.in_set.Goals as goal
use Rattle.region_by_nodes.specs.Nodes.{of_set}
use lib.Dec.{eqb}
use mathlib.Core.Path.{◌∙◌}

pub returns : goal.returns
unfolding of_set
returns c = let a = c.args in
    c.contains.ensures.value ∙ any-between (λ k. eqb k a.surface) a.kept.now _ _ c.min-end.result c.min-from.result c.min-end.ensures c.min-from.ensures
