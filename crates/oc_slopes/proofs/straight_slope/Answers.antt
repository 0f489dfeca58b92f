-- `oc_slopes::straight_slope` meets its contract by that of `filter_back::back`. Assumes nothing.
use Rattle.filter_table.specs.Table.{backed}
use Rattle.oc_slopes.proofs.straight_slope.Goals as goal
use Rattle.oc_slopes.specs.Slopes.{straight_slope}
use mathlib.Core.Path.{ap, ◌∙◌}

pub returns : goal.returns
unfolding straight_slope
returns c = c.back.ensures ∙ ap (backed _ _ _ _ _) c.requires
