use Rattle.filter_table.proofs.Laws.{well_wf}
use Rattle.filter_table.proofs.Table.well_formed.Goals as goal
use mathlib.Core.Path.{sym, ◌∙◌}

pub invariant_of-result : goal.invariant_of-result
invariant_of-result c = record { well = well_wf _ _ _ _ _ (sym c.well.ensures ∙ c.if-well.true) }
