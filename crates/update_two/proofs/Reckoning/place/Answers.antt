-- A row of a well formed table is within it.
use Rattle.filter_table.proofs.Laws.{wf-row}
use Rattle.update_two.proofs.Reckoning.place.Goals as goal
use Rattle.update_two.specs.Part.{bent}
use mathlib.Core.Path.{◌∙◌, ap}
use native.Mathlib.Omega.{arith}

pub row-s-requires : goal.row-s-requires
row-s-requires c = (rw (← c.requires.0.0) (wf-row _ _ _ _ _ c.args.self.formed.well c.args.e (omega (arith, c.args.self.rows))), c.requires.0.1)
