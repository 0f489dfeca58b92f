use Rattle.std.proofs.Common.{arith, refl}
use Rattle.filter_table.proofs.Laws.{wf-row, all_rows}
use Rattle.filter_table.proofs.formed.WellFormed.apply.Goals as goal

pub row-requires : goal.row-requires
row-requires c = rw (← c.requires.1) (wf-row _ _ _ _ _ c.args.self.well c.loop-e.e (omega arith))

pub returns : goal.returns
returns c = all_rows _ _ _ _ _ _ _ _ c.loop-e.invariant (omega arith) refl
