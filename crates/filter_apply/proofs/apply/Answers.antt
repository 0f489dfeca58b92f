use Rattle.std.proofs.Common.{arith, refl}
use Rattle.filter_table.proofs.Laws.{all_rows}
use Rattle.filter_apply.proofs.apply.Goals as goal

pub returns : goal.returns
returns c = all_rows _ _ _ _ _ _ _ _ c.loop-e.invariant (omega arith) refl
