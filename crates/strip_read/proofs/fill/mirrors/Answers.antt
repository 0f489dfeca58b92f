use Rattle.std.proofs.Common.{◌∙◌, arith}
use Rattle.lists.proofs.Filled.{stored}
use Rattle.strip_read.proofs.Rows.{plane}
use Rattle.strip_read.proofs.fill.mirrors.Goals as goal

pub loop-i-preserved : goal.loop-i-preserved
loop-i-preserved c = stored _ _ _ _ c.loop-i.invariant _ (omega arith) (c.numbers_at-plane.ensures ∙ plane _ _)
