use Rattle.std.proofs.Common.{◌∙◌, arith}
use Rattle.lists.proofs.Filled.{stored}
use Rattle.strip_read.proofs.Rows.{point}
use Rattle.strip_read.proofs.fill.elements.Goals as goal

pub loop-e-preserved : goal.loop-e-preserved
loop-e-preserved c = record {
  volumes = stored _ _ _ _ c.loop-e.invariant.volumes _ (omega arith) c.number_at.ensures;
  centroids = stored _ _ _ _ c.loop-e.invariant.centroids _ (omega arith) (c.numbers_at.ensures ∙ point _ _);
  weights = stored _ _ _ _ c.loop-e.invariant.weights _ (omega arith) c.number_at-in-loop-e.ensures;
  passive = stored _ _ _ _ c.loop-e.invariant.passive _ (omega arith) c.flag_at.ensures;
}
