use Rattle.std.proofs.Common.{arith}
use Rattle.lists.proofs.Filled.{filled}
use Rattle.oc_seen.specs.Seen.{densities, slopes}
use Rattle.oc_seen.proofs.Laws.{density-is, slope-is}
use Rattle.oc_seen.proofs.see.Goals as goal

pub returns : goal.returns
unfolding densities slopes
returns c = let l = c.loop-i in (
  density-is _ _ _ _ _ _ _ _ _ c.apply.ensures c.requires.0 (filled _ _ _ _ l.invariant.density _ (omega arith) (omega arith)),
  slope-is _ _ _ _ _ _ _ _ _ c.apply.ensures c.requires.0 (filled _ _ _ _ l.invariant.slope _ (omega arith) (omega arith)),
)
