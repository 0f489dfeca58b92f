use Rattle.std.proofs.Common.{arith}
use Rattle.lists.proofs.Filled.{filled}
use Rattle.oc_seen.specs.Seen.{densities}
use Rattle.oc_kept.proofs.sharpen.Goals as goal

pub returns : goal.returns
unfolding densities
returns c = filled _ _ _ _ c.loop-i.invariant _ (omega arith) (omega arith)
