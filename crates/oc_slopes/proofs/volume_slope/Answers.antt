-- `oc_slopes::volume_slope` meets its contract by those of its two stages. Assumes nothing.
use Rattle.oc_slopes.proofs.Laws.{volume-is}
use Rattle.oc_slopes.proofs.volume_slope.Goals as goal
use native.Mathlib.Omega.{arith}

pub returns : goal.returns
returns c = volume-is _ _ _ _ _ _ _ _ _ c.volume_by_density.ensures c.back.ensures (omega arith) c.requires.2
