-- `oc_slopes::work_slope` meets its contract by those of its two stages. Assumes nothing.
use Rattle.oc_slopes.proofs.Laws.{work-is}
use Rattle.oc_slopes.proofs.work_slope.Goals as goal
use native.Mathlib.Omega.{arith}

pub returns : goal.returns
returns c = work-is _ _ _ _ _ _ _ _ _ _ _ c.work_by_density.ensures c.back.ensures (omega arith) c.requires.by_density_len.1
