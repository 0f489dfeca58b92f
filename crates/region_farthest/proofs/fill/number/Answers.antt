-- `fill::number` meets its contract: the loop's end has written every place. Assumes nothing.
use Rattle.lists.proofs.Filled.{filled}
use Rattle.region_farthest.proofs.fill.number.Goals as goal
use mathlib.Core.Path.{refl}
use native.Mathlib.Omega.{arith}

pub returns : goal.returns
returns c = filled (λ k. k) c.args.order.now _ _ c.loop-i.invariant _ (omega arith) refl
