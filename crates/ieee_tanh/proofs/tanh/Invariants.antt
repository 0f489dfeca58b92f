-- `ieee_tanh::tanh` meets its contract. The invariant: after i turns r is `lambert z i`. Assumes nothing.
use Rattle.ieee_tanh.proofs.tanh.Given as goal
use Rattle.ieee_tanh.specs.Tanh.{lambert}
use mathlib.Core.Path.{◌≡◌}

abbrev pub invariant-loop-i : goal.invariant-loop-i
invariant-loop-i l = l.r ≡ lambert l.z l.i
