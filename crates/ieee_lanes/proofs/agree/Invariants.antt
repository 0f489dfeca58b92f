use Rattle.std.proofs.Common.{◌≡◌, ℕ, ◌<◌, get_or}
use Rattle.ieee_lanes.proofs.agree.Given as goal
use lib.Ieee.{nan, le}
use mathlib.Core.Bool.{true}

abbrev pub invariant-loop-j : goal.invariant-loop-j
invariant-loop-j l = l.t ≡ true → (k : ℕ) → k < l.j → le (get_or l.bound-items k nan) (get_or l.low k nan) ≡ true
