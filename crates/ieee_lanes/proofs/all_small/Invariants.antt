use Rattle.std.proofs.Common.{◌≡◌, ℕ, ◌<◌, get_or}
use Rattle.ieee_lanes.proofs.all_small.Given as goal
use Rattle.ieee_lanes.specs.Fraction.{small_of}
use lib.Ieee.{nan}
use mathlib.Core.Bool.{true}

abbrev pub invariant-loop-q : goal.invariant-loop-q
invariant-loop-q l = l.t ≡ true → (j : ℕ) → j < l.q-index → small_of (get_or l.q-items j nan) ≡ true
