-- Each pair of bounds holds after the turns gone through.
use Rattle.std.proofs.Common.{ℕ, ◌<◌, get_or}
use Rattle.ieee_lanes.proofs.narrowed.Given as goal
use Rattle.ieee_lanes.specs.Fraction.{fraction, Between}
use lib.Ieee.{nan}

abbrev pub invariant-loop-i : goal.invariant-loop-i
invariant-loop-i l = (j : ℕ) → j < 8 → Between (fraction (get_or l.squares j nan) l.i) (get_or l.low j nan) (get_or l.high j nan)
