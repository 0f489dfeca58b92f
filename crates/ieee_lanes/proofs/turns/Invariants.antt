-- Each number is its fraction of the turns gone through.
use Rattle.std.proofs.Common.{◌≡◌, ℕ, ◌<◌, get_or}
use Rattle.ieee_lanes.proofs.turns.Given as goal
use Rattle.ieee_lanes.specs.Fraction.{fraction}
use lib.Ieee.{nan}

abbrev pub invariant-loop-i : goal.invariant-loop-i
invariant-loop-i l = (j : ℕ) → j < 8 → get_or l.r j nan ≡ fraction (get_or l.squares j nan) l.i
