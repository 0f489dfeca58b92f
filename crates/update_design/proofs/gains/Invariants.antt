-- The places passed are filled.
use Rattle.lists.specs.Lists.{overwrite}
use Rattle.std.proofs.Common.{◌≡◌, get_or}
use Rattle.update_design.proofs.gains.Given as goal
use Rattle.update_value.specs.Value.{gain_of}
use lib.Ieee.{nan}

abbrev pub invariant-loop-i : goal.invariant-loop-i
invariant-loop-i l = l.gain ≡ overwrite (λ k. gain_of (get_or l.dc k nan) (get_or l.dv k nan)) l.i l.initial.gain
