-- What is added up is the sum of the places passed.
use Rattle.lists.specs.Lists.{sum_to}
use Rattle.std.proofs.Common.{◌≡◌, false, get_or}
use Rattle.update_straight.proofs.certify.kept_at.Given as goal
use Rattle.update_value.specs.Value.{next_of}
use lib.Ieee.{nan, binary64, mul}

abbrev pub invariant-loop-i : goal.invariant-loop-i
invariant-loop-i l = l.t ≡ sum_to (λ k. mul binary64 (get_or l.dv k nan) (next_of (get_or l.passive k false) (get_or l.x k nan) (get_or l.gain k nan) l.m l.rate)) l.i
