-- Whether the numbers at a place passed are no shift's.
use Rattle.std.proofs.Common.{◌≡◌}
use Rattle.lists.specs.Lists.{any_to}
use Rattle.shift.specs.Grants.{wrong_at}
use Rattle.shift.proofs.Shift.fails.Given as goal

abbrev pub invariant-loop-j : goal.invariant-loop-j
invariant-loop-j l = l.bad ≡ any_to (wrong_at l.self) l.j
