use Rattle.std.proofs.Common.{◌≡◌, ◌+◌, ◌*◌}
use Rattle.lists.specs.Lists.{overwrite}
use Rattle.strip.specs.Strip.{number_at}
use Rattle.strip_read.proofs.fill.numbers_at.Given as goal

abbrev pub invariant-loop-i : goal.invariant-loop-i
invariant-loop-i g l = l.number-items ≡ overwrite (λ j. number_at l.bytes (l.p + 3 * j)) l.i l.initial.number-items
