use Rattle.std.proofs.Common.{◌≡◌}
use Rattle.lists.specs.Lists.{overwrite}
use Rattle.strip_floats.specs.Floats.{float_at}
use Rattle.strip_floats.proofs.numbers.Given as goal

abbrev pub invariant-loop-i : goal.invariant-loop-i
invariant-loop-i l = l.to ≡ overwrite (float_at l.from) l.i l.initial.to
