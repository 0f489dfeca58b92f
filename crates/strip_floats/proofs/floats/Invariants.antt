use Rattle.std.proofs.Common.{◌≡◌}
use Rattle.lists.specs.Lists.{overwrite}
use Rattle.strip_floats.specs.Floats.{float_at}
use Rattle.strip_floats.proofs.floats.Given as goal

abbrev pub invariant-loop-i : goal.invariant-loop-i
invariant-loop-i g l = l.number-items ≡ overwrite (float_at l.bits) l.i l.initial.number-items
