-- The places passed are overwritten.
use Rattle.std.proofs.Common.{◌≡◌}
use Rattle.lists.specs.Lists.{overwrite}
use Rattle.strip.specs.Strip.{plane_at, mirror_at}
use Rattle.strip_read.proofs.fill.mirrors.Given as goal

abbrev pub invariant-loop-i : goal.invariant-loop-i
invariant-loop-i l = l.to ≡ overwrite (λ j. plane_at l.bytes (mirror_at j)) l.i l.initial.to
