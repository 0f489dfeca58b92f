-- `read_all` stays in its lists.
use Rattle.std.proofs.Common.{◌≤◌, length, ◌≡◌}
use Rattle.shape.proofs.read_all.Given as goal

abbrev pub invariant-loop : goal.invariant-loop
invariant-loop g l = (l.at ≤ length l.kept) × (length l.kept ≡ length l.fn.kept) × (length l.part ≡ 65536)
