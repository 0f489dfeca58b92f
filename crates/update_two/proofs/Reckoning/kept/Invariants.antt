-- The sums are those of the elements passed.
use Rattle.std.proofs.Common.{◌≡◌, ◌*◌}
use Rattle.update_two.proofs.Reckoning.kept.Given as goal
use Rattle.update_two.specs.Sums.{volume_to}

abbrev pub invariant-loop-k : goal.invariant-loop-k
invariant-loop-k l = (l.sum.a ≡ volume_to l.self l.x (4 * l.k)) × (l.sum.b ≡ volume_to l.self l.y (4 * l.k))

abbrev pub invariant-loop-e : goal.invariant-loop-e
invariant-loop-e l = (l.sum.a ≡ volume_to l.self l.x l.e) × (l.sum.b ≡ volume_to l.self l.y l.e)
