-- The sum of the counts passed, which sixteen numbers of 32 bits keep far from 2^64.
use Rattle.std.proofs.Common.{◌≡◌, ◌*◌, ◌≤◌, get_or}
use Rattle.shift.specs.Grants.{sum_of}
use Rattle.shift.proofs.Shift.total.Given as goal

abbrev pub invariant-loop-granted : goal.invariant-loop-granted
invariant-loop-granted l = (l.total ≤ 4294967295 * l.granted-index) × (l.total ≡ sum_of (λ j. get_or l.self.granted j 0) l.granted-index)
