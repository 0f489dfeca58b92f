-- No name before what is left is unknown.
use Rattle.std.proofs.Common.{◌≡◌, length}
use Rattle.shift.specs.Grants.{unknown_job}
use Rattle.shift.proofs.checks.unknown.Given as goal

abbrev pub invariant-loop-rest : goal.invariant-loop-rest
invariant-loop-rest l = unknown_job l.jobs l.rest ≡ unknown_job l.jobs l.named

abbrev pub decreases-loop-rest : goal.decreases-loop-rest
decreases-loop-rest l = length l.rest
