-- Whether one of the names passed is unknown.
use Rattle.std.proofs.Common.{◌≡◌, take}
use Rattle.shift.specs.Grants.{unknown_job}
use Rattle.shift.proofs.checks.any_unknown.Given as goal

abbrev pub invariant-loop-job : goal.invariant-loop-job
invariant-loop-job l = l.bad ≡ unknown_job l.jobs (take l.job-index l.names)
