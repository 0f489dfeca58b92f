-- Document 01, "The job strip and its program": what `shape` prints of a job. Definitions only.
use Rattle.std.specs.Prelude.{List, take, Float}
use Rattle.topo.specs.declared.Iteration.{Iteration}
use Rattle.run_plain.specs.declared.State.{State}
use Rattle.run_plain.specs.Calls.{Replied, refuses, asks_solid, asks_round, ends, Result}
use Rattle.shape_report.specs.Report.{Outcome, refused, ran}

-- how a job ended: refused, or the records that stand and the densities of the last record's round. A job that still asks for a part has not ended;
-- no job does after its answers (`job-ends`, crates/shape_job_plain/proofs/Ends.antt)
abbrev pub outcome_by : Replied → State → List Iteration → List Float → Outcome
outcome_by (refuses n) s history last = refused n
outcome_by (ends why) s history last = ran s.compliances.solid (take s.progress.rounds history) why (take s.setting.elements last)
outcome_by asks_solid s history last = refused 20
outcome_by (asks_round n) s history last = refused 20

unfoldable pub outcome_of : Result → Outcome
outcome_of r = outcome_by r.reply r.state r.lists.history r.lists.last
