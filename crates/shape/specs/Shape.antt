-- 01, "The job strip and its program": what the program comes to, from the lists that it read. Definitions only.
use Rattle.std.specs.Prelude.{Bool, false, List, length, replicate, Float}
use Rattle.lists.specs.Lists.{zero64}
use Rattle.topo.specs.declared.Goal.{Goal}
use Rattle.topo.specs.declared.Iteration.{Iteration}
use Rattle.run_plain.specs.Lent.{open_work, answer_work}
use Rattle.run_plain.specs.Calls.{Lists}
use Rattle.shape_report.specs.Report.{Outcome}
use Rattle.shape_job.specs.Job.{job_of}
use Rattle.shape_text.specs.Printed.{outcome_of}

abbrev pub none : Iteration
none = record { number = 0; compliance = zero64; fraction = zero64; change = zero64; sharpness = zero64; grey = zero64; passes = 0 }

-- "It holds 256 elements, 64 records and a coefficient list of 4,096 places, all zero at the start"
abbrev pub lists : List Float → List Bool → Lists
lists volumes passive =
    record { volumes = volumes; passive = passive; starts = replicate 257 0; near = replicate 4096 0; coef = replicate 4096 zero64; design = replicate 256 zero64; density = replicate 256 zero64; last = replicate 256 zero64; history = replicate 64 none }

-- how the job ends that these lists and this goal make
unfoldable pub outcome_from : Goal → List Float → List (List Float) → List Float → List Bool → List (List Float) → Outcome
outcome_from goal volumes centroids weights passive mirrors =
    outcome_of (job_of weights (length volumes) (open_work 256) (answer_work 256) (record { centroids = centroids; mirrors = mirrors; goal = goal; flag = false }) (lists volumes passive))
