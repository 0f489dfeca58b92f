-- Document 01, "The job strip and its program": what `shape` refuses before the opening, and the goal that a strip says. Definitions only.
use Rattle.std.specs.Prelude.{ℕ, ◌||◌, ltb, Result, Ok, Err}
use Rattle.std.specs.Float.Ieee.{of_bits}
use Rattle.std.specs.Float.{binary64}
use Rattle.lists.specs.Lists.{choose}
use Rattle.refusal.specs.declared.Refusal.{Refusal}
use Rattle.refusal.specs.Refusals.{number_of}
use Rattle.topo.specs.declared.Goal.{Goal}
use Rattle.topo.specs.Stages.{sharpening_of}
use Rattle.strip.specs.declared.Job.{Job}

-- "It holds 256 elements, 64 records [..]; more elements or rounds is 14, after 22 and before the opening": 0 where the job is to be opened
abbrev pub refusal_of : Result Job Refusal → ℕ
refusal_of (Err why) = number_of why
refusal_of (Ok job) = choose (ltb 256 job.elements || ltb 64 job.max_iterations) 14 0

-- the job of a strip that is not malformed
abbrev pub job_in : Result Job Refusal → Job → Job
job_in (Err why) none = none
job_in (Ok job) none = job

-- its numbers are floats from here on, and its sharpening one of the three choices
abbrev pub goal_of : Job → Goal
goal_of job = record { fraction = of_bits binary64 job.fraction; radius = of_bits binary64 job.radius; sharpen = sharpening_of job.sharpen; max_iterations = job.max_iterations }
