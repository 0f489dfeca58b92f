-- A job as a list of calls, each given the lists whole, and the last thing that calls show; that a job is a plain run. Definitions only.
use Rattle.std.specs.Prelude.{◌≡◌, List, [], ◌∷◌, map, ℕ, zero, suc, Float}
use Rattle.lists.specs.Lists.{choose}
use Rattle.run_plain.specs.Plain.{Out, Seen, plain_run}
use Rattle.run_plain.specs.Calls.{Lists, Result, answer_of, World, Call, sizes_of, Asked, open_of, opening_of, out_of, calls_run, fed, fresh}
use Rattle.shape_job.specs.Job.{answer_to, asks, job_of}

-- the answers that `answers_from` gives
unfoldable pub taken : List Float → ℕ → List ℕ → ℕ → Result → List Call
taken weights n work zero r = []
taken weights n work (suc k) r =
    choose (asks r.reply)
    (record { lent = sizes_of work r.lists; arguments = answer_to weights n r.lists.density } ∷ taken weights n work k (answer_of r.state (answer_to weights n r.lists.density) work r.lists))
    []

abbrev pub job_calls : List Float → ℕ → List ℕ → List ℕ → Asked → Lists → List Call
job_calls weights n open_work work g l = taken weights n work 65 (open_of fresh g open_work l)

-- the caller's fresh state and its lists
abbrev pub start : Lists → World
start l = record { state = fresh; lists = l }

-- what was shown last; d where nothing was
unfoldable pub last_out : Out → List Seen → Out
last_out d [] = d
last_out d (s ∷ more) = last_out s.out more

-- the job is a plain run: what its calls show is what the plain run shows of the same answers, and what is shown last is how the job ended
pub record Plainly (weights : List Float) (n : ℕ) (open_work work : List ℕ) (g : Asked) (l : Lists) : Type 0 where
  pub same : calls_run (start l) (sizes_of open_work l) g (job_calls weights n open_work work g l) ≡ plain_run (opening_of g open_work l) (map (fed l) (job_calls weights n open_work work g l))
  pub ended : (d : Out) → last_out d (plain_run (opening_of g open_work l) (map (fed l) (job_calls weights n open_work work g l))) ≡ out_of (job_of weights n open_work work g l)
