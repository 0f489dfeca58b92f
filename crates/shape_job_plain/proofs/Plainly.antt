-- What a job's calls show is what the plain run shows, and the last of it is how the job ended. Assumes nothing.
use mathlib.Core.Path.{◌≡◌, refl, sym, ap, ◌∙◌}
use mathlib.Core.Bool.{Bool, true, false}
use mathlib.Core.List.{List, [], ◌∷◌, map}
use Prim.Native.Nat.{ℕ, zero, suc}
use lib.Ieee.{Float}
use Rattle.lists.specs.Lists.{choose}
use Rattle.lists.proofs.Laws.{choose-true, choose-false}
use Rattle.run_plain.specs.Plain.{Out, plain_run}
use Rattle.run_plain.specs.Calls.{Lists, Replied, refuses, asks_solid, asks_round, ends, Result, World, Call, Asked, sizes_of, answer_of, open_of, opening_of, result_of, world_after, out_of, calls_from, calls_shut, calls_by, calls_run, fed, fresh, lend}
use Rattle.run_plain.proofs.Whole.{whole}
use Rattle.shape_job.specs.Job.{answer_to, asks, answers_from, job_of}
use Rattle.shape_job.proofs.Answers.{answers-over}
use Rattle.shape_job_plain.specs.Shown.{taken, job_calls, start, last_out, Plainly}
use Rattle.shape_job_plain.proofs.Grows.{answer-grows, open-grows, lent-whole, back_whole}

abbrev world : Result → World
world r = record { state = r.state; lists = r.lists }

abbrev next : List Float → ℕ → List ℕ → Result → Result
next weights n work r = answer_of r.state (answer_to weights n r.lists.density) work r.lists

abbrev call : List Float → ℕ → List ℕ → Result → Call
call weights n work r = record { lent = sizes_of work r.lists; arguments = answer_to weights n r.lists.density }

-- a call with its lists whole leaves what `answer_of` leaves
result-is : (weights : List Float) (n : ℕ) (work : List ℕ) (r : Result) → result_of (world r) (call weights n work r) ≡ next weights n work r
result-is weights n work r = ap (answer_of r.state (answer_to weights n r.lists.density) work) (lent-whole work r.lists)

world_is : (weights : List Float) (n : ℕ) (work : List ℕ) (r : Result) → world_after r.lists (result_of (world r) (call weights n work r)) ≡ world (next weights n work r)
world_is weights n work r =
    ap (world_after r.lists) (result-is weights n work r)
    ∙ ap (λ (l : Lists). record { state = (next weights n work r).state; lists = l }) (back_whole (next weights n work r).lists r.lists (answer-grows r.state _ work r.lists))

-- ---- the last that is shown
last-from : (weights : List Float) (n : ℕ) (work : List ℕ) (k : ℕ) (r : Result) → last_out (out_of r) (calls_from (world r) (taken weights n work k r)) ≡ out_of (answers_from weights n work k r)
unfolding taken answers_from calls_from last_out
last-from weights n work zero r = refl
last-from weights n work (suc k) r = go (asks r.reply) (last-from weights n work k (next weights n work r))
  where
    x : Result
    x = next weights n work r

    more : List Call
    more = taken weights n work k x

    go : (t : Bool) → last_out (out_of x) (calls_from (world x) more) ≡ out_of (answers_from weights n work k x)
        → last_out (out_of r) (calls_from (world r) (choose t (call weights n work r ∷ more) [])) ≡ out_of (choose t (answers_from weights n work k x) r)
    go true h =
        ap (λ (c : List Call). last_out (out_of r) (calls_from (world r) c)) (choose-true true (call weights n work r ∷ more) [] refl)
        ∙ (λ i. last_out (out_of (result-is weights n work r i)) (calls_from (world_is weights n work r i) more))
        ∙ h ∙ sym (ap out_of (choose-true true (answers_from weights n work k x) r refl))
    go false h = ap (λ (c : List Call). last_out (out_of r) (calls_from (world r) c)) (choose-false false (call weights n work r ∷ more) [] refl) ∙ sym (ap out_of (choose-false false (answers_from weights n work k x) r refl))

none-taken : (weights : List Float) (n : ℕ) (work : List ℕ) (k : ℕ) (r : Result) → asks r.reply ≡ false → taken weights n work k r ≡ []
unfolding taken
none-taken weights n work zero r e = refl
none-taken weights n work (suc k) r e = choose-false _ _ _ e

-- an opening's first showing, whatever it replies
last-by : (weights : List Float) (n : ℕ) (work : List ℕ) (k : ℕ) (d : Out) (r : Result) (q : Replied) → r.reply ≡ q
    → last_out d (calls_by (world r) (taken weights n work k r) q (out_of r)) ≡ out_of (answers_from weights n work k r)
unfolding last_out calls_shut
last-by weights n work k d r asks_solid e = last-from weights n work k r
last-by weights n work k d r (asks_round m) e = last-from weights n work k r
last-by weights n work k d r (ends why) e = last-from weights n work k r
last-by weights n work k d r (refuses m) e =
    ap (λ (c : List Call). last_out (out_of r) (calls_shut (world r) c)) (none-taken weights n work k r (ap asks e)) ∙ ap out_of (answers-over weights n work k r (ap asks e))

pub plainly : (weights : List Float) (n : ℕ) (open_work work : List ℕ) (g : Asked) (l : Lists) → Plainly weights n open_work work g l
unfolding job_of calls_run fresh
plainly weights n open_work work g l = record { same = e; ended = λ d. ap (last_out d) (sym e) ∙ calls-end d }
  where
    r : Result
    r = open_of fresh g open_work l

    more : List Call
    more = job_calls weights n open_work work g l

    -- the opening's lists are lent whole too
    opened : open_of fresh g open_work (lend (sizes_of open_work l) l) ≡ r
    opened = ap (open_of fresh g open_work) (lent-whole open_work l)

    e : calls_run (start l) (sizes_of open_work l) g more ≡ plain_run (opening_of g open_work l) (map (fed l) more)
    e = whole (start l) (sizes_of open_work l) g more refl ∙ ap (λ (k : Lists). plain_run (opening_of g open_work k) (map (fed l) more)) (lent-whole open_work l)

    back : world_after l r ≡ world r
    back = ap (λ (k : Lists). record { state = r.state; lists = k }) (back_whole r.lists l (open-grows fresh g open_work l))

    calls-end : (d : Out) → last_out d (calls_run (start l) (sizes_of open_work l) g more) ≡ out_of (job_of weights n open_work work g l)
    calls-end d =
        ap (λ (x : Result). last_out d (calls_by (world_after l x) more x.reply (out_of x))) opened
        ∙ ap (λ (w : World). last_out d (calls_by w more r.reply (out_of r))) back
        ∙ last-by weights n work 65 d r r.reply refl
