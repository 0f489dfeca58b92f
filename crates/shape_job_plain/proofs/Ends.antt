-- A job ends: after the answers to the solid part and the rounds allowed no part is asked for. Assumes nothing.
use Rattle.std.specs.Prelude.{Option, Some, None}
use mathlib.Core.Path.{◌≡◌, refl, sym, ap, ◌∙◌}
use mathlib.Core.Bool.{Bool, true, false}
use mathlib.Core.List.{List}
use Prim.Native.Nat.{ℕ, zero, suc, ◌-◌, ◌≤◌, ◌<◌}
use native.Mathlib.Omega.{arith}
use lib.ListN.{length}
use lib.Ieee.{Float}
use borrow.Author.Tests.{leb-false}
use Rattle.lists.specs.Lists.{choose}
use Rattle.lists.proofs.Laws.{choose-true, choose-false}
use Rattle.run_plain.specs.declared.Phase.{Phase}
use Rattle.run_plain.specs.declared.Phase.TheVariants.{Idle, Solid, Round}
use Rattle.run_plain.specs.declared.State.{State}
use Rattle.run_plain.specs.declared.Verdict.{Verdict}
use Rattle.run_plain.specs.declared.Verdict.TheVariants.{Kept, Over, Halts, Begins, Solves}
use Rattle.topo.specs.declared.Stop.{Stop}
use Rattle.run_plain.specs.declared.Checks.{Checks}
use Rattle.run_plain.specs.Opening.{Opening, Entry, Kept as KeptOut, Zeroed, Shut, Opens, entry_of}
use Rattle.run_plain.specs.Plain.{Part, nothing, solid, round, Stops}
use Rattle.run_plain.specs.Runs.{Judge, short_solid, halted_solid, failed_solid, count_solid, bad_solid, idle_solid, flag_solid, begun, short_round, halted_first, halted_later, failed_round, count_round, bad_round, solved, out_of_turn, First, settled, levelled, limit, budget, stopped, goes_on}
use Rattle.run_plain.specs.Calls.{Lists, Arguments, Result, sizes_of, sound, part_in, part_of, checks_at, answer_by, answer_of, solved_by, stops_at, record_in, Asked, opening_of, open_by, open_of, fresh}
use Rattle.run_plain.proofs.Verdicts.{first-is, judge-is}
use Rattle.run_plain.proofs.Formulas.{ready}
use Rattle.shape_job.specs.Job.{answer_to, asks, answers_from, job_of}
use Rattle.shape_job.proofs.Answers.{answers-over}

-- a state that asks for a part, and how many answers it can take at most
data Going (s : State) : ℕ → Type 0 where
  first : s.phase ≡ Solid → s.progress.rounds ≡ 0 → 0 < s.setting.max_iterations → Going s (suc s.setting.max_iterations)
  later : s.phase ≡ Round → s.progress.rounds < s.setting.max_iterations → Going s (s.setting.max_iterations - s.progress.rounds)

going-some : (s : State) (b : ℕ) → Going s b → 0 < b
going-some s b (first e q h) = omega arith
going-some s b (later e h) = omega arith

-- what follows a state that could take b answers
record Next (s : State) (b : ℕ) : Type 0 where
  few : ℕ
  going : Going s few
  fewer : few < b

absurd_of : {X : Type 0} → ◌≡◌ {A = Bool} false true → X
absurd_of e = let z : ◌≡◌ {A = ℕ} 0 1 = cc in absurd (omega arith)

-- the part that a state asks for is of its phase
is-solid : (s : State) → part_of s ≡ solid → s.phase ≡ Solid
unfolding part_of choose
is-solid s e = go (sound s) s.phase refl e
  where
    go : (t : Bool) (p : Phase) → s.phase ≡ p → choose t (part_in p s) nothing ≡ solid → s.phase ≡ Solid
    go true Idle f e = let z : ◌≡◌ {A = ℕ} 0 1 = cc in absurd (omega arith)
    go true Solid f e = f
    go true Round f e = let z : ◌≡◌ {A = ℕ} 0 1 = cc in absurd (omega arith)
    go false p f e = let z : ◌≡◌ {A = ℕ} 0 1 = cc in absurd (omega arith)

is-round : (s : State) (m : ℕ) → part_of s ≡ round m → s.phase ≡ Round
unfolding part_of choose
is-round s m e = go (sound s) s.phase refl e
  where
    go : (t : Bool) (p : Phase) → s.phase ≡ p → choose t (part_in p s) nothing ≡ round m → s.phase ≡ Round
    go true Idle f e = let z : ◌≡◌ {A = ℕ} 0 1 = cc in absurd (omega arith)
    go true Solid f e = let z : ◌≡◌ {A = ℕ} 0 1 = cc in absurd (omega arith)
    go true Round f e = f
    go false p f e = let z : ◌≡◌ {A = ℕ} 0 1 = cc in absurd (omega arith)

-- the verdict that a solid part is solved comes of a solid part alone, and that a round is of a round
begun-solid : (p : Part) (c : Checks) (v : Verdict) → Judge c p v → v ≡ Begins → p ≡ solid
begun-solid _ c _ out_of_turn e = let z : ◌≡◌ {A = ℕ} 0 1 = cc in absurd (omega arith)
begun-solid _ c _ (short_solid x) e = refl
begun-solid _ c _ (halted_solid x y) e = refl
begun-solid _ c _ (failed_solid x y) e = refl
begun-solid _ c _ (count_solid x y z') e = refl
begun-solid _ c _ (bad_solid x y z' w) e = refl
begun-solid _ c _ (idle_solid x y) e = refl
begun-solid _ c _ (flag_solid x y z') e = refl
begun-solid _ c _ (begun x y z') e = refl
begun-solid _ c _ (short_round x) e = let z : ◌≡◌ {A = ℕ} 0 1 = cc in absurd (omega arith)
begun-solid _ c _ (halted_first x y z') e = let z : ◌≡◌ {A = ℕ} 0 1 = cc in absurd (omega arith)
begun-solid _ c _ (halted_later x y z') e = let z : ◌≡◌ {A = ℕ} 0 1 = cc in absurd (omega arith)
begun-solid _ c _ (failed_round x y) e = let z : ◌≡◌ {A = ℕ} 0 1 = cc in absurd (omega arith)
begun-solid _ c _ (count_round x y z') e = let z : ◌≡◌ {A = ℕ} 0 1 = cc in absurd (omega arith)
begun-solid _ c _ (bad_round x y z' w) e = let z : ◌≡◌ {A = ℕ} 0 1 = cc in absurd (omega arith)
begun-solid _ c _ (solved x) e = let z : ◌≡◌ {A = ℕ} 0 1 = cc in absurd (omega arith)

record IsRound (p : Part) : Type 0 where
  number : ℕ
  is : p ≡ round number

solved-round : (p : Part) (c : Checks) (v : Verdict) → Judge c p v → v ≡ Solves → IsRound p
solved-round _ c _ out_of_turn e = let z : ◌≡◌ {A = ℕ} 0 1 = cc in absurd (omega arith)
solved-round _ c _ (short_solid x) e = let z : ◌≡◌ {A = ℕ} 0 1 = cc in absurd (omega arith)
solved-round _ c _ (halted_solid x y) e = let z : ◌≡◌ {A = ℕ} 0 1 = cc in absurd (omega arith)
solved-round _ c _ (failed_solid x y) e = let z : ◌≡◌ {A = ℕ} 0 1 = cc in absurd (omega arith)
solved-round _ c _ (count_solid x y z') e = let z : ◌≡◌ {A = ℕ} 0 1 = cc in absurd (omega arith)
solved-round _ c _ (bad_solid x y z' w) e = let z : ◌≡◌ {A = ℕ} 0 1 = cc in absurd (omega arith)
solved-round _ c _ (idle_solid x y) e = let z : ◌≡◌ {A = ℕ} 0 1 = cc in absurd (omega arith)
solved-round _ c _ (flag_solid x y z') e = let z : ◌≡◌ {A = ℕ} 0 1 = cc in absurd (omega arith)
solved-round _ c _ (begun x y z') e = let z : ◌≡◌ {A = ℕ} 0 1 = cc in absurd (omega arith)
solved-round _ c _ (short_round x) e = let z : ◌≡◌ {A = ℕ} 0 1 = cc in absurd (omega arith)
solved-round _ c _ (halted_first x y z') e = let z : ◌≡◌ {A = ℕ} 0 1 = cc in absurd (omega arith)
solved-round _ c _ (halted_later x y z') e = let z : ◌≡◌ {A = ℕ} 0 1 = cc in absurd (omega arith)
solved-round _ c _ (failed_round x y) e = let z : ◌≡◌ {A = ℕ} 0 1 = cc in absurd (omega arith)
solved-round _ c _ (count_round x y z') e = let z : ◌≡◌ {A = ℕ} 0 1 = cc in absurd (omega arith)
solved-round _ c _ (bad_round x y z' w) e = let z : ◌≡◌ {A = ℕ} 0 1 = cc in absurd (omega arith)
solved-round _ c _ (solved {n} x) e = record { number = n; is = refl }

-- a round that goes on is not the last allowed
not_last : (t : Stops) (c : Option Stop) → First t c → c ≡ None → t.limit ≡ false
not_last t _ (settled x y) e = let z : ◌≡◌ {A = ℕ} 0 1 = cc in absurd (omega arith)
not_last t _ (levelled x y z') e = let z : ◌≡◌ {A = ℕ} 0 1 = cc in absurd (omega arith)
not_last t _ (limit x y z') e = let z : ◌≡◌ {A = ℕ} 0 1 = cc in absurd (omega arith)
not_last t _ (budget x y z' w) e = let z : ◌≡◌ {A = ℕ} 0 1 = cc in absurd (omega arith)
not_last t _ (stopped x y z' w v) e = let z : ◌≡◌ {A = ℕ} 0 1 = cc in absurd (omega arith)
not_last t _ (goes_on x y z' w v) e = z'

-- ---- one answer
solved-next : (s : State) (a : Arguments) (l : Lists) (b : ℕ) (c : Option Stop) → Going s b → s.phase ≡ Round → First (stops_at s a.heard (record_in s a l)) c → asks (solved_by s a l c).reply ≡ true → Next (solved_by s a l c).state b
unfolding stops_at
solved-next s a l b (Some why) g p f e = absurd_of e
solved-next s a l b None (first q z h) p f e = let z : ◌≡◌ {A = ℕ} 0 1 = cc in absurd (omega arith)
solved-next s a l b None (later q h) p f e =
    let k : suc s.progress.rounds < s.setting.max_iterations = leb-false s.setting.max_iterations (suc s.progress.rounds) (not_last _ _ f refl) in
    record { few = s.setting.max_iterations - suc s.progress.rounds; going = later refl k; fewer = omega arith }

verdict-next : (s : State) (a : Arguments) (l : Lists) (c : Checks) (b : ℕ) (v : Verdict) → Going s b → Judge c (part_of s) v → asks (answer_by s a l v).reply ≡ true → Next (answer_by s a l v).state b
verdict-next s a l c b (Kept n) g j e = absurd_of e
verdict-next s a l c b (Over n) g j e = absurd_of e
verdict-next s a l c b Halts g j e = absurd_of e
verdict-next s a l c b Begins (first q z h) j e = record { few = s.setting.max_iterations - s.progress.rounds; going = later refl (omega arith); fewer = omega arith }
verdict-next s a l c b Begins (later q h) j e =
    let p = is-solid s (begun-solid (part_of s) c Begins j refl) in
    let z : ◌≡◌ {A = ℕ} 0 1 = cc in
    absurd (omega arith)
verdict-next s a l c b Solves g j e =
    let m = solved-round (part_of s) c Solves j refl in
    solved-next s a l b _ g (is-round s m.number m.is) (first-is (stops_at s a.heard (record_in s a l))) e

answer-next : (s : State) (a : Arguments) (work : List ℕ) (l : Lists) (b : ℕ) → Going s b → asks (answer_of s a work l).reply ≡ true → Next (answer_of s a work l).state b
unfolding answer_of
answer-next s a work l b g e = verdict-next s a l (checks_at s a (sizes_of work l)) b _ g (judge-is (part_of s) (checks_at s a (sizes_of work l))) e

-- ---- all answers
answers-end : (weights : List Float) (n : ℕ) (work : List ℕ) (k : ℕ) (r : Result) (b : ℕ) → (asks r.reply ≡ true → Going r.state b) → b ≤ k → asks (answers_from weights n work k r).reply ≡ false
unfolding answers_from
answers-end weights n work zero r b g h = go (asks r.reply) refl
  where
    go : (t : Bool) → asks r.reply ≡ t → asks r.reply ≡ false
    go true e = let p = going-some r.state b (g e) in absurd (omega arith)
    go false e = e
answers-end weights n work (suc k) r b g h = go (asks r.reply) refl (λ b' g' h'. answers-end weights n work k x b' g' h')
  where
    x : Result
    x = answer_of r.state (answer_to weights n r.lists.density) work r.lists

    on : asks r.reply ≡ true → (t : Bool) → asks x.reply ≡ t → ((b' : ℕ) → (asks x.reply ≡ true → Going x.state b') → b' ≤ k → asks (answers_from weights n work k x).reply ≡ false) → asks (answers_from weights n work k x).reply ≡ false
    on e true f i =
        let m : Next x.state b = answer-next r.state _ work r.lists b (g e) f in
        i m.few (λ q. m.going) (let q = m.fewer in omega arith)
    on e false f i = sym (ap (λ (y : Result). asks y.reply) (answers-over weights n work k x f)) ∙ f

    go : (t : Bool) → asks r.reply ≡ t → ((b' : ℕ) → (asks x.reply ≡ true → Going x.state b') → b' ≤ k → asks (answers_from weights n work k x).reply ≡ false)
        → asks (choose t (answers_from weights n work k x) r).reply ≡ false
    go true e i = ap (λ (y : Result). asks y.reply) (choose-true true (answers_from weights n work k x) r refl) ∙ on e (asks x.reply) refl i
    go false e i = ap (λ (y : Result). asks y.reply) (choose-false false (answers_from weights n work k x) r refl) ∙ e

-- ---- a job
open-going : (g : Asked) (work : List ℕ) (l : Lists) → asks (open_of fresh g work l).reply ≡ true → Going (open_of fresh g work l).state (suc g.goal.max_iterations) × (g.goal.max_iterations ≤ length l.history)
unfolding open_of fresh choose
open-going g work l e = go (entry_of o) refl e
  where
    o : Opening
    o = opening_of g work l

    go : (v : Entry) → entry_of o ≡ v → asks (open_by fresh o l v).reply ≡ true → Going (open_by fresh o l v).state (suc g.goal.max_iterations) × (g.goal.max_iterations ≤ length l.history)
    go (KeptOut n) f e = absurd_of e
    go (Zeroed n) f e = absurd_of e
    go Shut f e = absurd_of e
    go Opens f e = (first refl refl (ready o f).rounds, (ready o f).room.history)

-- with room for 64 records, 65 answers end a job
pub job-ends : (weights : List Float) (n : ℕ) (open_work work : List ℕ) (g : Asked) (l : Lists) → length l.history ≤ 64 → asks (job_of weights n open_work work g l).reply ≡ false
unfolding job_of
job-ends weights n open_work work g l h = go (asks r.reply) refl
  where
    r : Result
    r = open_of fresh g open_work l

    go : (t : Bool) → asks r.reply ≡ t → asks (answers_from weights n work 65 r).reply ≡ false
    go true e =
        let p = open-going g open_work l e in
        let k = p.1 in
        answers-end weights n work 65 r (suc g.goal.max_iterations) (λ q. p.0) (omega arith)
    go false e = sym (ap (λ (y : Result). asks y.reply) (answers-over weights n work 65 r e)) ∙ e
