-- From what the calls promise of enums to what is promised of numbers.
use mathlib.Core.Path.{◌≡◌, refl, sym, ap, subst, ◌∙◌}
use mathlib.Core.Bool.{Bool, true, false, ◌||◌}
use lib.Dec.{ltb}
use borrow.Author.Tests.{ltb-false}
use mathlib.Core.List.{List}
use Prim.Native.Nat.{ℕ, zero, suc}
use lib.Ieee.{Float}
use lib.ListN.{replicate, length-replicate}
use native.Mathlib.Omega.{arith}
use Rattle.lists.specs.Lists.{choose, zero64}
use Rattle.topo.specs.declared.Iteration.{Iteration}
use Rattle.topo.specs.declared.Goal.{Goal}
use Rattle.topo.specs.declared.Sharpening.{Sharpening}
use Rattle.topo.specs.declared.Sharpening.TheVariants.{Off, Early, Full}
use Rattle.topo.specs.Stages.{sharpening_of, sharpening_number}
use Rattle.run_plain.specs.declared.Phase.{Phase}
use Rattle.run_plain.specs.declared.Phase.TheVariants.{Idle, Solid, Round}
use Rattle.run_plain.specs.declared.Heard.{Heard}
use Rattle.run_plain.specs.declared.Returned.{Returned}
use Rattle.run_plain.specs.declared.State.{State}
use Rattle.run_plain.specs.Opening.{Opening, Entry, Kept, Zeroed, Shut, Opens, entry_of}
use Rattle.run_plain.specs.Calls.{Core, Asked, Arguments, Lists, Result, lists_of, opening_of, open_by, open_of, zeroed_lists, keeps, in_turn}
use Rattle.run_answer.specs.declared.Step.{Step}
use Rattle.run_plain.specs.Held.{Working as Work}
use Rattle.run_answer.specs.Answers.{CoreAnswered}
use Rattle.filter.specs.Build.{Working as OpenWork, work_lengths}
use Rattle.run_open_checks.specs.Opens.{CoreOpened}
use Rattle.c_numbers.specs.declared.RunState.{RunState}
use Rattle.c_numbers.specs.declared.RunGoal.{RunGoal}
use Rattle.c_numbers.specs.declared.RunHeard.{RunHeard}
use Rattle.c_numbers.specs.declared.RunReturned.{RunReturned}
use Rattle.c_numbers.specs.declared.RunStep.{RunStep}
use Rattle.c_numbers.specs.Flat.{phase_of, phase_number, goal_of, heard_of, state_of, state_numbers, returned_numbers, step_numbers, refused20, no_runs, no_goals, OpenedAs, AnsweredAs}

pub not-both : {t : Bool} → t ≡ true → t ≡ false → ⊥
not-both e f = let z : ◌≡◌ {A = ℕ} 0 1 = cc in omega arith

pub opened_as : (s : RunState) (n : RunGoal) (t u : Bool) → t ≡ no_runs s → u ≡ no_goals n → (t || u) ≡ false → (s' : State) → s' ≡ state_of s → (goal : Goal) → goal ≡ goal_of n
    → (centroids mirrors : List (List Float)) (flag : Bool) (room : ℕ) (l : Core) (w : OpenWork) (returned : Returned) (r : RunReturned) (o : Core) (w' : OpenWork) → r ≡ returned_numbers returned
    → CoreOpened s' (record { centroids = centroids; mirrors = mirrors; goal = goal; flag = flag }) room l w returned o w'
    → OpenedAs s n (record { centroids = centroids; mirrors = mirrors; goal = goal_of n; flag = flag }) room l w r o w'
opened_as s n t u q v f s' e goal d centroids mirrors flag room l w returned r o w' numbers h =
    let given : Goal → Asked = λ g. record { centroids = centroids; mirrors = mirrors; goal = g; flag = flag } in
    record {
      known = λ _. record {
        returned = returned;
        numbers = numbers;
        opens = subst (λ (x : Goal). CoreOpened (state_of s) (given x) room l w returned o w') d (subst (λ (x : State). CoreOpened x (given goal) room l w returned o w') e h);
      };
      unknown = λ p. absurd (not-both p (sym (λ i. q i || v i) ∙ f));
    }

pub answered_as : (s : RunState) (t : Bool) → t ≡ no_runs s → t ≡ false → (s' : State) → s' ≡ state_of s → (h : RunHeard) (heard : Heard) → heard ≡ heard_of h
    → (energies : List Float) (room : ℕ) (l : Core) (w : Work) (step : Step) (r : RunStep) (o : Core) (w' : Work) → r ≡ step_numbers room s.rounds step
    → CoreAnswered s' (record { heard = heard; energies = energies }) room l w step o w' → AnsweredAs s (record { heard = heard_of h; energies = energies }) room l w r o w'
unfolding state_of
answered_as s t q f s' e h heard d energies room l w step r o w' n c =
    let given : Heard → Arguments = λ x. record { heard = x; energies = energies } in
    record {
      known = λ _. record {
        step = step;
        numbers = n;
        answers = subst (λ (x : Heard). CoreAnswered (state_of s) (given x) room l w step o w') d (subst (λ (x : State). CoreAnswered x (given heard) room l w step o w') e c);
      };
      unknown = λ p. absurd (not-both p (sym q ∙ f));
    }

-- a number that is no run's, or no goal's
pub not_opened : (s : RunState) (n : RunGoal) (t u : Bool) → t ≡ no_runs s → u ≡ no_goals n → (t || u) ≡ true → (g : Asked) (room : ℕ) (l : Core) (w : OpenWork) (r : RunReturned) → r ≡ refused20 s → OpenedAs s n g room l w r l w
not_opened s n t u q v f g room l w r e = record { known = λ p. absurd (not-both (sym (λ i. q i || v i) ∙ f) p); unknown = λ _. (e, refl, refl) }

pub not_answered : (s : RunState) (t : Bool) → t ≡ no_runs s → t ≡ true → (a : Arguments) (room : ℕ) (l : Core) (w : Work) (r : RunStep) → (r.returned ≡ refused20 s) × (r.at ≡ room) → AnsweredAs s a room l w r l w
not_answered s t q f a room l w r e = record { known = λ p. absurd (not-both (sym q ∙ f) p); unknown = λ _. (e.0, e.1, refl, refl) }

-- ---- an opening only measures the densities of the last record's round
blank : Iteration
blank = record { number = 0; compliance = zero64; fraction = zero64; change = zero64; sharpness = zero64; grey = zero64; passes = 0 }

by-last : (s : State) (o : Opening) (l : Lists) (turn : Bool) (e : Entry) → (choose turn (open_by s o l e) (keeps s 20 l)).lists.last ≡ l.last
unfolding choose zeroed_lists
by-last s o l false e = refl
by-last s o l true (Kept n) = refl
by-last s o l true (Zeroed n) = refl
by-last s o l true Shut = refl
by-last s o l true Opens = refl

open-last : (s : State) (g : Asked) (work : List ℕ) (l : Lists) → (open_of s g work l).lists.last ≡ l.last
unfolding open_of
open-last s g work l = by-last s (opening_of g work l) l (in_turn s.phase) (entry_of (opening_of g work l))

core-last : (s : State) (g : Asked) (room : ℕ) (l : Core) (w : OpenWork) (r : Returned) (o : Core) (w' : OpenWork) → CoreOpened s g room l w r o w' → o.last ≡ l.last
core-last s g room l w r o w' h =
    let history = replicate room blank in
    ap (λ (x : Result). x.lists.last) (h.same history (length-replicate _ _)) ∙ open-last s g (work_lengths w) (lists_of l history)

last-kept : (s : RunState) (n : RunGoal) (g : Asked) (room : ℕ) (l : Core) (w : OpenWork) (r : RunReturned) (o : Core) (w' : OpenWork) → OpenedAs s n g room l w r o w' → o.last ≡ l.last
last-kept s n g room l w r o w' h = go (no_runs s || no_goals n) refl
  where
    go : (t : Bool) → (no_runs s || no_goals n) ≡ t → o.last ≡ l.last
    go true e = ap (λ (x : Core). x.last) (h.unknown e).1
    go false e = let k = h.known e in core-last (state_of s) g room l w k.returned o w' k.opens

-- the same of lists that hold what it leaves
module _ (volumes : List Float) (passive : List Bool) (last last' : List Float) where
  pub opened_still : (s : RunState) (n : RunGoal) (g : Asked) (room : ℕ) (l : Core) (w : OpenWork) (r : RunReturned)
      (starts near : List ℕ) (coef design density : List Float) (cell : List (List ℕ)) (order first : List ℕ) (sorted : List (List Float)) (stamp : List ℕ) (weight : List Float) (found bits : List ℕ)
      (starts' near' : List ℕ) (coef' design' density' : List Float) (cell' : List (List ℕ)) (order' first' : List ℕ) (sorted' : List (List Float)) (stamp' : List ℕ) (weight' : List Float) (found' bits' : List ℕ)
      → OpenedAs s n g room l w r
      (record { volumes = volumes; passive = passive; starts = starts; near = near; coef = coef; design = design; density = density; last = last })
      (record { cell = cell; order = order; first = first; sorted = sorted; stamp = stamp; weight = weight; found = found; bits = bits })
      → starts' ≡ starts → near' ≡ near → coef' ≡ coef → design' ≡ design → density' ≡ density → l.last ≡ last'
      → cell' ≡ cell → order' ≡ order → first' ≡ first → sorted' ≡ sorted → stamp' ≡ stamp → weight' ≡ weight → found' ≡ found → bits' ≡ bits
      → OpenedAs s n g room l w r
      (record { volumes = volumes; passive = passive; starts = starts'; near = near'; coef = coef'; design = design'; density = density'; last = last' })
      (record { cell = cell'; order = order'; first = first'; sorted = sorted'; stamp = stamp'; weight = weight'; found = found'; bits = bits' })
  opened_still s n g room l w r starts near coef design density cell order first sorted stamp weight found bits starts' near' coef' design' density' cell' order' first' sorted' stamp' weight' found' bits' h st ne co de den la ce or fi so sta we fo bi =
      let o : Core = record { volumes = volumes; passive = passive; starts = starts; near = near; coef = coef; design = design; density = density; last = last } in
      let v : OpenWork = record { cell = cell; order = order; first = first; sorted = sorted; stamp = stamp; weight = weight; found = found; bits = bits } in
      let kept = last-kept s n g room l w r o v h ∙ la in
      subst (λ (x : Core × OpenWork). OpenedAs s n g room l w r x.0 x.1)
      (λ i. (
        record { volumes = volumes; passive = passive; starts = sym st i; near = sym ne i; coef = sym co i; design = sym de i; density = sym den i; last = kept i },
        record { cell = sym ce i; order = sym or i; first = sym fi i; sorted = sym so i; stamp = sym sta i; weight = sym we i; found = sym fo i; bits = sym bi i },
      )) h

-- ---- a state's numbers and what they stand for

phase-back : (p : Phase) → phase_of (phase_number p) ≡ p
unfolding phase_of choose
phase-back Idle = refl
phase-back Solid = refl
phase-back Round = refl

number-back : (n : ℕ) → ltb 2 n ≡ false → phase_number (phase_of n) ≡ n
unfolding phase_of choose
number-back zero p = refl
number-back (suc zero) p = refl
number-back (suc (suc zero)) p = refl
number-back (suc (suc (suc n))) p = absurd (omega (ltb-false 2 (suc (suc (suc n))) p, arith))

number-passes : (p : Phase) → ltb 2 (phase_number p) ≡ false
number-passes Idle = refl
number-passes Solid = refl
number-passes Round = refl

choice-back : (c : Sharpening) → sharpening_of (sharpening_number c) ≡ c
unfolding sharpening_of choose
choice-back Off = refl
choice-back Early = refl
choice-back Full = refl

choice-number-back : (n : ℕ) → ltb 2 n ≡ false → sharpening_number (sharpening_of n) ≡ n
unfolding sharpening_of choose
choice-number-back zero p = refl
choice-number-back (suc zero) p = refl
choice-number-back (suc (suc zero)) p = refl
choice-number-back (suc (suc (suc n))) p = absurd (omega (ltb-false 2 (suc (suc (suc n))) p, arith))

choice-passes : (c : Sharpening) → ltb 2 (sharpening_number c) ≡ false
choice-passes Off = refl
choice-passes Early = refl
choice-passes Full = refl

neither : (t u : Bool) → (t || u) ≡ false → (t ≡ false) × (u ≡ false)
neither true u e = absurd (not-both refl e)
neither false u e = (refl, e)

-- 20: "every state of a run passes"; and it is read as what it was
pub state-passes : (s : State) → (no_runs (state_numbers s) ≡ false) × (state_of (state_numbers s) ≡ s)
unfolding state_of state_numbers
state-passes s = (
  (λ i. number-passes s.phase i || choice-passes s.setting.sharpen i),
  λ i. record {
    phase = phase-back s.phase i;
    setting = record { elements = s.setting.elements; entries = s.setting.entries; fraction = s.setting.fraction; sharpen = choice-back s.setting.sharpen i; max_iterations = s.setting.max_iterations };
    progress = s.progress;
    compliances = s.compliances;
  },
)

-- "Kept": a state that passes and is given back is as before
pub state-kept : (s : RunState) → no_runs s ≡ false → state_numbers (state_of s) ≡ s
unfolding state_of state_numbers
state-kept s p =
    let n = neither (ltb 2 s.phase) (ltb 2 s.sharpen) p in
    λ i. record { phase = number-back s.phase n.0 i; elements = s.elements; entries = s.entries; fraction = s.fraction; sharpen = choice-number-back s.sharpen n.1 i; max_iterations = s.max_iterations; rounds = s.rounds; stage = s.stage; at_stage = s.at_stage; steady = s.steady; solid_compliance = s.solid_compliance; compliance = s.compliance }
