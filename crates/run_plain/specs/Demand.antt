-- Demand 3, as it is said of the functions that the contracts of `open` and `answer` cite: what holds of a whole run. Statements only; `demand` (proofs/Demand.antt) proves them.
use Rattle.std.specs.Prelude.{◌≡◌, true, false, List, map, ℕ, ◌≤◌, take}
use Rattle.topo.specs.declared.Sharpening.TheVariants.{Full}
use Rattle.run_plain.specs.declared.State.{State}
use Rattle.run_plain.specs.Lent.{Sizes}
use Rattle.run_plain.specs.Formulas.{Steep}
use Rattle.run_plain.specs.Opening.{Opening, entry_of, Opens}
use Rattle.run_plain.specs.Plain.{Answer, nothing, Out, Seen, in_order, sharpest, Run, plain_start, run_from, plain_run}
use Rattle.run_plain.specs.Calls.{Lists, Arguments, part_of, sound, answer_of, Asked, opening_of, World, lend, Call, result_of, out_of, calls_run, world_open, world_from, fed, NoRun}
use Rattle.run_plain.specs.Runs.{solid_asked, rounds_asked, Upto, All, GoodShown, rounds_begun, times, FullFrom, Ended, made as made_in, recorded_in}

-- what an opened run shows: "one question for the solid part and one a round begun, begins no more rounds than the goal allows", and its records
pub record OpenedRun (o : Opening) (l : List Seen) : Type 0 where
  pub solid : solid_asked l ≡ 1
  pub rounds : Upto 1 o.goal.max_iterations (rounds_asked l)
  pub records : All (λ (s : Seen). GoodShown o s.left) l

-- what the caller holds after each call of an opened run: the state passes 20's test and asks for the plain run's part, the records are the plain run's, and no run is open
-- where the plain run has no part
pub record Stands (w : World) (r : Run) : Type 0 where
  pub passes : sound w.state ≡ true
  pub asks : part_of w.state ≡ r.part
  pub closed : r.part ≡ nothing → NoRun w.state
  pub solid : w.state.compliances.solid ≡ r.solid_work
  pub records : take w.state.progress.rounds w.lists.history ≡ in_order r.rows

-- the answer c ends the run only where, and wherever, the plain run's answer a ends it, and in the same way
pub record EndsAt (w : World) (c : Call) (r : Run) (a : Answer) : Type 0 where
  pub only : (NoRun w.state → ⊥) → NoRun (result_of w c).state → Ended r a (out_of (result_of w c))
  pub there : (o : Out) → Ended r a o → NoRun (result_of w c).state × (out_of (result_of w c) ≡ o)

-- "a list lent too short being a part of the same list": which part makes no difference. An answer that is lent too little gives the same with any lists of these lengths, and keeps them
pub record AnyPart (s : State) (a : Arguments) (work : List ℕ) (l l' : Lists) : Type 0 where
  pub reply : (answer_of s a work l').reply ≡ (answer_of s a work l).reply
  pub state : (answer_of s a work l').state ≡ s
  pub lists : (answer_of s a work l').lists ≡ l'

-- for every opening on a state with no run open and every list of answers: `same` is the whole claim, the others what follows from it
module _ (w : World) (k : Sizes) (g : Asked) (more : List Call) where
  -- what the plain run is fed
  abbrev pub opening : Opening
  opening = opening_of g k.work (lend k w.lists)

  abbrev pub answers : List Answer
  answers = map (fed w.lists) more

  -- what the calls and the plain run come to
  abbrev pub calls_end : World
  calls_end = world_from (world_open w k g) more

  abbrev pub plain_end : Run
  plain_end = run_from (plain_start opening) answers

  pub record Demand : Type 0 where
    pub same : calls_run w k g more ≡ plain_run opening answers
    pub opened : entry_of opening ≡ Opens → OpenedRun opening (calls_run w k g more)
    pub stands : entry_of opening ≡ Opens → Stands calls_end plain_end
    -- "if sharpened, has at most 20 rounds at each steepness below 16": rounds begun, the last one without a record among them
    pub twenty : entry_of opening ≡ Opens → (d : Steep) → sharpest opening.goal.sharpen d ≡ false → times d (rounds_begun (plain_start opening) answers) ≤ 20
    -- 02, "Full stages": "exactly 20 and round 81, if it is reached, is the first at 16": of the rounds begun; of the records `FullStages` says it
    pub full : entry_of opening ≡ Opens → opening.goal.sharpen ≡ Full → FullFrom 1 (rounds_begun (plain_start opening) answers)
    -- "makes just the reckonings in its records"
    pub made : entry_of opening ≡ Opens → made_in (plain_start opening) answers ≡ recorded_in (take calls_end.state.progress.rounds calls_end.lists.history)
    -- "A run ends exactly where the plain run tries a stop of 01 that applies, by the first in its order, or by a refusal that 01 marks over."
    pub ends : entry_of opening ≡ Opens → (c : Call) → EndsAt calls_end c plain_end (fed w.lists c)
    pub refused : (entry_of opening ≡ Opens → ⊥) → NoRun calls_end.state
