-- Demand 3 of the calls `run::open` and `run::answer`, sentence by sentence. Statements only; `demand_3` (proofs/Demand.antt) proves them, and `open_can` and `answer_can` (proofs/Can.antt)
-- that calls as it takes them can always be made.
use Rattle.std.specs.Prelude.{◌≡◌, false, List, map, ◌≤◌, take}
use Rattle.topo.specs.declared.Sharpening.TheVariants.{Full}
use Rattle.run_plain.specs.Formulas.{Steep}
use Rattle.run_plain.specs.Opening.{Opening, entry_of, Opens}
use Rattle.run_plain.specs.Plain.{Out, Answer, Run, sharpest, plain_run, plain_start, run_from}
use Rattle.run_plain.specs.Runs.{rounds_begun, times, FullFrom, Ended, made as made_in, recorded_in}
use Rattle.run_plain.specs.Calls.{World, opening_of, lend, out_of, fed, NoRun}
use Rattle.run_plain.specs.Demand.{OpenedRun, Stands}
use Rattle.run_bounds.specs.Bounds.{WithinRun}
use Rattle.run_demand.specs.Made.{MadeOpen, Made, answer_result, call_of, Met, opened, seen_run, world_made}

-- the answer m ends the run only where, and wherever, the plain run's answer a ends it, and in the same way
pub record EndsMade (v : World) (m : Made) (r : Run) (a : Answer) : Type 0 where
  pub only : (NoRun v.state → ⊥) → NoRun m.returned.state → Ended r a (out_of (answer_result m))
  pub there : (o : Out) → Ended r a o → NoRun m.returned.state × (out_of (answer_result m) ≡ o)

module _ (w : World) (b : MadeOpen) (more : List Made) where
  -- "fed the same": the opening's arguments, and of each answer the arguments and the lengths of its lists
  abbrev pub opening : Opening
  opening = opening_of b.asked b.lent.work (lend b.lent w.lists)

  abbrev pub answers : List Answer
  answers = map (fed w.lists) (map call_of more)

  -- what the caller, and the plain run, then hold
  abbrev pub held : World
  held = world_made (opened w b) more

  abbrev pub plain_end : Run
  plain_end = run_from (plain_start opening) answers

  -- for every opening on a state with no run open and every list of answers
  pub record Demand3 : Type 0 where
    -- "each call's refusal, question or stop and, once opened, the records and the design are those of 01's plain run, fed the same": the whole claim. The others follow from it
    pub same : seen_run w b more ≡ plain_run opening answers
    -- "an opened run puts one question for the solid part and one a round begun, begins no more rounds than the goal allows, [..] at most 200 volume reckonings a round, and, if
    -- sharpened, has at most 20 rounds at each steepness below 16, so its round 81 is at 16"
    pub opened-run : entry_of opening ≡ Opens → OpenedRun opening (seen_run w b more)
    -- the 20 rounds, of all that are begun: "A round begins when its question goes out."
    pub twenty : entry_of opening ≡ Opens → (d : Steep) → sharpest opening.goal.sharpen d ≡ false → times d (rounds_begun (plain_start opening) answers) ≤ 20
    -- 02, "Full stages": "the promise of at most 20 becomes exactly 20 and round 81, if it is reached, is the first at 16". Of the records it is in `opened-run`
    pub full : entry_of opening ≡ Opens → opening.goal.sharpen ≡ Full → FullFrom 1 (rounds_begun (plain_start opening) answers)
    -- "makes just the reckonings in its records"
    pub made : entry_of opening ≡ Opens → made_in (plain_start opening) answers ≡ recorded_in (take held.state.progress.rounds held.lists.history)
    -- "After each update held elements are 1 and free ones lie from 0.001 to 1, within the round's move as 01 rounds it."
    pub within : entry_of opening ≡ Opens → WithinRun opening (seen_run w b more)
    -- "A run ends exactly where the plain run tries a stop of 01 that applies, by the first in its order, or by a refusal that 01 marks over."
    pub ends : entry_of opening ≡ Opens → (m : Made) → Met held m → EndsMade held m plain_end (fed w.lists (call_of m))
    -- "every state of a run passes" 20's test; "No run is open [..] on what a run's end, or an opening refused on such a state, leaves"
    pub stands : entry_of opening ≡ Opens → Stands held plain_end
    pub refused : (entry_of opening ≡ Opens → ⊥) → NoRun held.state
