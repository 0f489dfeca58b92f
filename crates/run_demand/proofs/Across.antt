-- Demand 3 across the boundary: whatever `sokdrib_open` and `sokdrib_answer` tell that meets their contracts is what the plain run shows. Assumes nothing.
use Rattle.std.specs.Prelude.{Option, Some, None}
use mathlib.Core.Path.{◌≡◌, refl, sym, ap, ◌∙◌, subst}
use mathlib.Core.Bool.{false, ◌||◌}
use mathlib.Core.List.{List, [], ◌∷◌, map}
use Prim.Native.Nat.{ℕ}
use lib.ListN.{length, take, set, length-map}
use lib.Dec.{eqb}
use Rattle.lists.specs.Lists.{choose, overlay}
use Rattle.lists.proofs.Mapped.{map-take, map-set, map-overlay, set_past}
use Rattle.topo.specs.declared.Iteration.{Iteration}
use Rattle.topo.specs.declared.Stop.{Stop as Reason}
use Rattle.topo.specs.Stops.{stop_number}
use Rattle.topo.specs.declared.Stop.TheVariants.{Settled, LevelledOff, Limit, Budget, Stopped}
use Rattle.run_plain.specs.declared.Reply.{Reply}
use Rattle.run_plain.specs.declared.Reply.TheVariants.{Refused, Solid, Round, Stop}
use Rattle.run_plain.specs.Plain.{stops, unopened, plain_run}
use Rattle.run_plain.specs.Calls.{lists_of, Core, Result, replied, World, lend, world_after, open_of, opening_of, answer_of, out_by, out_of as call_out, left_at as call_left, result_of, calls_from, calls_shut, calls_by, calls_run, fed, NoRun}
use Rattle.run_plain.proofs.Parts.{overlay-part}
use Rattle.run_plain.proofs.Demand.{demand}
use Rattle.run_plain.specs.declared.Returned.{Returned}
use Rattle.run_answer.specs.Answers.{noted, recorded}
use Rattle.c_numbers.specs.declared.RunState.{RunState}
use Rattle.c_numbers.specs.declared.RunReturned.{RunReturned}
use Rattle.c_numbers.specs.declared.RunStep.{RunStep}
use Rattle.c_numbers.specs.Flat.{phase_of, state_of, state_numbers, reply_kind, reply_number, returned_numbers, record_numbers, step_at, entry_numbers, step_numbers, no_runs, no_goals, OpenedIn, AnsweredIn}
use Rattle.run_demand.specs.Across.{Held, record_of, world_of, lent_core, back_core, OpenCall, AnswerCall, MetOpen, asked_of, arguments_of, Met, AllMet, opened, answered, stop_of, out_of, left_at, seen_from, seen_shut, seen_run, call_of}
use Rattle.c_numbers.proofs.Laws.{state-passes}

-- ---- numbers and what they stand for
record-back : (e : Iteration) → record_of (record_numbers e) ≡ e
unfolding record_of record_numbers
record-back e = refl

stop-back : (s : Reason) → stop_of (stop_number s) ≡ s
unfolding stop_of choose
stop-back Settled = refl
stop-back LevelledOff = refl
stop-back Limit = refl
stop-back Budget = refl
stop-back Stopped = refl

out-is : (t : Returned) (l : Core) (h : List Iteration) → out_of (returned_numbers t) l ≡ out_by (replied t.reply) t.state.setting.elements (lists_of l h)
unfolding out_of returned_numbers state_numbers choose
out-is t l h = go t.reply
  where
    go : (q : Reply) → out_of (record { state = state_numbers t.state; reply = reply_kind q; number = reply_number q }) l ≡ out_by (replied q) t.state.setting.elements (lists_of l h)
    go (Refused n) = refl
    go Solid = refl
    go (Round n) = refl
    go (Stop why) = ap (λ (s : Reason). stops s (take t.state.setting.elements l.last)) (stop-back why)

-- ---- an answer
module _ (h : Held) (m : AnswerCall) (e : Met h m) (p : no_runs h.state ≡ false) where
  known : AnsweredIn h.state (arguments_of m) (length (take m.lent.history h.history)) (lent_core m.lent h.lists) m.work m.step m.core m.worked
  known = e.contract.known p

  abbrev past : List Iteration
  past = take m.lent.history (map record_of h.history)

  long : length past ≡ length (take m.lent.history h.history)
  long = ap length (sym (map-take record_of m.lent.history h.history)) ∙ length-map (take m.lent.history h.history) record_of

  abbrev rounds : ℕ
  rounds = (state_of h.state).progress.rounds

  abbrev result : Result
  result = recorded (state_of h.state) known.step m.core past

  result-is : result ≡ result_of (world_of h) (call_of m)
  result-is = known.answers.same past long ∙ ap (λ (w : List ℕ). answer_of (state_of h.state) (arguments_of m) w (lend m.lent (world_of h).lists)) e.long

  state-is : m.step.returned.state ≡ state_numbers known.step.returned.state
  unfolding step_numbers returned_numbers
  state-is = ap (λ (r : RunStep). r.returned.state) known.numbers

  -- a record at its place, and none past the end
  placed : (x : Option Iteration) → set past (step_at (length (take m.lent.history h.history)) rounds x) (record_of (entry_numbers x)) ≡ noted past rounds x
  placed None = (λ i. set past (sym long i) (record_of (entry_numbers None))) ∙ set_past past (record_of (entry_numbers None))
  placed (Some x) = ap (set past rounds) (record-back x)

  entry-is : set past m.step.at (record_of m.step.entry) ≡ noted past rounds known.step.entry
  unfolding step_numbers
  entry-is = ap (λ (r : RunStep). set past r.at (record_of r.entry)) known.numbers ∙ placed known.step.entry

  history-is : map record_of (answered h m).history ≡ overlay (noted past rounds known.step.entry) (map record_of h.history)
  history-is =
      map-overlay record_of (set (take m.lent.history h.history) m.step.at m.step.entry) h.history
      ∙ ap (λ (l : List Iteration). overlay l (map record_of h.history))
      (map-set record_of (take m.lent.history h.history) m.step.at m.step.entry ∙ (λ i. set (map-take record_of m.lent.history h.history i) m.step.at (record_of m.step.entry)) ∙ entry-is)

  world_is : world_of (answered h m) ≡ world_after (world_of h).lists (result_of (world_of h) (call_of m))
  world_is =
      (λ i. record { state = (ap state_of state-is ∙ (state-passes known.step.returned.state).1) i; lists = lists_of (back_core m.core h.lists) (history-is i) })
      ∙ ap (world_after (world_of h).lists) result-is

  passes_on : no_runs (answered h m).state ≡ false
  passes_on = subst (λ (s : RunState). no_runs s ≡ false) (sym state-is) (state-passes known.step.returned.state).0

  answer-out : out_of m.step.returned m.core ≡ call_out (result_of (world_of h) (call_of m))
  unfolding step_numbers
  answer-out = ap (λ (r : RunStep). out_of r.returned m.core) known.numbers ∙ out-is known.step.returned m.core (noted past rounds known.step.entry) ∙ ap call_out result-is

left_is : (h : Held) → left_at h ≡ call_left (world_of h)
unfolding state_of
left_is h = refl

from_is : (h : Held) (more : List AnswerCall) → no_runs h.state ≡ false → AllMet h more → seen_from h more ≡ calls_from (world_of h) (map call_of more)
unfolding seen_from calls_from AllMet
from_is h [] p a = refl
from_is h (m ∷ more) p a =
    let w = world_is h m a.0 p in
    let o = answer-out h m a.0 p in
    let l = left_is (answered h m) ∙ ap call_left w in
    let t = from_is (answered h m) more (passes_on h m a.0 p) a.1 ∙ ap (λ (v : World). calls_from v (map call_of more)) w in
    λ i. record { out = o i; left = l i } ∷ t i

shut-is : (h : Held) (more : List AnswerCall) → no_runs h.state ≡ false → AllMet h more → seen_shut h more ≡ calls_shut (world_of h) (map call_of more)
unfolding seen_shut calls_shut AllMet
shut-is h [] p a = refl
shut-is h (m ∷ more) p a =
    let w = world_is h m a.0 p in
    let o = answer-out h m a.0 p in
    let t = shut-is (answered h m) more (passes_on h m a.0 p) a.1 ∙ ap (λ (v : World). calls_shut v (map call_of more)) w in
    λ i. record { out = o i; left = unopened } ∷ t i

-- ---- an opening
module _ (h : Held) (b : OpenCall) (e : MetOpen h b) (p : (no_runs h.state || no_goals b.goal) ≡ false) where
  begun : OpenedIn h.state (asked_of b) (length (take b.lent.history h.history)) (lent_core b.lent h.lists) b.work b.returned b.core b.worked
  begun = e.contract.known p

  abbrev before : List Iteration
  before = take b.lent.history (map record_of h.history)

  before-long : length before ≡ length (take b.lent.history h.history)
  before-long = ap length (sym (map-take record_of b.lent.history h.history)) ∙ length-map (take b.lent.history h.history) record_of

  abbrev first : Result
  first = record { state = begun.returned.state; reply = replied begun.returned.reply; lists = lists_of b.core before }

  first-is : first ≡ open_of (state_of h.state) (asked_of b) b.lent.work (lend b.lent (world_of h).lists)
  first-is = begun.opens.same before before-long ∙ ap (λ (w : List ℕ). open_of (state_of h.state) (asked_of b) w (lend b.lent (world_of h).lists)) e.long

  first-state : b.returned.state ≡ state_numbers begun.returned.state
  unfolding returned_numbers
  first-state = ap (λ (r : RunReturned). r.state) begun.numbers

  first-world : world_of (opened h b) ≡ world_after (world_of h).lists first
  first-world = λ i. record { state = (ap state_of first-state ∙ (state-passes begun.returned.state).1) i; lists = lists_of (back_core b.core h.lists) (sym (overlay-part b.lent.history (map record_of h.history)) i) }

  first_passes : no_runs (opened h b).state ≡ false
  first_passes = subst (λ (s : RunState). no_runs s ≡ false) (sym first-state) (state-passes begun.returned.state).0

  first_out : out_of b.returned b.core ≡ call_out first
  first_out = ap (λ (r : RunReturned). out_of r b.core) begun.numbers ∙ out-is begun.returned b.core before

  first_kind : b.returned.reply ≡ reply_kind begun.returned.reply
  unfolding returned_numbers
  first_kind = ap (λ (r : RunReturned). r.reply) begun.numbers

  module _ (more : List AnswerCall) (all : AllMet (opened h b) more) where
    by-reply : (q : Reply) → choose (eqb (reply_kind q) 0) (record { out = out_of b.returned b.core; left = unopened } ∷ seen_shut (opened h b) more) (record { out = out_of b.returned b.core; left = left_at (opened h b) } ∷ seen_from (opened h b) more)
        ≡ calls_by (world_after (world_of h).lists first) (map call_of more) (replied q) (call_out first)
    unfolding choose
    by-reply (Refused n) = λ i. record { out = first_out i; left = unopened } ∷ (shut-is (opened h b) more first_passes all ∙ ap (λ (v : World). calls_shut v (map call_of more)) first-world) i
    by-reply Solid = λ i. record { out = first_out i; left = (left_is (opened h b) ∙ ap call_left first-world) i } ∷ (from_is (opened h b) more first_passes all ∙ ap (λ (v : World). calls_from v (map call_of more)) first-world) i
    by-reply (Round n) = λ i. record { out = first_out i; left = (left_is (opened h b) ∙ ap call_left first-world) i } ∷ (from_is (opened h b) more first_passes all ∙ ap (λ (v : World). calls_from v (map call_of more)) first-world) i
    by-reply (Stop why) = λ i. record { out = first_out i; left = (left_is (opened h b) ∙ ap call_left first-world) i } ∷ (from_is (opened h b) more first_passes all ∙ ap (λ (v : World). calls_from v (map call_of more)) first-world) i

    pub run_is : seen_run h b more ≡ calls_run (world_of h) b.lent (asked_of b) (map call_of more)
    unfolding seen_run calls_run
    run_is =
        ap (λ (k : ℕ). choose (eqb k 0) (record { out = out_of b.returned b.core; left = unopened } ∷ seen_shut (opened h b) more) (record { out = out_of b.returned b.core; left = left_at (opened h b) } ∷ seen_from (opened h b) more)) first_kind
        ∙ by-reply begun.returned.reply
        ∙ ap (λ (r : Result). calls_by (world_after (world_of h).lists r) (map call_of more) r.reply (call_out r)) first-is

-- ---- demand 3 of the calls over numbers: phase 0 is a state with no run open, and the numbers are a run's and a goal's
no_run : (s : RunState) → s.phase ≡ 0 → NoRun (state_of s)
unfolding state_of phase_of choose
no_run s e = rw e

pub demand_3-across : (h : Held) (b : OpenCall) (more : List AnswerCall) → h.state.phase ≡ 0 → (no_runs h.state || no_goals b.goal) ≡ false → MetOpen h b → AllMet (opened h b) more
    → seen_run h b more ≡ plain_run (opening_of (asked_of b) b.lent.work (lend b.lent (world_of h).lists)) (map (fed (world_of h).lists) (map call_of more))
demand_3-across h b more z p m all = run_is h b m p more all ∙ (demand (world_of h) b.lent (asked_of b) (map call_of more) (no_run h.state z)).same
