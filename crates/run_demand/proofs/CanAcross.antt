-- The premises of demand 3 across the boundary can be met: whatever is lent and told, there are numbers that meet the contract of `sokdrib_open`, and of `sokdrib_answer`. Assumes nothing.
use Rattle.topo.specs.declared.Stop.{Stop}
use Rattle.std.specs.Prelude.{Option, Some, None}
use mathlib.Core.Path.{◌≡◌, refl, sym, ap, ◌∙◌}
use mathlib.Core.Bool.{false, ◌||◌}
use mathlib.Core.List.{List, []}
use Prim.Native.Nat.{ℕ}
use lib.ListN.{length, take, set}
use Rattle.lists.specs.Lists.{choose}
use Rattle.topo.specs.declared.Iteration.{Iteration}
use Rattle.run_plain.specs.declared.Phase.{Phase}
use Rattle.run_plain.specs.declared.Phase.TheVariants.{Idle, Solid, Round}
use Rattle.run_plain.specs.declared.State.{State}
use Rattle.run_plain.specs.declared.Verdict.{Verdict}
use Rattle.run_plain.specs.declared.Verdict.TheVariants.{Kept, Over, Halts, Begins, Solves}
use Rattle.run_plain.specs.Opening.{Opening, entry_of, Entry, Kept as KeptOut, Zeroed, Shut, Opens}
use Rattle.run_plain.specs.Plain.{first_stop}
use Rattle.run_plain.specs.Calls.{lists_of, Core, Asked, Arguments, Result, replied, case_from, record_in, stops_at, solved_by, keeps, answer_by, answer_of, zeroed_lists, open_by, in_turn, open_of}
use Rattle.run_answer.specs.declared.Step.{Step}
use Rattle.run_plain.specs.declared.Returned.{Returned}
use Rattle.filter.specs.Build.{Working as OpenWorking, work_lengths}
use Rattle.run_plain.specs.Held.{Working, lengths_of}
use Rattle.run_answer.specs.Answers.{recorded, verdict_in, CoreAnswered}
use Rattle.run_open_checks.specs.Opens.{opening_in, entry_in, CoreOpened}
use Rattle.c_numbers.specs.Flat.{state_of, returned_numbers, step_numbers, no_runs, no_goals}
use Rattle.c_numbers.proofs.Laws.{not-both}
use Rattle.run_demand.specs.Made.{core_of}
use Rattle.run_demand.specs.Across.{Held, lent_core, OpenCall, AnswerCall, asked_of, arguments_of, MetOpen, Met}
use Rattle.run_demand.proofs.Named.{entry_named}
use Rattle.run_demand.proofs.Can.{follows, replies, as_lent, leaves, open-left, tells, told_so}

-- ---- an answer: what it tells hangs on no record of the history, so it is that of the empty one
module _ (s : State) (a : Arguments) (room : ℕ) (l : Core) (w : Working) where
  abbrev by : Verdict → Result
  by v = answer_by s a (lists_of l []) v

  abbrev entry_by : Verdict → Option Iteration
  entry_by (Kept n) = None
  entry_by (Over n) = None
  entry_by Halts = None
  entry_by Begins = None
  entry_by Solves = Some (record_in s a (lists_of l []))

  abbrev step_by : Verdict → Step
  step_by v = record { returned = record { state = (by v).state; reply = replies s a (lists_of l []) v }; entry = entry_by v }

  module _ (h : List Iteration) where
    solves : (t : Option Stop) → ◌≡◌ {A = Result} (record { state = (solved_by s a (lists_of l []) t).state; reply = replied (follows s t); lists = lists_of (core_of (solved_by s a (lists_of l []) t).lists) (set h s.progress.rounds (record_in s a (lists_of l []))) }) (solved_by s a (lists_of l h) t)
    unfolding case_from
    solves (Some why) = refl
    solves None = refl

    put_is : (v : Verdict) → recorded s (step_by v) (core_of (by v).lists) h ≡ answer_by s a (lists_of l h) v
    unfolding case_from
    put_is (Kept n) = refl
    put_is (Over n) = refl
    put_is Halts = refl
    put_is Begins = refl
    put_is Solves = solves (first_stop (stops_at s a.heard (record_in s a (lists_of l []))))

  abbrev pub verdict : Verdict
  verdict = verdict_in s a room l w

  pub answers_can : CoreAnswered s a room l w (step_by verdict) (core_of (by verdict).lists) w
  unfolding answer_of
  answers_can = record {
    same = λ h e. put_is h verdict ∙ ap (λ (n : ℕ). answer_by s a (lists_of l h) (verdict_in s a n l w)) (sym e);
    work = as_lent s.setting.elements w verdict;
  }

-- ---- an opening
module _ (s : State) (g : Asked) (room : ℕ) (l : Core) (w : OpenWorking) where
  abbrev opening : Opening
  opening = opening_in g room l w

  abbrev begun : List Iteration → Phase → Result
  begun h p = choose (in_turn p) (open_by s opening (lists_of l h) (entry_of opening)) (keeps s 20 (lists_of l h))

  begun-is : (h : List Iteration) (p : Phase) → ◌≡◌ {A = Result} (record { state = (begun [] p).state; reply = (begun [] p).reply; lists = lists_of (core_of (begun [] p).lists) h }) (begun h p)
  unfolding choose zeroed_lists
  begun-is h Solid = refl
  begun-is h Round = refl
  begun-is h Idle = go (entry_of opening)
    where
      go : (v : Entry) → ◌≡◌ {A = Result} (record { state = (open_by s opening (lists_of l []) v).state; reply = (open_by s opening (lists_of l []) v).reply; lists = lists_of (core_of (open_by s opening (lists_of l []) v).lists) h }) (open_by s opening (lists_of l h) v)
      go (KeptOut n) = refl
      go (Zeroed n) = refl
      go Shut = refl
      go Opens = refl

  abbrev pub comes : Returned
  comes = record { state = (begun [] s.phase).state; reply = tells (entry_in s g room l w) (entry_named s g room l w) }

  pub opened_can : CoreOpened s g room l w comes (core_of (begun [] s.phase).lists) (leaves w (entry_in s g room l w))
  unfolding open_of
  opened_can = record {
    same = λ h e.
        (λ i. record { state = (begun [] s.phase).state; reply = told_so s opening (lists_of l []) (in_turn s.phase) (entry_named s g room l w) i; lists = lists_of (core_of (begun [] s.phase).lists) h })
        ∙ begun-is h s.phase
        ∙ ap (λ (n : ℕ). choose (in_turn s.phase) (open_by s (opening_in g n l w) (lists_of l h) (entry_of (opening_in g n l w))) (keeps s 20 (lists_of l h))) (sym e);
    work = open-left (length l.volumes) w (entry_in s g room l w);
  }

-- ---- as numbers, on a state as the calls leave it and for a goal's number
abbrev pub answer_numbers : Held → AnswerCall → AnswerCall
answer_numbers h m =
    let room = length (take m.lent.history h.history) in
    let l = lent_core m.lent h.lists in
    let v = verdict (state_of h.state) (arguments_of m) room l m.work in
    record { lent = m.lent; heard = m.heard; energies = m.energies; work = m.work; step = step_numbers room (state_of h.state).progress.rounds (step_by (state_of h.state) (arguments_of m) room l m.work v); core = core_of (by (state_of h.state) (arguments_of m) room l m.work v).lists; worked = m.work }

pub answer_can-across : (h : Held) (m : AnswerCall) → no_runs h.state ≡ false → lengths_of m.work ≡ m.lent.work → Met h (answer_numbers h m)
answer_can-across h m p e =
    record {
      long = e;
      contract = record {
        known = λ q. record { step = _; numbers = refl; answers = answers_can (state_of h.state) (arguments_of m) (length (take m.lent.history h.history)) (lent_core m.lent h.lists) m.work };
        unknown = λ q. absurd (not-both q p);
      };
    }

abbrev pub open_numbers : Held → OpenCall → OpenCall
open_numbers h b =
    let room = length (take b.lent.history h.history) in
    let l = lent_core b.lent h.lists in
    record { lent = b.lent; centroids = b.centroids; mirrors = b.mirrors; goal = b.goal; flag = b.flag; work = b.work; returned = returned_numbers (comes (state_of h.state) (asked_of b) room l b.work); core = core_of (begun (state_of h.state) (asked_of b) room l b.work [] (state_of h.state).phase).lists; worked = leaves b.work (entry_in (state_of h.state) (asked_of b) room l b.work) }

pub open_can-across : (h : Held) (b : OpenCall) → (no_runs h.state || no_goals b.goal) ≡ false → work_lengths b.work ≡ b.lent.work → MetOpen h (open_numbers h b)
open_can-across h b p e =
    record {
      long = e;
      contract = record {
        known = λ q. record { returned = _; numbers = refl; opens = opened_can (state_of h.state) (asked_of b) (length (take b.lent.history h.history)) (lent_core b.lent h.lists) b.work };
        unknown = λ q. absurd (not-both q p);
      };
    }
