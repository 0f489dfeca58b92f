-- The premises of demand 3 can be met: whatever is lent and told, there is a call that meets its contract. Assumes nothing.
use Rattle.std.specs.Prelude.{Option, Some, None}
use mathlib.Core.Path.{◌≡◌, refl, ap}
use mathlib.Core.Bool.{Bool, true, false}
use mathlib.Core.List.{[], ◌∷◌}
use Prim.Native.Nat.{ℕ, suc}
use lib.ListN.{length, replicate}
use Rattle.lists.specs.Lists.{choose, zero64}
use Rattle.topo.specs.declared.Stop.{Stop}
use Rattle.topo.specs.declared.Stop.TheVariants.{Stopped}
use Rattle.refusal.specs.declared.Refusal.TheVariants.{Stopped as StoppedFirst}
use Rattle.filter.specs.Build.{Working as OpenWorking, work_lengths}
use Rattle.run_plain.specs.declared.State.{State}
use Rattle.run_plain.specs.declared.Reply.{Reply}
use Rattle.run_plain.specs.declared.Reply.TheVariants.{Refused, Solid, Round, Stop as StopReply}
use Rattle.run_plain.specs.declared.Verdict.{Verdict}
use Rattle.run_plain.specs.declared.Verdict.TheVariants.{Kept, Over, Halts, Begins, Solves}
use Rattle.run_plain.specs.Lent.{Sizes}
use Rattle.run_plain.specs.Opening.{Opening, Entry, Kept as KeptOut, Zeroed, Shut, Opens, entry_of}
use Rattle.run_plain.specs.Plain.{first_stop}
use Rattle.run_plain.specs.Calls.{Asked, Arguments, Lists, replied, World, Call, lend, stops_at, record_in, solved_by, answer_by, keeps, open_by, in_turn, open_of, answer_of}
use Rattle.run_plain.specs.Held.{Working, lengths_of}
use Rattle.run_answer.specs.Answers.{verdict_in, worked}
use Rattle.run_open_checks.specs.Opens.{opening_in, entry_in, Left}
use Rattle.run_demand.specs.Made.{MadeOpen, Made, core_of, MetOpen, Met}
use Rattle.run_demand.proofs.Named.{NamedEntry, entry_named}

-- ---- an answer
-- what it replies, by what follows a round, and by its verdict
abbrev pub follows : State → Option Stop → Reply
follows s (Some why) = StopReply why
follows s None = Round (suc (suc s.progress.rounds))

abbrev pub replies : State → Arguments → Lists → Verdict → Reply
replies s a l (Kept x) = Refused x
replies s a l (Over x) = Refused x
replies s a l Halts = StopReply Stopped
replies s a l Begins = Round 1
replies s a l Solves = follows s (first_stop (stops_at s a.heard (record_in s a l)))

follows-so : (s : State) (a : Arguments) (l : Lists) (t : Option Stop) → replied (follows s t) ≡ (solved_by s a l t).reply
follows-so s a l (Some why) = refl
follows-so s a l None = refl

pub replies_so : (s : State) (a : Arguments) (l : Lists) (v : Verdict) → replied (replies s a l v) ≡ (answer_by s a l v).reply
replies_so s a l (Kept x) = refl
replies_so s a l (Over x) = refl
replies_so s a l Halts = refl
replies_so s a l Begins = refl
replies_so s a l Solves = follows-so s a l (first_stop (stops_at s a.heard (record_in s a l)))

abbrev pub answer_made : World → Call → Working → Made
answer_made w c work =
    let l = lend c.lent w.lists in
    let v = verdict_in w.state c.arguments (length l.history) (core_of l) work in
    let r = answer_by w.state c.arguments l v in
    record { lent = c.lent; arguments = c.arguments; work = work; returned = record { state = r.state; reply = replies w.state c.arguments l v }; core = core_of r.lists; worked = work; history = r.lists.history }

pub as_lent : (n : ℕ) (w : Working) (v : Verdict) → worked n w w v
as_lent n w (Kept k) = refl
as_lent n w (Over k) = refl
as_lent n w Halts = refl
as_lent n w Begins = record { free = (refl, refl); slope = (refl, refl); spare = (refl, refl); dc = (refl, refl); dv = (refl, refl) }
as_lent n w Solves = record { free = (refl, refl); slope = (refl, refl); spare = (refl, refl); dc = (refl, refl); dv = (refl, refl) }

pub answer_can : (w : World) (c : Call) (work : Working) → lengths_of work ≡ c.lent.work → Met w (answer_made w c work)
unfolding answer_of
answer_can w c work e =
    let l = lend c.lent w.lists in
    let v = verdict_in w.state c.arguments (length l.history) (core_of l) work in
    let r = answer_by w.state c.arguments l v in
    record {
      long = e;
      contract = record {
        same = λ i. record { state = r.state; reply = replies_so w.state c.arguments l v i; lists = r.lists };
        work = as_lent w.state.setting.elements work v;
      };
    }

-- ---- an opening
abbrev pub wiped : OpenWorking → OpenWorking
wiped w =
    record { cell = replicate (length w.cell) (0 ∷ 0 ∷ 0 ∷ []); order = replicate (length w.order) 0; first = replicate (length w.first) 0; sorted = replicate (length w.sorted) (zero64 ∷ zero64 ∷ zero64 ∷ []); stamp = replicate (length w.stamp) 0; weight = replicate (length w.weight) zero64; found = replicate (length w.found) 0; bits = replicate (length w.bits) 0 }

abbrev pub leaves : OpenWorking → Entry → OpenWorking
leaves w (KeptOut k) = w
leaves w (Zeroed k) = wiped w
leaves w Shut = wiped w
leaves w Opens = w

pub open-left : (n : ℕ) (w : OpenWorking) (v : Entry) → Left n w (leaves w v) v
open-left n w (KeptOut k) = record { cell = refl; order = refl; first = refl; sorted = refl; stamp = refl; weight = refl; found = refl; bits = refl }
open-left n w (Zeroed k) = record { cell = refl; order = refl; first = refl; sorted = refl; stamp = refl; weight = refl; found = refl; bits = refl }
open-left n w Shut = record { cell = refl; order = refl; first = refl; sorted = refl; stamp = refl; weight = refl; found = refl; bits = refl }
open-left n w Opens = record { cell = (refl, refl); order = (refl, refl); first = (refl, refl); sorted = (refl, refl); stamp = (refl, refl); weight = (refl, refl); found = (refl, refl); bits = (refl, refl) }

-- what it replies, by what it comes to
abbrev pub tells : (v : Entry) → NamedEntry v → Reply
tells (KeptOut n) x = Refused x.0
tells (Zeroed n) x = Refused x.0
tells Shut x = Refused StoppedFirst
tells Opens x = Solid

pub tells_so : (s : State) (o : Opening) (l : Lists) (v : Entry) (x : NamedEntry v) → replied (tells v x) ≡ (open_by s o l v).reply
tells_so s o l (KeptOut n) x = ap (λ (k : ℕ). (keeps s k l).reply) x.1
tells_so s o l (Zeroed n) x = ap (λ (k : ℕ). (keeps s k l).reply) x.1
tells_so s o l Shut x = refl
tells_so s o l Opens x = refl

-- the same in turn and out of turn
pub told_so : (s : State) (o : Opening) (l : Lists) (t : Bool) (x : NamedEntry (choose t (entry_of o) (KeptOut 20))) → replied (tells (choose t (entry_of o) (KeptOut 20)) x) ≡ (choose t (open_by s o l (entry_of o)) (keeps s 20 l)).reply
unfolding choose
told_so s o l true x = tells_so s o l (entry_of o) x
told_so s o l false x = tells_so s o l (KeptOut 20) x

abbrev pub open_made : World → Sizes → Asked → OpenWorking → MadeOpen
open_made w k g work =
    let l = lend k w.lists in
    let r = open_of w.state g (work_lengths work) l in
    let v = entry_in w.state g (length l.history) (core_of l) work in
    record {
      lent = k;
      asked = g;
      work = work;
      returned = record { state = r.state; reply = tells v (entry_named w.state g (length l.history) (core_of l) work) };
      core = core_of r.lists;
      worked = leaves work v;
      history = r.lists.history;
    }

pub open_can : (w : World) (k : Sizes) (g : Asked) (work : OpenWorking) → work_lengths work ≡ k.work → MetOpen w (open_made w k g work)
unfolding open_of
open_can w k g work e =
    let l = lend k w.lists in
    let r = open_of w.state g (work_lengths work) l in
    let x = entry_named w.state g (length l.history) (core_of l) work in
    let t = told_so w.state (opening_in g (length l.history) (core_of l) work) l (in_turn w.state.phase) x in
    record {
      long = e;
      contract = record {
        same = λ i. record { state = r.state; reply = t i; lists = r.lists };
        work = open-left (length l.volumes) work (entry_in w.state g (length l.history) (core_of l) work);
      };
    }
