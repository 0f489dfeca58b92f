-- Demand 3, of the calls `open` and `answer`: whatever they return that meets their contracts is what the plain run shows. The contracts give the functions
-- of crate `run_plain` call by call, and of these its theorem speaks. Assumes nothing.
use mathlib.Core.Path.{◌≡◌, refl, sym, ap, ◌∙◌, subst}
use mathlib.Core.Bool.{true}
use mathlib.Core.List.{List, [], ◌∷◌, map}
use Prim.Native.Nat.{ℕ}
use lib.ListN.{take}
use Rattle.run_plain.specs.declared.State.{State}
use Rattle.run_plain.specs.declared.Reply.{Reply}
use Rattle.run_plain.specs.declared.Reply.TheVariants.{Refused, Solid, Round, Stop}
use Rattle.run_plain.specs.Plain.{Out, Answer, Run, Seen, unopened}
use Rattle.run_plain.specs.Runs.{Ended, recorded_in}
use Rattle.run_plain.proofs.Whole.{closed-passes}
use Rattle.run_plain.specs.Calls.{Result, replied, World, open_of, answer_of, lend, world_after, out_of, left_at, result_of, calls_from, calls_shut, calls_by, calls_run, fed, NoRun, fresh, sound, in_turn, world_open, world_from}
use Rattle.run_plain.specs.Demand.{OpenedRun, Stands, EndsAt}
use Rattle.run_plain.proofs.Demand.{demand}
use Rattle.run_bounds.specs.Bounds.{WithinRun}
use Rattle.run_bounds.proofs.Runs.{within-run}
use Rattle.run_demand.specs.Made.{MadeOpen, Made, open_result, answer_result, call_of, MetOpen, Met, AllMet, seen_from, seen_shut, seen_by, opened, seen_run, world_made}
use Rattle.run_demand.specs.Demand.{EndsMade, opening, answers, plain_end, Demand3}

-- ---- a call that meets its contract gives the function's result
open_is : (w : World) (b : MadeOpen) → MetOpen w b → open_result b ≡ open_of w.state b.asked b.lent.work (lend b.lent w.lists)
open_is w b m = m.contract.same ∙ ap (λ (k : List ℕ). open_of w.state b.asked k (lend b.lent w.lists)) m.long

answer-is : (w : World) (m : Made) → Met w m → answer_result m ≡ result_of w (call_of m)
answer-is w m h = h.contract.same ∙ ap (λ (k : List ℕ). answer_of w.state m.arguments k (lend m.lent w.lists)) h.long

-- ---- and so the calls show what the functions show
from_is : (w : World) (more : List Made) → AllMet w more → seen_from w more ≡ calls_from w (map call_of more)
unfolding seen_from calls_from AllMet
from_is w [] h = refl
from_is w (m ∷ more) h =
    let e : answer_result m ≡ result_of w (call_of m) = answer-is w m h.0 in
    let t = from_is (world_after w.lists (answer_result m)) more h.1 ∙ ap (λ (r : Result). calls_from (world_after w.lists r) (map call_of more)) e in
    λ i. record { out = out_of (e i); left = left_at (world_after w.lists (e i)) } ∷ t i

shut-is : (w : World) (more : List Made) → AllMet w more → seen_shut w more ≡ calls_shut w (map call_of more)
unfolding seen_shut calls_shut AllMet
shut-is w [] h = refl
shut-is w (m ∷ more) h =
    let e : answer_result m ≡ result_of w (call_of m) = answer-is w m h.0 in
    let t = shut-is (world_after w.lists (answer_result m)) more h.1 ∙ ap (λ (r : Result). calls_shut (world_after w.lists r) (map call_of more)) e in
    λ i. record { out = out_of (e i); left = unopened } ∷ t i

by-is : (w : World) (more : List Made) → AllMet w more → (r : Reply) (out : Out) → seen_by w more r out ≡ calls_by w (map call_of more) (replied r) out
by-is w more h (Refused n) out = ap (λ (l : List Seen). record { out = out; left = unopened } ∷ l) (shut-is w more h)
by-is w more h Solid out = ap (λ (l : List Seen). record { out = out; left = left_at w } ∷ l) (from_is w more h)
by-is w more h (Round n) out = ap (λ (l : List Seen). record { out = out; left = left_at w } ∷ l) (from_is w more h)
by-is w more h (Stop why) out = ap (λ (l : List Seen). record { out = out; left = left_at w } ∷ l) (from_is w more h)

world_is : (w : World) (more : List Made) → AllMet w more → world_made w more ≡ world_from w (map call_of more)
unfolding world_made world_from AllMet
world_is w [] h = refl
world_is w (m ∷ more) h = world_is (world_after w.lists (answer_result m)) more h.1 ∙ ap (λ (r : Result). world_from (world_after w.lists r) (map call_of more)) (answer-is w m h.0)

-- ---- the demand
ends-made : (v : World) (m : Made) (r : Run) (a : Answer) → Met v m → EndsAt v (call_of m) r a → EndsMade v m r a
ends-made v m r a h x =
    let e : answer_result m ≡ result_of v (call_of m) = answer-is v m h in
    record {
      only = λ p q. subst (λ (t : Result). Ended r a (out_of t)) (sym e) (x.only p (subst (λ (t : Result). NoRun t.state) e q));
      there = λ o z. let t = x.there o z in (subst (λ (u : Result). NoRun u.state) (sym e) t.0, ap out_of e ∙ t.1);
    }

pub demand_3 : (w : World) (b : MadeOpen) (more : List Made) → NoRun w.state → MetOpen w b → AllMet (opened w b) more → Demand3 w b more
unfolding seen_run calls_run
demand_3 w b more h m all =
    let d = demand w b.lent b.asked (map call_of more) h in
    let e : open_result b ≡ open_of w.state b.asked b.lent.work (lend b.lent w.lists) = open_is w b m in
    let seen : seen_run w b more ≡ calls_run w b.lent b.asked (map call_of more) =
    by-is (opened w b) more all b.returned.reply (out_of (open_result b)) ∙ ap (λ (r : Result). calls_by (world_after w.lists r) (map call_of more) r.reply (out_of r)) e in
    let left : world_made (opened w b) more ≡ world_from (world_open w b.lent b.asked) (map call_of more) =
    world_is (opened w b) more all ∙ ap (λ (r : Result). world_from (world_after w.lists r) (map call_of more)) e in
    record {
      same = seen ∙ d.same;
      opened-run = λ z. subst (OpenedRun (opening w b more)) (sym seen) (d.opened z);
      twenty = d.twenty;
      full = d.full;
      made = λ z. d.made z ∙ ap (λ (v : World). recorded_in (take v.state.progress.rounds v.lists.history)) (sym left);
      within = λ z. subst (WithinRun (opening w b more)) (sym (seen ∙ d.same)) (within-run (opening w b more) (answers w b more) z);
      ends = λ z q mq. ends-made _ q _ _ mq (subst (λ (v : World). EndsAt v (call_of q) (plain_end w b more) (fed w.lists (call_of q))) (sym left) (d.ends z (call_of q)));
      stands = λ z. subst (λ (v : World). Stands v (plain_end w b more)) (sym left) (d.stands z);
      refused = λ z. subst (λ (v : World). NoRun v.state) (sym left) (d.refused z);
    }

-- ---- "No run is open on the fresh state that docs/ gives, nor on what a run's end, or an opening refused on such a state, leaves": the first here, the
-- others are `stands`, which says of a run with no part that no run is open, and `refused`
pub fresh-has-none : NoRun fresh
unfolding fresh
fresh-has-none = refl

-- "all these pass 20's test, and an opening on them is in turn"
pub none_passes : (s : State) → NoRun s → sound s ≡ true
none_passes = closed-passes

pub none_in-turn : (s : State) → NoRun s → in_turn s.phase ≡ true
none_in-turn s e = ap in_turn e
