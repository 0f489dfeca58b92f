-- "A run ends exactly where the plain run tries a stop of 01 that applies, by the first in its order, or by a refusal that 01 marks over": of the calls.
-- Assumes nothing.
use mathlib.Core.Path.{◌≡◌, sym, ap, ◌∙◌, subst}
use mathlib.Core.List.{List, map}
use Rattle.lists.specs.Lists.{choose}
use Rattle.run_plain.specs.declared.Phase.{Phase}
use Rattle.run_plain.specs.declared.State.{State}
use Rattle.run_plain.specs.Lent.{Sizes}
use Rattle.run_plain.specs.Opening.{entry_of, Opens}
use Rattle.run_plain.specs.Plain.{nothing, Run, answered, plain_start, run_from}
use Rattle.run_plain.specs.Runs.{Ended}
use Rattle.run_plain.specs.Calls.{Asked, Lists, World, Call, part_in, part_of, opening_of, lend, result_of, world_after, fed, NoRun, world_open, world_from}
use Rattle.run_plain.specs.Demand.{Stands, EndsAt}
use Rattle.run_plain.proofs.Alike.{Sim, Alike}
use Rattle.run_plain.proofs.Whole.{answer-is, open-sim, in-turn, sim-from, stands, closed-passes}
use Rattle.run_plain.proofs.Runs.{ends_by, ends_there}

none-asked : (s : State) → NoRun s → part_of s ≡ nothing
unfolding part_of choose
none-asked s h = rw (closed-passes s h) (ap (λ (p : Phase). part_in p s) h)

ends-sim : (l₀ : Lists) (r : Run) (w : World) (c : Call) → Sim l₀ r w.state w.lists → EndsAt w c r (fed l₀ c)
ends-sim l₀ r w c m =
    let a : Alike l₀ w.lists (result_of w c) (answered r (fed l₀ c)) = answer-is l₀ r w.state w.lists c m in
    let before : Stands w r = stands l₀ r w.state w.lists m in
    let later : Stands (world_after w.lists (result_of w c)) (answered r (fed l₀ c)).run = stands l₀ _ _ _ a.sim in
    record {
      only = λ h q. subst (Ended r (fed l₀ c)) (sym a.out) (ends_by r (fed l₀ c) (λ e. h (before.closed e)) (sym later.asks ∙ none-asked _ q));
      there = λ o e. let t = ends_there r (fed l₀ c) o e in (later.closed t.0, a.out ∙ t.1);
    }

-- after any answers of an opened run
pub opened-ends : (w : World) (k : Sizes) (g : Asked) (more : List Call) (c : Call) → NoRun w.state → entry_of (opening_of g k.work (lend k w.lists)) ≡ Opens
    → EndsAt (world_from (world_open w k g) more) c (run_from (plain_start (opening_of g k.work (lend k w.lists))) (map (fed w.lists) more)) (fed w.lists c)
opened-ends w k g more c h e = rw (in-turn w.state g k.work (lend k w.lists) h, e) (ends-sim w.lists _ _ c (sim-from w.lists _ _ _ more (open-sim g k w.lists e)))
