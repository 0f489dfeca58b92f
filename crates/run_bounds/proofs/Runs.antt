-- The bounds of every update of a run: by induction on the answers. Assumes nothing.
use Rattle.topo.specs.declared.Stop.{Stop}
use Rattle.std.specs.Prelude.{Option, Some, None}
use mathlib.Core.Path.{◌≡◌, refl, sym, ◌∙◌, subst}
use mathlib.Core.Bool.{Bool, true, false}
use mathlib.Core.List.{List, [], ◌∷◌}
use Prim.Native.Nat.{ℕ, zero, suc, ◌<◌}
use native.Mathlib.Omega.{arith}
use lib.ListN.{length, get_or}
use lib.Ieee.{binary64, div, le, fits, of_bits}
use Rattle.lists.specs.Lists.{choose}
use Rattle.lists.proofs.Laws.{length-tabulate, get_or-tabulate, choose-true, choose-false}
use Rattle.ieee.specs.Basic.{one64}
use Rattle.ieee_root.specs.Sqrt.{sqrt_of}
use Rattle.oc_goal.specs.Goal.{start_density}
use Rattle.oc_start.specs.Start.{start_design}
use Rattle.update_rates.specs.Bounds.{UpdatedBy}
use Rattle.update_rates.specs.Keeps.{Range, AllRange, Move, Keeps}
use Rattle.update_rates.proofs.Bounds.{choose-either, one-range, update-bounds}
use Rattle.run_plain.specs.declared.Verdict.{Verdict}
use Rattle.run_plain.specs.declared.Verdict.TheVariants.{Kept, Over, Halts, Begins, Solves}
use Rattle.run_plain.specs.Formulas.{Steep, s1, s2, s4, s8, s16, sharpness, Case, move_at, given_at, update_at, record_at}
use Rattle.run_plain.specs.Opening.{Opening, solid_of, total_of, target_at, first_refusal, at_first, entry_of, case_of, start_of, Opens}
use Rattle.run_plain.specs.Plain.{Answer, Out, Seen, in_order, judged, first_stop, Run, plain_start, asked_of, updated, stops_of, onward, checks_of, after, answered, left_of, plain_from, plain_run}
use Rattle.run_plain.proofs.Runs.{given-kept}
use Rattle.run_bounds.specs.Bounds.{Within, none, kept, moved, WithinRun, opened}
use Rattle.run_bounds.proofs.Start.{start-range}

-- ---- the moves
-- from 0.001 to 1: 0.2, and a quarter of it at the last steepness
move-by : (t : Bool) (b : Steep) → Move (choose t (div binary64 (of_bits binary64 0x3fc9_9999_9999_999a) (sqrt_of binary64 (sharpness b))) (of_bits binary64 0x3fc9_9999_9999_999a))
unfolding choose div sqrt_of of_bits fits le
move-by false b = record { fit = tt; least = tt; most = tt }
move-by true s1 = record { fit = tt; least = tt; most = tt }
move-by true s2 = record { fit = tt; least = tt; most = tt }
move-by true s4 = record { fit = tt; least = tt; most = tt }
move-by true s8 = record { fit = tt; least = tt; most = tt }
move-by true s16 = record { fit = tt; least = tt; most = tt }

pub move-at : (c : Case) (b : Steep) → Move (move_at c b)
move-at c b = move-by c.sharpen b

-- "a design value moves by at most 0.2, or 0.05 at full sharpening"
pub move_unsharpened : (c : Case) (b : Steep) → c.sharpen ≡ false → move_at c b ≡ of_bits binary64 0x3fc9_9999_9999_999a
move_unsharpened c b e = choose-false c.sharpen _ _ e

full : div binary64 (of_bits binary64 0x3fc9_9999_9999_999a) (sqrt_of binary64 (sharpness s16)) ≡ of_bits binary64 0x3fa9_9999_9999_999a
unfolding div sqrt_of of_bits
full = refl

pub move-full : (c : Case) → c.sharpen ≡ true → move_at c s16 ≡ of_bits binary64 0x3fa9_9999_9999_999a
move-full c e = choose-true c.sharpen _ _ e ∙ full

-- ---- an answer
module _ (r : Run) (a : Answer) (all : AllRange r.design) where
  abbrev next : Run
  next = updated r a.energies

  keeps-bounds : Keeps (given_at (case_of r.given) r.steep r.design (asked_of r) a.energies)
  keeps-bounds = update-bounds (given_at (case_of r.given) r.steep r.design (asked_of r) a.energies) all (move-at (case_of r.given) r.steep)

  bound : UpdatedBy r.given.passive (move_at (case_of r.given) r.steep) r.design next.design
  unfolding update_at case_of
  bound = keeps-bounds.bounds

  range : AllRange next.design
  unfolding update_at
  range = keeps-bounds.range

  steep-is : (record_at (case_of r.given) r.steep r.design (asked_of r) a.energies (suc (length r.rows))).sharpness ≡ sharpness r.steep
  unfolding record_at
  steep-is = refl

  -- what is left after it, and what follows
  abbrev Then : Run → Out → Type 0
  Then q out = (more : List Seen) → (AllRange q.design → Within r.given (in_order q.rows) q.design more) → Within r.given (in_order r.rows) r.design (record { out = out; left = left_of q } ∷ more)

  then-onward : (v : Option Stop) → Then (onward next v).run (onward next v).out
  then-onward (Some why) more k = moved (record_at (case_of r.given) r.steep r.design (asked_of r) a.energies (suc (length r.rows))) r.steep steep-is bound (k range)
  then-onward None more k = moved (record_at (case_of r.given) r.steep r.design (asked_of r) a.energies (suc (length r.rows))) r.steep steep-is bound (k range)

  then-after : (v : Verdict) → Then (after r a v).run (after r a v).out
  then-after (Kept n) more k = kept (k all)
  then-after (Over n) more k = kept (k all)
  then-after Halts more k = kept (k all)
  then-after Begins more k = kept (k all)
  then-after Solves more k = then-onward (first_stop (stops_of next a)) more k

  then-answered : Then (answered r a).run (answered r a).out
  unfolding answered
  then-answered = then-after (judged r.part (checks_of r a))

-- ---- all answers
pub within-from : (r : Run) (late : List Answer) → AllRange r.design → Within r.given (in_order r.rows) r.design (plain_from r late)
unfolding plain_from
within-from r [] all = none
within-from r (a ∷ late) all =
    then-answered r a all (plain_from (answered r a).run late)
    (λ h. subst (λ (o : Opening). Within o (in_order (answered r a).run.rows) (answered r a).run.design (plain_from (answered r a).run late)) (given-kept r a) (within-from (answered r a).run late h))

start-all : (o : Opening) → first_refusal o ≡ 0 → AllRange (start_of o)
unfolding start_of start_design
start-all o e k h =
    let l : k < length o.passive = subst (λ (n : ℕ). k < n) (length-tabulate _ (length o.passive)) h in
    subst Range (sym (get_or-tabulate _ (length o.passive) k _ l)) (choose-either Range (get_or o.passive k false) one64 (start_density (solid_of o) (total_of o) (target_at o)) one-range (start-range o e))

not-refused : (o : Opening) (n : ℕ) → at_first o n ≡ Opens → n ≡ 0
not-refused o zero e = refl
not-refused o (suc n) e = absurd (let z : ◌≡◌ {A = ℕ} 0 1 = cc in omega arith)

-- of every opened run
pub within-run : (o : Opening) (late : List Answer) → entry_of o ≡ Opens → WithinRun o (plain_run o late)
unfolding plain_run
within-run o late e = rw e (opened (within-from (plain_start o) late (start-all o (first-none o e))))
  where
    first-none : (p : Opening) → entry_of p ≡ Opens → first_refusal p ≡ 0
    first-none p h = not-refused p (first_refusal p) (unfold entry_of in h)
