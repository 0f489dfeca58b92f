-- What every plain run keeps to: rounds allowed, rounds at each steepness, passes, and 16 from round 81 on. By what each answer keeps. Assumes nothing.
use Rattle.topo.specs.declared.Stop.{Stop}
use Rattle.std.specs.Prelude.{Option, Some, None}
use mathlib.Core.Path.{◌≡◌, refl, sym, ap, ◌∙◌, subst}
use mathlib.Core.Bool.{Bool, true, false}
use mathlib.Core.List.{List, [], ◌∷◌}
use Prim.Native.Nat.{ℕ, suc, ◌+◌, ◌≤◌, ◌<◌}
use native.Mathlib.Omega.{arith}
use lib.ListN.{length}
use lib.Ieee.{Float}
use borrow.Author.Tests.{leb-false}
use Rattle.lists.specs.Lists.{choose}
use Rattle.topo.specs.declared.Iteration.{Iteration}
use Rattle.topo.specs.declared.Sharpening.{Sharpening}
use Rattle.topo.specs.declared.Sharpening.TheVariants.{Off, Early, Full}
use Rattle.topo.specs.Stages.{sharpens}
use Rattle.oc_record.specs.Record.{compliance_of}
use Rattle.run_plain.specs.declared.Verdict.{Verdict}
use Rattle.run_plain.specs.declared.Verdict.TheVariants.{Kept, Over, Halts, Begins, Solves}
use Rattle.run_plain.specs.Formulas.{Steep, s1, s2, s4, s8, s16, sharpness, record_at}
use Rattle.run_plain.specs.Opening.{Opening, case_of}
use Rattle.run_plain.specs.Plain.{Answer, Part, nothing, solid, round, Row, judged, first_stop, next, stage_of, same, sharpest, count_at, due_steep, Run, ended, plain_start, asked_of, asking, with_work, updated, stops_of, onward, checks_of, after, answered}
use Rattle.run_plain.specs.Runs.{full_steep}
use Rattle.run_plain.proofs.Formulas.{Ready, most-passes}
use Rattle.run_plain.proofs.Counts.{same_true, next-stage, Climbs, climbs-on, climbs-same, moved, Moved, top, moves, stays, row_of, count-other, GoesOn, goes_on}
use Rattle.run_plain.proofs.Verdicts.{Told-of, told}
use Rattle.run_plain.proofs.Full.{Staged, staged-more, staged-on, staged-steep}
use Rattle.run_plain.proofs.Whole.{count_none}

-- ---- what every run keeps to
-- at most 200 passes a round; where sharpened, a round with 80 before it is at 16; with full stages the steepness of its number
abbrev pub Sound : Sharpening → List Row → Type 0
Sound f [] = Unit {0}
Sound f (r ∷ rows) =
    (r.entry.passes ≤ 200) × (sharpens f ≡ true → 80 ≤ length rows → r.steep ≡ s16) × (r.entry.number ≡ suc (length rows)) × (r.entry.sharpness ≡ sharpness r.steep)
    × (f ≡ Full → r.steep ≡ full_steep (suc (length rows))) × Sound f rows

-- where a part is asked for, fewer than 20 rounds stand at a steepness below 16, and the part's number is the next
abbrev pub Here : Part → Run → Type 0
Here nothing r = Unit {0}
Here solid r = (r.rows ≡ []) × (sharpest r.given.goal.sharpen r.steep ≡ false → count_at r.steep r.rows < 20)
Here (round n) r = (n ≡ suc (length r.rows)) × (length r.rows < r.given.goal.max_iterations) × (sharpest r.given.goal.sharpen r.steep ≡ false → count_at r.steep r.rows < 20)

pub record Keeps (r : Run) : Type 0 where
  pub rounds : 0 < r.given.goal.max_iterations
  pub most : length r.rows ≤ r.given.goal.max_iterations
  pub climbs : Climbs r.steep r.rows
  pub below : (d : Steep) → sharpest r.given.goal.sharpen d ≡ false → count_at d r.rows ≤ 20
  pub sound : Sound r.given.goal.sharpen r.rows
  pub full : r.given.goal.sharpen ≡ Full → Staged r.steep r.rows
  pub here : Here r.part r

-- each record is at one of the five steepnesses
five-row : (b : Steep) (e : Iteration) (rows : List Row) → length rows ≡ count_at s1 rows + count_at s2 rows + count_at s4 rows + count_at s8 rows + count_at s16 rows
    → suc (length rows) ≡ count_at s1 (row_of b e ∷ rows) + count_at s2 (row_of b e ∷ rows) + count_at s4 (row_of b e ∷ rows) + count_at s8 (row_of b e ∷ rows) + count_at s16 (row_of b e ∷ rows)
unfolding count_at choose same
five-row s1 e rows h = omega arith
five-row s2 e rows h = omega arith
five-row s4 e rows h = omega arith
five-row s8 e rows h = omega arith
five-row s16 e rows h = omega arith

five : (rows : List Row) → length rows ≡ count_at s1 rows + count_at s2 rows + count_at s4 rows + count_at s8 rows + count_at s16 rows
five [] = rw (count_none s1, count_none s2, count_none s4, count_none s8, count_none s16)
five (r ∷ rows) = five-row r.steep r.entry rows (five rows)

-- with 80 rounds behind it a sharpened run is at 16
late : (b : Steep) (rows : List Row) → Climbs b rows → ((d : Steep) → same d s16 ≡ false → count_at d rows ≤ 20) → (same b s16 ≡ false → count_at b rows < 20) → 80 ≤ length rows → b ≡ s16
unfolding same
late s1 rows c l h n = absurd (omega (arith, five rows, c.later s2 (omega arith), c.later s4 (omega arith), c.later s8 (omega arith), c.later s16 (omega arith), h refl))
late s2 rows c l h n = absurd (omega (arith, five rows, l s1 refl, c.later s4 (omega arith), c.later s8 (omega arith), c.later s16 (omega arith), h refl))
late s4 rows c l h n = absurd (omega (arith, five rows, l s1 refl, l s2 refl, c.later s8 (omega arith), c.later s16 (omega arith), h refl))
late s8 rows c l h n = absurd (omega (arith, five rows, l s1 refl, l s2 refl, l s4 refl, c.later s16 (omega arith), h refl))
late s16 rows c l h n = refl

late-at : (f : Sharpening) (b : Steep) (rows : List Row) → Climbs b rows → ((d : Steep) → sharpest f d ≡ false → count_at d rows ≤ 20) → (sharpest f b ≡ false → count_at b rows < 20)
    → sharpens f ≡ true → 80 ≤ length rows → b ≡ s16
unfolding sharpest
late-at Off b rows c l h e n = absurd (let z : ◌≡◌ {A = ℕ} 0 1 = cc in omega arith)
late-at Early b rows c l h e n = late b rows c l h n
late-at Full b rows c l h e n = late b rows c l h n

-- ---- each answer keeps to it
keeps-ended : (r : Run) → Keeps r → Keeps (ended r)
keeps-ended r k = record { rounds = k.rounds; most = k.most; climbs = k.climbs; below = k.below; sound = k.sound; full = k.full; here = tt }

below_on : (f : Sharpening) (b d : Steep) (e : Iteration) (rows : List Row) → ((d : Steep) → sharpest f d ≡ false → count_at d rows ≤ 20) → (sharpest f b ≡ false → count_at b rows < 20) → sharpest f d ≡ false → count_at d (row_of b e ∷ rows) ≤ 20
unfolding count_at choose
below_on f b d e rows l h t = go (same d b) refl
  where
    go : (z : Bool) → same d b ≡ z → choose z (suc (count_at d rows)) (count_at d rows) ≤ 20
    go true z =
        let q : d ≡ b = same_true d b z in
        let t' : sharpest f b ≡ false = subst (λ (x : Steep). sharpest f x ≡ false) q t in
        subst (λ (x : Steep). suc (count_at x rows) ≤ 20) (sym q) (h t')
    go false z = l d t

-- fewer than 20 after a round, by how the steepness moved
fewer-on : (f : Sharpening) (b b' : Steep) (e : Iteration) (rows : List Row) → Climbs b rows → Moved f b (row_of b e ∷ rows) b' → sharpest f b' ≡ false → count_at b' (row_of b e ∷ rows) < 20
fewer-on f b b' e rows c (top t) h = absurd (let z : ◌≡◌ {A = ℕ} 0 1 = cc in omega arith)
fewer-on f b b' e rows c (moves t q) h =
    let n : stage_of (next b) ≡ suc (stage_of b) = next-stage f b t in
    let z : count_at (next b) (row_of b e ∷ rows) ≡ 0 = count-other (next b) b e rows (omega arith) ∙ c.later (next b) (omega arith) in
    omega arith
fewer-on f b b' e rows c (stays t q) h = leb-false _ _ q

abbrev pub record_of : Run → List Float → Iteration
record_of r energies = record_at (case_of r.given) r.steep r.design (asked_of r) energies (suc (length r.rows))

passes-few : (r : Run) (energies : List Float) → (record_of r energies).passes ≤ 200
unfolding record_at
passes-few r energies = most-passes _ _ _ _ _

number_is : (r : Run) (energies : List Float) → (record_of r energies).number ≡ suc (length r.rows)
unfolding record_at
number_is r energies = refl

sharpness-is : (r : Run) (energies : List Float) → (record_of r energies).sharpness ≡ sharpness r.steep
unfolding record_at
sharpness-is r energies = refl

pub full_at : (f : Sharpening) (b : Steep) (rows : List Row) → (f ≡ Full → Staged b rows) → (sharpest f b ≡ false → count_at b rows < 20) → f ≡ Full → b ≡ full_steep (suc (length rows))
full_at f b rows s h e = staged-steep b rows (s e) (subst (λ (x : Sharpening). sharpest x b ≡ false → count_at b rows < 20) e h)

full-on : (f : Sharpening) (b b' : Steep) (e : Iteration) (rows : List Row) → Climbs b rows → (f ≡ Full → Staged b rows) → ((d : Steep) → sharpest f d ≡ false → count_at d (row_of b e ∷ rows) ≤ 20)
    → Moved f b (row_of b e ∷ rows) b' → f ≡ Full → Staged b' (row_of b e ∷ rows)
full-on f b b' e rows c s l m h =
    staged-on b b' e rows c (s h) (subst (λ (x : Sharpening). sharpest x b ≡ false → count_at b (row_of b e ∷ rows) ≤ 20) h (l b)) (subst (λ (x : Sharpening). Moved x b (row_of b e ∷ rows) b') h m)

-- a round solved, before its stop is looked for
record Recorded (r : Run) (energies : List Float) : Type 0 where
  rounds : 0 < r.given.goal.max_iterations
  most : suc (length r.rows) ≤ r.given.goal.max_iterations
  below : (d : Steep) → sharpest r.given.goal.sharpen d ≡ false → count_at d (updated r energies).rows ≤ 20
  sound : Sound r.given.goal.sharpen (updated r energies).rows

recorded : (r : Run) (energies : List Float) (n : ℕ) → Keeps r → r.part ≡ round n → Recorded r energies
recorded r energies n k p =
    let h : (n ≡ suc (length r.rows)) × (length r.rows < r.given.goal.max_iterations) × (sharpest r.given.goal.sharpen r.steep ≡ false → count_at r.steep r.rows < 20) = subst (λ (x : Part). Here x r) p k.here in
    record {
      rounds = k.rounds;
      most = h.1;
      below = λ d t. below_on r.given.goal.sharpen r.steep d (record_of r energies) r.rows k.below h.2 t;
      sound = (passes-few r energies, late-at r.given.goal.sharpen r.steep r.rows k.climbs k.below h.2, number_is r energies, sharpness-is r energies, full_at r.given.goal.sharpen r.steep r.rows k.full h.2, k.sound);
    }

keeps-onward : (r : Run) (a : Answer) (n : ℕ) → Keeps r → r.part ≡ round n → (v : Option Stop) → first_stop (stops_of (updated r a.energies) a) ≡ v → Keeps (onward (updated r a.energies) v).run
keeps-onward r a n k p (Some why) e =
    let d : Recorded r a.energies = recorded r a.energies n k p in
    record { rounds = d.rounds; most = d.most; climbs = climbs-same r.steep (record_of r a.energies) r.rows k.climbs; below = d.below; sound = d.sound; full = λ h. staged-more r.steep (record_of r a.energies) r.rows (k.full h); here = tt }
keeps-onward r a n k p None e =
    let d : Recorded r a.energies = recorded r a.energies n k p in
    let f = r.given.goal.sharpen in
    let rows' = row_of r.steep (record_of r a.energies) ∷ r.rows in
    let m : Moved f r.steep rows' (due_steep f r.steep rows') = moved f r.steep rows' in
    let g : GoesOn (stops_of (updated r a.energies) a) = goes_on _ e in
    record {
      rounds = d.rounds;
      most = d.most;
      climbs = climbs-on f r.steep _ (record_of r a.energies) r.rows k.climbs m;
      below = d.below;
      sound = d.sound;
      full = full-on f r.steep _ (record_of r a.energies) r.rows k.climbs k.full d.below m;
      here = (refl, leb-false _ _ g.limit, fewer-on f r.steep _ (record_of r a.energies) r.rows k.climbs m);
    }

keeps-begun : (r : Run) (w : Float) → Keeps r → r.part ≡ solid → Keeps (asking (with_work r w) 1 r.steep).run
keeps-begun r w k p =
    let h : (r.rows ≡ []) × (sharpest r.given.goal.sharpen r.steep ≡ false → count_at r.steep r.rows < 20) = subst (λ (x : Part). Here x r) p k.here in
    let z : length r.rows ≡ 0 = ap length h.0 in
    let y : 0 < r.given.goal.max_iterations = k.rounds in
    record { rounds = k.rounds; most = k.most; climbs = k.climbs; below = k.below; sound = k.sound; full = k.full; here = (omega arith, omega arith, h.1) }

pub keeps-after : (r : Run) (a : Answer) → Keeps r → (v : Verdict) → Told-of v r.part (checks_of r a) → Keeps (after r a v).run
keeps-after r a k (Kept n) t = k
keeps-after r a k (Over n) t = keeps-ended r k
keeps-after r a k Halts t = keeps-ended r k
keeps-after r a k Begins t = keeps-begun r (compliance_of a.energies) k t.1
keeps-after r a k Solves t = keeps-onward r a t.1 k t.2 (first_stop (stops_of (updated r a.energies) a)) refl

pub keeps_on : (r : Run) (a : Answer) → Keeps r → Keeps (answered r a).run
unfolding answered
keeps_on r a k = keeps-after r a k (judged r.part (checks_of r a)) (told r.part (checks_of r a))

pub keeps-start : (o : Opening) → Ready o → Keeps (plain_start o)
keeps-start o y =
    record {
      rounds = y.rounds;
      most = omega arith;
      climbs = record { later = λ d h. count_none d };
      below = λ d t. subst (λ (n : ℕ). n ≤ 20) (sym (count_none d)) (omega arith);
      sound = tt;
      full = λ h. record { earlier = λ d t. absurd (omega (arith, t)); here = omega (arith, count_none s1) };
      here = (refl, λ t. subst (λ (n : ℕ). n < 20) (sym (count_none s1)) (omega arith));
    }
