-- The counts that a state keeps are those that the plain run reads off its records: by cases on how a round moves the steepness. Assumes nothing.
use Rattle.std.specs.Prelude.{Option, Some, None}
use mathlib.Core.Path.{◌≡◌, refl, sym, ap, ◌∙◌}
use mathlib.Core.Bool.{Bool, true, false, ◌&&◌, ◌||◌}
use mathlib.Core.List.{List, ◌∷◌}
use Prim.Native.Nat.{ℕ, suc, ◌≤◌, ◌<◌}
use native.Mathlib.Omega.{arith}
use lib.Dec.{leb}
use lib.Ieee.{Float}
use borrow.Author.Tests.{leb-false, lt-ltb, eq-eqb, ne_eqb, eqb-true}
use Rattle.lists.specs.Lists.{choose}
use Rattle.topo.specs.declared.Iteration.{Iteration}
use Rattle.topo.specs.declared.Sharpening.{Sharpening}
use Rattle.topo.specs.declared.Sharpening.TheVariants.{Off, Early, Full}
use Rattle.topo.specs.declared.Stop.{Stop}
use Rattle.topo.specs.Stages.{early}
use Rattle.run_plain.specs.declared.State.{State}
use Rattle.run_plain.specs.Formulas.{Steep, s1, s2, s4, s8, s16, small}
use Rattle.run_plain.specs.Plain.{Row, next, stage_of, same, sharpest, count_at, level_with, steady_run, newest_change, due_steep, Stops, first_stop}
use Rattle.run_plain.specs.Calls.{steep_at, level_at, steady_at, due_at, stage_after, turns_after, onward_state}

-- ---- steepness
pub steep-stage : (b : Steep) → steep_at (stage_of b) ≡ b
steep-stage s1 = refl
steep-stage s2 = refl
steep-stage s4 = refl
steep-stage s8 = refl
steep-stage s16 = refl

pub stage-most : (b : Steep) → stage_of b ≤ 4
stage-most s1 = omega arith
stage-most s2 = omega arith
stage-most s4 = omega arith
stage-most s8 = omega arith
stage-most s16 = omega arith

pub same_self : (b : Steep) → same b b ≡ true
unfolding same
same_self b = eq-eqb (stage_of b) (stage_of b) refl

pub same_not : (a b : Steep) → (stage_of a ≡ stage_of b → ⊥) → same a b ≡ false
unfolding same
same_not a b h = ne_eqb (stage_of a) (stage_of b) h

-- below 16 the next is one stage on
pub next-stage : (sharpen : Sharpening) (b : Steep) → sharpest sharpen b ≡ false → stage_of (next b) ≡ suc (stage_of b)
unfolding sharpest same
next-stage sharpen s1 e = refl
next-stage sharpen s2 e = refl
next-stage sharpen s4 e = refl
next-stage sharpen s8 e = refl
next-stage Off s16 e = absurd (let z : ◌≡◌ {A = ℕ} 0 1 = cc in omega arith)
next-stage Early s16 e = absurd (let z : ◌≡◌ {A = ℕ} 0 1 = cc in omega arith)
next-stage Full s16 e = absurd (let z : ◌≡◌ {A = ℕ} 0 1 = cc in omega arith)

-- no round yet at a later steepness
pub record Climbs (b : Steep) (rows : List Row) : Type 0 where
  pub later : (d : Steep) → stage_of b < stage_of d → count_at d rows ≡ 0

abbrev pub row_of : Steep → Iteration → Row
row_of b e = record { steep = b; entry = e }

pub count-here : (b : Steep) (e : Iteration) (rows : List Row) → count_at b (row_of b e ∷ rows) ≡ suc (count_at b rows)
unfolding count_at choose
count-here b e rows = rw (same_self b)

pub count-other : (d b : Steep) (e : Iteration) (rows : List Row) → (stage_of d ≡ stage_of b → ⊥) → count_at d (row_of b e ∷ rows) ≡ count_at d rows
unfolding count_at choose
count-other d b e rows h = rw (same_not d b h)

-- how a round changes the steepness: 16 or unsharpened, moved on (by 20 rounds alone, unless a small change counts), or not due
pub data Moved (sharpen : Sharpening) (b : Steep) (rows : List Row) : Steep → Type 0 where
  top : sharpest sharpen b ≡ true → Moved sharpen b rows b
  moves : sharpest sharpen b ≡ false → (early sharpen ≡ false → leb 20 (count_at b rows) ≡ true) → Moved sharpen b rows (next b)
  stays : sharpest sharpen b ≡ false → leb 20 (count_at b rows) ≡ false → Moved sharpen b rows b

either-false : (a b : Bool) → (a || b) ≡ false → a ≡ false
either-false true b e = absurd (let z : ◌≡◌ {A = ℕ} 0 1 = cc in omega arith)
either-false false b e = refl

by_count : (a y c : Bool) → (a || (y && c)) ≡ true → y ≡ false → a ≡ true
by_count true y c e h = refl
by_count false true c e h = absurd (let z : ◌≡◌ {A = ℕ} 0 1 = cc in omega arith)
by_count false false c e h = e

pub moved : (sharpen : Sharpening) (b : Steep) (rows : List Row) → Moved sharpen b rows (due_steep sharpen b rows)
unfolding due_steep choose
moved sharpen b rows = go (sharpest sharpen b) refl (leb 20 (count_at b rows) || (early sharpen && newest_change rows)) refl
  where
    go : (t : Bool) → sharpest sharpen b ≡ t → (d : Bool) → (leb 20 (count_at b rows) || (early sharpen && newest_change rows)) ≡ d → Moved sharpen b rows (choose t b (choose d (next b) b))
    go true e d q = top e
    go false e true q = moves e (by_count _ _ _ q)
    go false e false q = stays e (either-false _ _ q)

pub climbs-on : (sharpen : Sharpening) (b b' : Steep) (e : Iteration) (rows : List Row) → Climbs b rows → Moved sharpen b (row_of b e ∷ rows) b' → Climbs b' (row_of b e ∷ rows)
climbs-on sharpen b b' e rows c (top t) = record { later = λ d h. count-other d b e rows (omega arith) ∙ c.later d h }
climbs-on sharpen b b' e rows c (moves t f) =
    let n : stage_of (next b) ≡ suc (stage_of b) = next-stage sharpen b t in
    record { later = λ d h. count-other d b e rows (omega arith) ∙ c.later d (omega arith) }
climbs-on sharpen b b' e rows c (stays t q) = record { later = λ d h. count-other d b e rows (omega arith) ∙ c.later d h }

-- ---- the counts
pub record Running (sharpen : Sharpening) (b : Steep) (rows : List Row) (s : State) : Type 0 where
  pub stage : s.progress.stage ≡ stage_of b
  pub turns : s.progress.at_stage ≡ choose (sharpest sharpen b) 0 (count_at b rows)
  pub few : s.progress.at_stage < 20
  pub steady : s.progress.steady ≡ steady_run sharpen rows
  pub calm : s.progress.steady < 5
  pub before : (w : Float) → level_at s w ≡ level_with rows w

pub steep-at : (s : State) (b : Steep) → s.progress.stage ≡ stage_of b → steep_at s.progress.stage ≡ b
steep-at s b e = rw e (steep-stage b)

-- the steady count of the state, with a record more, is that of the records
pub steady-on : (sharpen : Sharpening) (b : Steep) (e : Iteration) (rows : List Row) (s : State) → s.setting.sharpen ≡ sharpen → Running sharpen b rows s
    → steady_at s e.compliance ≡ steady_run sharpen (row_of b e ∷ rows)
unfolding steady_at steady_run
steady-on sharpen b e rows s h r = rw (r.before e.compliance, steep-at s b r.stage, r.steady, h)

-- ---- no stop applies
not-ends : (why : Stop) → Some why ≡ None → ⊥
not-ends why e = let z : ◌≡◌ {A = ℕ} 0 1 = cc in omega arith

choose-onward : (t : Bool) (why : Stop) (rest : Option Stop) → choose t (Some why) rest ≡ None → (t ≡ false) × (rest ≡ None)
unfolding choose
choose-onward true why rest e = absurd (not-ends why e)
choose-onward false why rest e = (refl, e)

pub record GoesOn (t : Stops) : Type 0 where
  pub settled : (t.sharp && t.small) ≡ false
  pub levelled : (t.sharp && t.levelled) ≡ false
  pub limit : t.limit ≡ false
  pub budget : t.budget ≡ false
  pub flag : t.flag ≡ false

pub goes_on : (t : Stops) → first_stop t ≡ None → GoesOn t
unfolding first_stop
goes_on t e =
    let p1 = choose-onward _ _ _ e in
    let p2 = choose-onward _ _ _ p1.1 in
    let p3 = choose-onward _ _ _ p2.1 in
    let p4 = choose-onward _ _ _ p3.1 in
    let p5 = choose-onward _ _ _ p4.1 in
    record { settled = p1.0; levelled = p2.0; limit = p3.0; budget = p4.0; flag = p5.0 }

-- below 5 where no stop applies
calm-on : (sharp lv : Bool) (n m : ℕ) → (sharp && leb 5 n) ≡ false → n ≡ choose (sharp && lv) m 0 → n < 5
unfolding choose
calm-on true lv n m g q = leb-false _ _ g
calm-on false lv n m g q = omega arith

-- ---- a round more
-- the stage and the turns after it, by how the steepness moved
pub record Counted (sharpen : Sharpening) (b' : Steep) (rows : List Row) (m n : ℕ) : Type 0 where
  pub stage : m ≡ stage_of b'
  pub turns : n ≡ choose (sharpest sharpen b') 0 (count_at b' rows)
  pub few : n < 20

onward : (sharpen : Sharpening) (b : Steep) (rows : List Row) (e : Iteration) (y : Bool) (stage turns : ℕ) → Climbs b rows → stage ≡ stage_of b → turns ≡ choose (sharpest sharpen b) 0 (count_at b rows)
    → (t d : Bool) → sharpest sharpen b ≡ t → (leb 20 (suc turns) || y) ≡ d
    → (d' : Bool) → (leb 20 (count_at b (row_of b e ∷ rows)) || y) ≡ d'
    → Counted sharpen (choose t b (choose d' (next b) b)) (row_of b e ∷ rows) (choose t stage (choose d (suc stage) stage)) (choose t 0 (choose d 0 (suc turns)))
unfolding choose
onward sharpen b rows e y stage turns c hs ht true d et ed d' ed' = record { stage = hs; turns = rw et; few = omega arith }
onward sharpen b rows e y stage turns c hs ht false true et ed true ed' =
    let n : stage_of (next b) ≡ suc (stage_of b) = next-stage sharpen b et in
    let z : count_at (next b) (row_of b e ∷ rows) ≡ 0 = count-other (next b) b e rows (omega arith) ∙ c.later (next b) (omega arith) in
    record { stage = omega arith; turns = none_of (sharpest sharpen (next b)) z; few = omega arith }
  where
    none_of : (t : Bool) → count_at (next b) (row_of b e ∷ rows) ≡ 0 → 0 ≡ choose t 0 (count_at (next b) (row_of b e ∷ rows))
    none_of true z = refl
    none_of false z = sym z
onward sharpen b rows e y stage turns c hs ht false false et ed false ed' =
    let f : turns ≡ count_at b rows = rw et at ht in
    let k : count_at b (row_of b e ∷ rows) ≡ suc (count_at b rows) = count-here b e rows in
    let m : suc turns < 20 = leb-false _ _ (either-false _ _ ed) in
    record { stage = hs; turns = rw et (omega arith); few = m }
onward sharpen b rows e y stage turns c hs ht false true et ed false ed' =
    let f : turns ≡ count_at b rows = rw et at ht in
    let k : count_at b (row_of b e ∷ rows) ≡ suc (count_at b rows) = count-here b e rows in
    absurd (let z : ◌≡◌ {A = ℕ} 0 1 = cc in omega arith)
onward sharpen b rows e y stage turns c hs ht false false et ed true ed' =
    let f : turns ≡ count_at b rows = rw et at ht in
    let k : count_at b (row_of b e ∷ rows) ≡ suc (count_at b rows) = count-here b e rows in
    absurd (let z : ◌≡◌ {A = ℕ} 0 1 = cc in omega arith)

pub onward-at : (sharpen : Sharpening) (b : Steep) (rows : List Row) (e : Iteration) (s : State) → s.setting.sharpen ≡ sharpen → Climbs b rows → Running sharpen b rows s
    → Counted sharpen (due_steep sharpen b (row_of b e ∷ rows)) (row_of b e ∷ rows) (stage_after s e) (turns_after s e)
unfolding stage_after turns_after due_at due_steep
onward-at sharpen b rows e s h c r =
    rw (steep-at s b r.stage, h) (onward sharpen b rows e (early sharpen && small e.change) s.progress.stage s.progress.at_stage c r.stage r.turns (sharpest sharpen b) _ refl refl _ refl)

-- the counts of a state after a round that does not stop
pub running-on : (sharpen : Sharpening) (b : Steep) (rows : List Row) (e : Iteration) (s : State) → s.setting.sharpen ≡ sharpen → Climbs b rows → Running sharpen b rows s
    → (sharpest sharpen b && leb 5 (steady_at s e.compliance)) ≡ false
    → Running sharpen (due_steep sharpen b (row_of b e ∷ rows)) (row_of b e ∷ rows) (onward_state s e)
unfolding level_at level_with choose steady_run
running-on sharpen b rows e s h c r g =
    let o = onward-at sharpen b rows e s h c r in
    let q : steady_at s e.compliance ≡ steady_run sharpen (row_of b e ∷ rows) = steady-on sharpen b e rows s h r in
    record {
      stage = o.stage;
      turns = o.turns;
      few = o.few;
      steady = q;
      calm = calm-on (sharpest sharpen b) (level_with rows e.compliance) (steady_at s e.compliance) (suc (steady_run sharpen rows)) g q;
      before = λ w. rw (lt-ltb 0 (suc s.progress.rounds) (omega arith));
    }

pub climbs-same : (b : Steep) (e : Iteration) (rows : List Row) → Climbs b rows → Climbs b (row_of b e ∷ rows)
climbs-same b e rows c = record { later = λ d h. count-other d b e rows (omega arith) ∙ c.later d h }

pub same_true : (a b : Steep) → same a b ≡ true → a ≡ b
unfolding same
same_true a b e = sym (steep-stage a) ∙ ap steep_at (eqb-true (stage_of a) (stage_of b) e) ∙ steep-stage b
