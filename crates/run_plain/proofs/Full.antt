-- Full stages: the rounds fill the steepnesses below 16 one after the other, 20 each. By what each round adds. Assumes nothing.
use mathlib.Core.Path.{◌≡◌, refl, sym, ap, ◌∙◌, subst}
use mathlib.Core.Bool.{Bool, true, false}
use mathlib.Core.List.{List, ◌∷◌}
use Prim.Native.Nat.{ℕ, zero, suc, ◌+◌, ◌-◌, ◌*◌, ◌/◌, ◌≤◌, ◌<◌}
use native.Mathlib.Omega.{arith}
use lib.ListN.{length}
use lib.Dec.{leb}
use borrow.Author.Tests.{leb-true, leb-false, eqb-false, le-leb, lt-leb}
use Rattle.topo.specs.declared.Iteration.{Iteration}
use Rattle.topo.specs.declared.Sharpening.TheVariants.{Full}
use Rattle.run_plain.specs.Formulas.{Steep, s1, s2, s4, s8, s16}
use Rattle.run_plain.specs.Plain.{Row, next, stage_of, same, sharpest, count_at}
use Rattle.run_plain.specs.Calls.{steep_at}
use Rattle.run_plain.specs.Runs.{full_steep}
use Rattle.run_plain.proofs.Counts.{same_true, next-stage, Climbs, Moved, top, moves, stays, row_of, count-here, count-other}

-- 20 rounds at each steepness before b, the rest at b
pub record Staged (b : Steep) (rows : List Row) : Type 0 where
  pub earlier : (d : Steep) → stage_of d < stage_of b → count_at d rows ≡ 20
  pub here : count_at b rows + 20 * stage_of b ≡ length rows

pub staged-more : (b : Steep) (e : Iteration) (rows : List Row) → Staged b rows → Staged b (row_of b e ∷ rows)
staged-more b e rows s = record { earlier = λ d h. count-other d b e rows (omega arith) ∙ s.earlier d h; here = omega (arith, count-here b e rows, s.here) }

not_same : (a b : Steep) → same a b ≡ false → stage_of a ≡ stage_of b → ⊥
unfolding same
not_same a b e = eqb-false (stage_of a) (stage_of b) e

pub staged-on : (b b' : Steep) (e : Iteration) (rows : List Row) → Climbs b rows → Staged b rows → (sharpest Full b ≡ false → count_at b (row_of b e ∷ rows) ≤ 20)
    → Moved Full b (row_of b e ∷ rows) b' → Staged b' (row_of b e ∷ rows)
staged-on b b' e rows c s l (top t) = staged-more b e rows s
staged-on b b' e rows c s l (moves t f) =
    let n : stage_of (next b) ≡ suc (stage_of b) = next-stage Full b t in
    let z : count_at (next b) (row_of b e ∷ rows) ≡ 0 = count-other (next b) b e rows (omega arith) ∙ c.later (next b) (omega arith) in
    let k : count_at b (row_of b e ∷ rows) ≡ 20 = omega (arith, l t, leb-true 20 (count_at b (row_of b e ∷ rows)) (f refl)) in
    record { earlier = λ d h. go d (same d b) refl h k n; here = omega (arith, z, k, n, (staged-more b e rows s).here) }
  where
    go : (d : Steep) (u : Bool) → same d b ≡ u → stage_of d < stage_of (next b) → count_at b (row_of b e ∷ rows) ≡ 20 → stage_of (next b) ≡ suc (stage_of b) → count_at d (row_of b e ∷ rows) ≡ 20
    go d true u h k n = subst (λ (x : Steep). count_at x (row_of b e ∷ rows) ≡ 20) (sym (same_true d b u)) k
    go d false u h k n =
        let q : stage_of d ≡ stage_of b → ⊥ = not_same d b u in
        (staged-more b e rows s).earlier d (omega (arith, q))
staged-on b b' e rows c s l (stays t q) = staged-more b e rows s

-- ---- the steepness of a round
stage_is : (k n : ℕ) → 20 * k ≤ n → n < 20 * k + 20 → n / 20 ≡ k
stage_is k n a b = omega arith

at_last : (q : ℕ) → 4 ≤ q → s16 ≡ steep_at q
at_last zero h = absurd (omega arith)
at_last (suc zero) h = absurd (omega arith)
at_last (suc (suc zero)) h = absurd (omega arith)
at_last (suc (suc (suc zero))) h = absurd (omega arith)
at_last (suc (suc (suc (suc q)))) h = refl

pub staged-steep : (b : Steep) (rows : List Row) → Staged b rows → (sharpest Full b ≡ false → count_at b rows < 20) → b ≡ full_steep (suc (length rows))
unfolding full_steep sharpest same
staged-steep s1 rows s h = ap steep_at (sym (stage_is 0 (suc (length rows) - 1) (omega arith) (omega (arith, s.here, h refl))))
staged-steep s2 rows s h = ap steep_at (sym (stage_is 1 (suc (length rows) - 1) (omega (arith, s.here)) (omega (arith, s.here, h refl))))
staged-steep s4 rows s h = ap steep_at (sym (stage_is 2 (suc (length rows) - 1) (omega (arith, s.here)) (omega (arith, s.here, h refl))))
staged-steep s8 rows s h = ap steep_at (sym (stage_is 3 (suc (length rows) - 1) (omega (arith, s.here)) (omega (arith, s.here, h refl))))
staged-steep s16 rows s h = at_last ((suc (length rows) - 1) / 20) (omega (arith, s.here))

-- 16 from round 81 on
pub first-last : (n : ℕ) → same (full_steep n) s16 ≡ leb 81 n
unfolding full_steep same
first-last n = go ((n - 1) / 20) refl
  where
    go : (q : ℕ) → (n - 1) / 20 ≡ q → same (steep_at q) s16 ≡ leb 81 n
    go zero e = sym (lt-leb 81 n (omega arith))
    go (suc zero) e = sym (lt-leb 81 n (omega arith))
    go (suc (suc zero)) e = sym (lt-leb 81 n (omega arith))
    go (suc (suc (suc zero))) e = sym (lt-leb 81 n (omega arith))
    go (suc (suc (suc (suc q)))) e = sym (le-leb 81 n (omega arith))

-- ---- the counts
pub staged-passed : (c : Steep) (rows : List Row) → Climbs c rows → Staged c rows → (d b : Steep) → stage_of d < stage_of b → 0 < count_at b rows → count_at d rows ≡ 20
staged-passed c rows k s d b h n = s.earlier d (go (leb (stage_of b) (stage_of c)) refl)
  where
    go : (u : Bool) → leb (stage_of b) (stage_of c) ≡ u → stage_of d < stage_of c
    go true e = omega (arith, leb-true (stage_of b) (stage_of c) e)
    go false e = absurd (omega (arith, n, k.later b (leb-false (stage_of b) (stage_of c) e)))

-- once 80 stand
pub staged-exactly : (b : Steep) (rows : List Row) → Staged b rows → ((d : Steep) → sharpest Full d ≡ false → count_at d rows ≤ 20) → 80 ≤ length rows → (d : Steep) → same d s16 ≡ false → count_at d rows ≡ 20
unfolding sharpest same
staged-exactly s1 rows s l n d t = absurd (omega (arith, s.here, l s1 refl))
staged-exactly s2 rows s l n d t = absurd (omega (arith, s.here, l s2 refl))
staged-exactly s4 rows s l n d t = absurd (omega (arith, s.here, l s4 refl))
staged-exactly s8 rows s l n s8 t = omega (arith, s.here, l s8 refl)
staged-exactly s8 rows s l n s1 t = s.earlier s1 (omega arith)
staged-exactly s8 rows s l n s2 t = s.earlier s2 (omega arith)
staged-exactly s8 rows s l n s4 t = s.earlier s4 (omega arith)
staged-exactly s8 rows s l n s16 t = absurd (let z : ◌≡◌ {A = ℕ} 0 1 = cc in omega arith)
staged-exactly s16 rows s l n s1 t = s.earlier s1 (omega arith)
staged-exactly s16 rows s l n s2 t = s.earlier s2 (omega arith)
staged-exactly s16 rows s l n s4 t = s.earlier s4 (omega arith)
staged-exactly s16 rows s l n s8 t = s.earlier s8 (omega arith)
staged-exactly s16 rows s l n s16 t = absurd (let z : ◌≡◌ {A = ℕ} 0 1 = cc in omega arith)
