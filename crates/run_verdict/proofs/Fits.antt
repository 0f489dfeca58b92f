-- A verdict that goes on has sane checks, and that of a round a state that fits: by what the tests passed say. Assumes nothing.
use mathlib.Core.Path.{◌≡◌, refl, sym, ◌∙◌, subst}
use mathlib.Core.Bool.{Bool, true, false, ◌&&◌}
use Prim.Native.Nat.{ℕ, ◌<◌}
use native.Mathlib.Omega.{arith}
use lib.Dec.{leb, ltb}
use borrow.Author.Tests.{leb-true, ltb-true}
use Rattle.lists.specs.Lists.{choose}
use Rattle.lists.proofs.Laws.{both}
use Rattle.run_plain.specs.declared.Phase.{Phase}
use Rattle.run_plain.specs.declared.Phase.TheVariants.{Idle, Solid, Round}
use Rattle.run_plain.specs.declared.Verdict.{Verdict}
use Rattle.run_plain.specs.declared.Verdict.TheVariants.{Solves}
use Rattle.run_plain.specs.declared.State.{State}
use Rattle.run_plain.specs.Lent.{Sizes}
use Rattle.run_plain.specs.Plain.{Part, nothing, round, judged}
use Rattle.run_plain.specs.Calls.{Arguments, in_range, sound_in, sound, part_in, part_of, checks_at}
use Rattle.run_plain.proofs.Verdicts.{Told-of, told, SaneIf, sane_if}
use Rattle.run_course.specs.Fit.{Fit}

fit-counts : (s : State) → in_range s ≡ true → s.progress.rounds < s.setting.max_iterations → Fit s
unfolding in_range
fit-counts s e d =
    let p3 = both (leb s.progress.stage 4 && ltb s.progress.at_stage 20 && ltb s.progress.steady 5) _ e in
    let p2 = both (leb s.progress.stage 4 && ltb s.progress.at_stage 20) _ p3.0 in
    let p1 = both (leb s.progress.stage 4) _ p2.0 in
    record { stage = leb-true _ _ p1.0; turns = ltb-true _ _ p1.1; steady = ltb-true _ _ p2.1; elements = leb-true _ _ p3.1; rounds = d }

-- a part that is asked for tells that the test is passed
asks-true : (b : Bool) (q p : Part) → choose b q nothing ≡ p → (p ≡ nothing → ⊥) → (b ≡ true) × (q ≡ p)
unfolding choose
asks-true true q p e f = (refl, e)
asks-true false q p e f = absurd (f (sym e))

round-not : (n : ℕ) → round n ≡ nothing → ⊥
round-not n q = let z : ◌≡◌ {A = ℕ} 0 1 = cc in omega arith

fit-part : (s : State) (n : ℕ) → part_of s ≡ round n → Fit s
unfolding part_of sound
fit-part s n e =
    let a = asks-true (sound s) (part_in s.phase s) (round n) e (round-not n) in
    by s.phase a.0 a.1
  where
    by : (p : Phase) → sound_in p s ≡ true → part_in p s ≡ round n → Fit s
    by Idle b q = absurd (let z : ◌≡◌ {A = ℕ} 0 1 = cc in omega arith)
    by Solid b q = absurd (let z : ◌≡◌ {A = ℕ} 0 1 = cc in omega arith)
    by Round b q = let t = both (in_range s) _ b in fit-counts s t.0 (ltb-true _ _ t.1)

module _ (s : State) (a : Arguments) (k : Sizes) (v : Verdict) (e : v ≡ judged (part_of s) (checks_at s a k)) where
  said : (w : Verdict) → v ≡ w → Told-of w (part_of s) (checks_at s a k)
  said w p = subst (λ (x : Verdict). Told-of x (part_of s) (checks_at s a k)) (sym e ∙ p) (told (part_of s) (checks_at s a k))

  -- a verdict that goes on has sane checks, and that of a round a state that fits
  pub sane : (w : Verdict) → v ≡ w → SaneIf w (checks_at s a k)
  sane w p = subst (λ (x : Verdict). SaneIf x (checks_at s a k)) (sym e ∙ p) (sane_if (part_of s) (checks_at s a k))

  pub solves-fit : v ≡ Solves → Fit s
  solves-fit p = let t = said Solves p in fit-part s t.1 t.2
