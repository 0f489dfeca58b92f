-- How an update ends, by the tests that lead to it. Assumes nothing.
use mathlib.Core.Path.{◌≡◌, sym, ap, ◌∙◌}
use mathlib.Core.Bool.{true, false, not, ◌&&◌}
use Prim.Native.Nat.{ℕ}
use lib.Dec.{eqb}
use lib.Ieee.{Float, nan, binary64, sub, le, is_nan}
use borrow.Author.Tests.{eq-eqb, ne_eqb}
use Rattle.lists.specs.Lists.{choose}
use Rattle.lists.proofs.Laws.{choose-true, choose-false}
use Rattle.ieee.specs.Basic.{abs_of}
use Rattle.topo.specs.declared.Ending.{Ending}
use Rattle.topo.specs.declared.Ending.TheVariants.{Met, Cramped, Spent}
use Rattle.update_rates.specs.Ending.{met, spent, ending_of}

module _ (target tolerance low high kept off : Float) (passes : ℕ) (o : off ≡ abs_of (sub binary64 kept target)) where
  pub ended-met : le off tolerance ≡ true → Met kept ≡ ending_of target tolerance low high kept passes
  unfolding ending_of met
  ended-met h = sym (choose-true _ _ _ (ap (λ (v : Float). le v tolerance) (sym o) ∙ h))

  unmet : (e : Ending) → le off tolerance ≡ false → e ≡ choose (spent kept passes) (Spent kept) (Cramped low high) → e ≡ ending_of target tolerance low high kept passes
  unfolding ending_of met
  unmet e h s = s ∙ sym (choose-false _ _ _ (ap (λ (v : Float). le v tolerance) (sym o) ∙ h))

  pub ended_lost : le off tolerance ≡ false → kept ≡ nan → Cramped low high ≡ ending_of target tolerance low high kept passes
  unfolding spent is_nan
  ended_lost h e = unmet _ h (sym (choose-false (spent kept passes) _ _ (ap (λ (v : Float). not (is_nan v) && eqb passes 200) e)))

  pub ended-spent : le off tolerance ≡ false → is_nan kept ≡ false → passes ≡ 200 → Spent kept ≡ ending_of target tolerance low high kept passes
  unfolding spent
  ended-spent h n e = unmet _ h (sym (choose-true (spent kept passes) _ _ (rw (n, eq-eqb passes 200 e))))

  pub ended_cramped : le off tolerance ≡ false → is_nan kept ≡ false → (passes ≡ 200 → ⊥) → Cramped low high ≡ ending_of target tolerance low high kept passes
  unfolding spent
  ended_cramped h n e = unmet _ h (sym (choose-false (spent kept passes) _ _ (rw (n, ne_eqb passes 200 e))))
