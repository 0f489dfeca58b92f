-- A list of Bools in which one more job is marked. Assumes nothing.
use mathlib.Core.Path.{◌≡◌, refl, sym, ◌∙◌}
use mathlib.Core.Bool.{Bool, true, false, ◌||◌}
use mathlib.Core.Logic.{⊎_elim}
use Prim.Native.Nat.{ℕ, ◌≤◌, ◌<◌}
use native.Mathlib.Omega.{arith}
use lib.Dec.{eqb}
use lib.ListN.{get_or, set, length-set}
use lib.Seq.{ext_get_or, get_or-set_same, get_or-set_other}
use borrow.Author.Tests.{eq-eqb, ne_eqb}
use Rattle.lists.specs.Lists.{tabulate}
use Rattle.lists.proofs.Laws.{length-tabulate, get_or-tabulate, tabulate-same}
use Rattle.lists.proofs.Bools.{eq-or_ne, or-true, or-false}

module _ (f g : ℕ → Bool) (job n : ℕ) (more : (j : ℕ) → (f j || eqb job j) ≡ g j) where
  pub marked_more : job < n → set (tabulate f n) job true ≡ tabulate g n
  marked_more h =
      ext_get_or false (set (tabulate f n) job true) (tabulate g n) (length-set (tabulate f n) job true ∙ length-tabulate f n ∙ sym (length-tabulate g n))
      (λ j a. at j (omega (arith, length-set (tabulate f n) job true, length-tabulate f n)))
    where
      at : (j : ℕ) → j < n → get_or (set (tabulate f n) job true) j false ≡ get_or (tabulate g n) j false
      at j a =
          ⊎_elim
          (λ (p : j ≡ job). rw p (get_or-set_same (tabulate f n) job true false (omega (arith, length-tabulate f n)) ∙ sym (get_or-tabulate g n job false h ∙ sym (more job) ∙ rw (eq-eqb job job refl) (or-true (f job)))))
          (λ (p : j ≡ job → ⊥). get_or-set_other (tabulate f n) job j true false p ∙ get_or-tabulate f n j false a ∙ sym (get_or-tabulate g n j false a ∙ sym (more j) ∙ rw (ne_eqb job j (λ (q : job ≡ j). p (sym q))) (or-false (f j))))
          (eq-or_ne j job)

  pub marked-past : n ≤ job → tabulate f n ≡ tabulate g n
  marked-past h = tabulate-same f g n (λ j a. sym (sym (more j) ∙ rw (ne_eqb job j (λ (q : job ≡ j). omega arith)) (or-false (f j))))
