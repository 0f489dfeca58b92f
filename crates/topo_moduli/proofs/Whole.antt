-- A test that is computed once over a whole list holds at each of its places. Assumes nothing.
use mathlib.Core.Bool.{Bool, true, ◌&&◌}
use mathlib.Core.List.{List, [], ◌∷◌}
use Prim.Native.Nat.{ℕ, zero, suc, ◌+◌, ◌<◌}
use native.Mathlib.Nat.{add-zero, zero-add, add-suc, suc-add, le_of_suc-le-suc, not-suc-le-zero}
use mathlib.Core.Path.{◌∙◌, subst, sym}
use lib.Dec.{T}
use lib.Ieee.Fits.{and_l, and_r}
use lib.ListN.{length, get_or}

module _ {A : Type 0} (test : ℕ → A → Bool) where
  -- the test at each entry and its place, counted from i
  abbrev pub every : ℕ → List A → Bool
  every i [] = true
  every i (x ∷ xs) = test i x && every (suc i) xs

  from : (xs : List A) (d : A) (i : ℕ) → T (every i xs) → (k : ℕ) → k < length xs → T (test (i + k) (get_or xs k d))
  from [] d i t k h = absurd (not-suc-le-zero h)
  from (x ∷ xs) d i t zero h = subst (λ (m : ℕ). T (test m x)) (sym (add-zero i)) (and_l (test i x) (every (suc i) xs) t)
  from (x ∷ xs) d i t (suc k) h = subst (λ (m : ℕ). T (test m (get_or xs k d))) (suc-add i k ∙ sym (add-suc i k)) (from xs d (suc i) (and_r (test i x) (every (suc i) xs) t) k (le_of_suc-le-suc h))

  pub at : (xs : List A) (d : A) → T (every 0 xs) → (k : ℕ) → k < length xs → T (test k (get_or xs k d))
  at xs d t k h = subst (λ (m : ℕ). T (test m (get_or xs k d))) (zero-add k) (from xs d 0 t k h)
