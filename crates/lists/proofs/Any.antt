-- Whether an element passes a test, by index. Assumes nothing.
use Rattle.std.proofs.Common.{◌≡◌, ℕ, zero, suc, ◌≤◌, Bool, ◌||◌, List, length, get_or, take, refl, sym, ap, ◌∙◌, add-one, arith}
use Rattle.std.specs.List.{list_any}
use Rattle.std.proofs.lemmas.List.Folds.{list_any_more}
use Rattle.std.proofs.Math.Seq.{take-length}
use Rattle.lists.specs.Lists.{any_to}

module _ {X : Type 0} (p : X → Bool) (xs : List X) (d : X) where
  first : (n : ℕ) → n ≤ length xs → list_any p (take n xs) ≡ any_to (λ k. p (get_or xs k d)) n
  unfolding any_to
  first zero h = refl
  first (suc n) h =
      let more : list_any p (take (suc n) xs) ≡ (list_any p (take n xs) || p (get_or xs n d)) = rw (← add-one) (list_any_more p xs n d (omega arith)) in
      more ∙ ap (λ (b : Bool). b || p (get_or xs n d)) (first n (omega arith))

  pub any_of : (n : ℕ) → length xs ≡ n → list_any p xs ≡ any_to (λ k. p (get_or xs k d)) n
  any_of n e = ap (list_any p) (sym (take-length xs)) ∙ first (length xs) (omega arith) ∙ ap (any_to (λ k. p (get_or xs k d))) e
