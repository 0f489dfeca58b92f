-- Whether a number is in a part of a list, by index. Assumes nothing.
use Rattle.std.proofs.Common.{◌≡◌, ℕ, zero, suc, ◌+◌, ◌-◌, ◌≤◌, ◌<◌, min, Bool, ◌||◌, List, length, get_or, take, drop, refl, ap, ◌∙◌, add-one, arith}
use Rattle.std.specs.List.{list_any}
use Rattle.std.proofs.lemmas.List.Folds.{list_any_more}
use lib.Seq.{get_or-drop}
use lib.ListN.{length-drop}
use Rattle.lists.specs.Lists.{any_to}

any-same : (p q : ℕ → Bool) (n : ℕ) → ((k : ℕ) → k < n → p k ≡ q k) → any_to p n ≡ any_to q n
unfolding any_to
any-same p q zero h = refl
any-same p q (suc n) h = λ i. any-same p q n (λ k lt. h k (omega arith)) i || h n (omega arith) i

module _ (p : ℕ → Bool) where
  first : (xs : List ℕ) (n : ℕ) → n ≤ length xs → list_any p (take n xs) ≡ any_to (λ k. p (get_or xs k 0)) n
  unfolding any_to
  first xs zero h = refl
  first xs (suc n) h =
      let more : list_any p (take (suc n) xs) ≡ (list_any p (take n xs) || p (get_or xs n 0)) = rw (← add-one) (list_any_more p xs n 0 (omega arith)) in
      more ∙ ap (λ (b : Bool). b || p (get_or xs n 0)) (first xs n (omega arith))

  -- in the places from start up to end, as far as there are
  pub any-between : (xs : List ℕ) (start end e f : ℕ) → e ≡ min end (length xs) → f ≡ min start e
      → list_any p (take (e - f) (drop f xs)) ≡ any_to (λ k. p (get_or xs (start + k) 0)) (min end (length xs) - start)
  any-between xs start end e f is-e is_f =
      let count : e - f ≡ min end (length xs) - start = omega (arith, is-e, is_f) in
      first (drop f xs) (e - f) (omega (arith, is-e, is_f, length-drop f xs))
      ∙ any-same (λ k. p (get_or (drop f xs) k 0)) (λ k. p (get_or xs (start + k) 0)) (e - f) (λ k lt.
      let place : f + k ≡ start + k = omega (arith, is-e, is_f, lt) in
      ap p (get_or-drop f xs k 0 ∙ ap (λ (i : ℕ). get_or xs i 0) place))
      ∙ ap (any_to (λ k. p (get_or xs (start + k) 0))) count
