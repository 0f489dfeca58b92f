-- A part at the front that is lent and given back: by the lengths of `take`, `drop` and `++`. Assumes nothing.
use mathlib.Core.Path.{◌≡◌, refl, sym, ap, ◌∙◌}
use mathlib.Core.List.{List, [], ◌∷◌, ◌++◌}
use Prim.Native.Nat.{ℕ, suc, ◌+◌, ◌≤◌}
use native.Mathlib.Numerals.{add-one}
use native.Mathlib.Omega.{arith}
use lib.ListN.{length, take, drop, length-append, length-drop}
use lib.Seq.{length-take-le}
use lib.Ieee.{Float}
use Rattle.lists.specs.Lists.{overlay}
use Rattle.lent.specs.Lent.{Free}

module _ {A : Type 0} where
  -- n places at the front are n places
  pub front : (n : ℕ) (l : List A) → n ≤ length l → n ≡ length (take n l)
  front n l h = sym (length-take-le n l h)

  -- what comes back for them, laid over
  pub laid : (n : ℕ) (ys new l : List A) → ys ≡ new → length ys ≡ length (take n l) → n ≤ length l → ys ++ drop n l ≡ overlay new l
  unfolding overlay
  laid n ys new l e h b = (λ i. e i ++ drop ((front n l b ∙ sym h ∙ ap length e) i) l)

  drop-front : (ys l : List A) → drop (length ys) (ys ++ l) ≡ l
  drop-front [] l = refl
  drop-front (y ∷ ys) l = drop-front ys l

  pub drop-laid : (n : ℕ) (ys l : List A) → length ys ≡ n → drop n (ys ++ drop n l) ≡ drop n l
  drop-laid n ys l h = (λ i. drop (sym h i) (ys ++ drop n l)) ∙ drop-front ys (drop n l)

-- of two lists as many places
pub as_long : {A B : Type 0} (n : ℕ) (l : List A) (m : List B) → n ≤ length l → n ≤ length m → length (take n l) ≡ length (take n m)
as_long n l m h k = sym (front n l h) ∙ front n m k

pub scratched : (n : ℕ) (ys l : List Float) → length ys ≡ length (take n l) → n ≤ length l → Free n l (ys ++ drop n l)
scratched n ys l h b =
    let e : length ys ≡ n = h ∙ sym (front n l b) in
    (length-append ys (drop n l) ∙ (λ i. e i + length-drop n l i) ∙ omega arith, drop-laid n ys l e)

-- one place more, as the code counts it
pub take-one : {A : Type 0} (n : ℕ) (l : List A) → take (n + 1) l ≡ take (suc n) l
take-one n l = ap (λ (k : ℕ). take k l) (add-one n)
