-- Two halves of a list, each changed where it lies. Assumes nothing.
use mathlib.Core.Path.{◌≡◌, ap, ◌∙◌}
use mathlib.Core.List.{List, ◌++◌, append-nil}
use Prim.Native.Nat.{ℕ, ◌-◌, ◌≤◌}
use native.Mathlib.Omega.{arith}
use lib.ListN.{length, take, drop, length-drop, drop_of_length-le}
use lib.Seq.{length-take-le, take_at, drop_at, take_all, length_front}

-- the list l, whose first h places were lent and came back as s
pub record Lent {A : Type 0} (l s : List A) (h : ℕ) : Type 0 where
  pub within : h ≤ length l
  pub same : length s ≡ length (take h l)

module _ {A : Type 0} {l s : List A} {h : ℕ} (lent : Lent l s h) where
  pub front_length : length s ≡ h
  front_length = lent.same ∙ length-take-le h l lent.within

  abbrev pub whole : List A
  whole = s ++ drop h l

  left : length whole - h ≡ length l - h
  left = ap (λ (k : ℕ). k - h) (length_front l s h lent.same)

  -- the upper half, as it is lent
  pub back_is : take (length whole - h) (drop h whole) ≡ drop h l
  back_is = ap (take (length whole - h)) (drop_at s (drop h l) h front_length) ∙ take_all (length whole - h) (drop h l) (omega (arith, left, length-drop h l))

  pub back-length : length (take (length whole - h) (drop h whole)) ≡ length l - h
  back-length = ap length back_is ∙ length-drop h l

  -- the list once the upper half came back as t
  pub two_is : (t : List A) → take h whole ++ (t ++ drop (length whole - h) (drop h whole)) ≡ s ++ t
  two_is t =
      let past = ap (drop (length whole - h)) (drop_at s (drop h l) h front_length) ∙ drop_of_length-le (drop h l) {i = length whole - h} (omega (arith, left, length-drop h l)) in
      let front = take_at s (drop h l) h front_length in
      (λ i. front i ++ (t ++ past i)) ∙ ap (λ (x : List A). s ++ x) (append-nil t)
