-- What is left in lent lists: by cases of the number, and of a list taken apart at n. That lists are long enough. Assumes nothing.
use mathlib.Core.Path.{◌≡◌, refl, ◌∙◌}
use mathlib.Core.Bool.{false}
use mathlib.Core.List.{List, ◌∷◌, ◌++◌}
use Prim.Native.Nat.{ℕ, zero, suc, ◌≤◌}
use native.Mathlib.Omega.{arith}
use lib.ListN.{length, take, drop}
use borrow.Author.Tests.{ltb-false}
use lib.Seq.{length_front, length-take-le, drop_at}
use Rattle.lists.proofs.Laws.{neither}
use Rattle.lent.specs.Lent.{Free, unless, WorkedBy, short}

pub unless-refused : {A : Type 0} (number : ℕ) (a b : A) → (number ≡ 0 → ⊥) → b ≡ unless number a b
unfolding unless
unless-refused zero a b e = absurd (e refl)
unless-refused (suc k) a b e = refl

pub unless-accepted : {A : Type 0} (number : ℕ) (a b : A) → number ≡ 0 → a ≡ unless number a b
unfolding unless
unless-accepted number a b z = rw z

module _ {A : Type 0} where
  -- a list that nothing is done to
  pub worked_same : (number n : ℕ) (l : List A) → WorkedBy number n l l
  unfolding WorkedBy
  worked_same zero n l = (refl, refl)
  worked_same (suc k) n l = refl

  pub worked-free : (number n : ℕ) (l l' : List A) → number ≡ 0 → Free n l l' → WorkedBy number n l l'
  unfolding WorkedBy
  worked-free zero n l l' e free = free
  worked-free (suc k) n l l' e free = absurd (omega arith)

  -- one whose front part is worked in
  pub worked-front : (number n : ℕ) (l s : List A) → number ≡ 0 → n ≤ length l → length s ≡ length (take n l) → WorkedBy number n l (s ++ drop n l)
  worked-front number n l s e le len = worked-free number n l (s ++ drop n l) e (length_front l s n len, drop_at s (drop n l) n (len ∙ length-take-le n l le))

-- ---- lengths that suffice
pub not_short : (k n : ℕ) (lengths needed : List ℕ) → short (k ∷ lengths) (n ∷ needed) ≡ false → (n ≤ k) × (short lengths needed ≡ false)
unfolding short
not_short k n lengths needed e = let p = neither _ _ e in (ltb-false _ _ p.0, p.1)
