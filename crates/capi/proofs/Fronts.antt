-- What is left in lent lists: by cases of the number, and of a list taken apart at n.
use mathlib.Core.Path.{◌≡◌, sym, ◌∙◌}
use mathlib.Core.List.{List, ◌++◌}
use Prim.Native.Nat.{ℕ, ◌<◌, ◌≤◌}
use native.Mathlib.Omega.{arith}
use lib.ListN.{length, take, drop}
use lib.Seq.{length-take-le}
use Rattle.lists.specs.Lists.{overlay}
use Rattle.lent.specs.Lent.{unless, left_by, WorkedBy}
use Rattle.lent.proofs.Lent.{unless-refused, unless-accepted, worked-front}

-- a call that is refused
pub refused_by : {A : Type 0} (number : ℕ) (a b c : A) → 0 < number → c ≡ b → c ≡ unless number a b
refused_by number a b c some e = e ∙ unless-refused number a b (λ z. omega (arith, z, some))

-- and one that is not
pub unless_taken : {A : Type 0} (number : ℕ) (a b c : A) → number ≡ 0 → c ≡ a → c ≡ unless number a b
unless_taken number a b c z e = e ∙ unless-accepted number a b z

module _ {A : Type 0} where
  -- a front part that is written
  pub written : (number n : ℕ) (new part l : List A) → number ≡ 0 → n ≤ length l → length part ≡ length (take n l) → part ≡ new → part ++ drop n l ≡ left_by number new l
  unfolding overlay
  written number n new part l z h e w =
      let same : part ++ drop n l ≡ overlay new l = rw (sym w, e, length-take-le n l h) in
      same ∙ unless-accepted number (overlay new l) l z

  -- or worked in
  pub worked : (number n : ℕ) (l part : List A) → number ≡ 0 → n ≤ length l → length part ≡ length (take n l) → WorkedBy number n l (part ++ drop n l)
  worked number n l part z h e = worked-front number n l part z h e
