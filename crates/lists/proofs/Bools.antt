-- Laws of Bools and of tests of numbers, whatever is tested. Assumes nothing.
use mathlib.Core.Path.{◌≡◌, refl}
use mathlib.Core.Bool.{Bool, true, false, ◌||◌, ◌&&◌}
use mathlib.Core.Logic.{◌⊎◌, inl, inr}
use Prim.Native.Nat.{ℕ, ◌≤◌, ◌<◌}
use native.Mathlib.Omega.{arith}
use lib.Dec.{leb, eqb}
use borrow.Author.Tests.{leb-true, leb-false, eqb-true, eqb-false}

-- no test comes out both ways
pub never : {X : Type 0} {b : Bool} → b ≡ true → b ≡ false → X
never p q = absurd (let z : ◌≡◌ {A = ℕ} 0 1 = cc in omega arith)

-- ---- or
pub or-true : (a : Bool) → (a || true) ≡ true
or-true true = refl
or-true false = refl

pub or-false : (a : Bool) → (a || false) ≡ a
or-false true = refl
or-false false = refl

pub or_left : (a b : Bool) → a ≡ true → (a || b) ≡ true
or_left a b e = rw e

pub or_right : (a b : Bool) → b ≡ true → (a || b) ≡ true
or_right a b e = rw e (or-true a)

-- ---- and
pub and-true : (a b : Bool) → a ≡ true → b ≡ true → (a && b) ≡ true
and-true a b e h = rw (e, h)

pub and-left-false : (a b : Bool) → a ≡ false → (a && b) ≡ false
and-left-false a b e = rw e

pub and-right-false : (a b : Bool) → b ≡ false → (a && b) ≡ false
and-right-false true b e = e
and-right-false false b e = refl

-- ---- numbers
pub at-most-zero : (n : ℕ) → n ≤ 0 → n ≡ 0
at-most-zero n h = omega arith

pub eq-or_ne : (a b : ℕ) → (a ≡ b) ⊎ (a ≡ b → ⊥)
eq-or_ne a b = go (eqb a b) refl
  where
    go : (t : Bool) → eqb a b ≡ t → (a ≡ b) ⊎ (a ≡ b → ⊥)
    go true e = inl (eqb-true a b e)
    go false e = inr (eqb-false a b e)

pub le-or-lt : (a b : ℕ) → (a ≤ b) ⊎ (b < a)
le-or-lt a b = go (leb a b) refl
  where
    go : (t : Bool) → leb a b ≡ t → (a ≤ b) ⊎ (b < a)
    go true e = inl (leb-true a b e)
    go false e = inr (leb-false a b e)
