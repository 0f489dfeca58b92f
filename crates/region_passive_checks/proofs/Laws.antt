-- A law of tests. Assumes nothing.
use mathlib.Core.Path.{◌≡◌, refl}
use mathlib.Core.Bool.{Bool, true, false}
use Prim.Native.Nat.{ℕ, ◌+◌}
use native.Mathlib.Omega.{arith}
use lib.Dec.{leb, ltb}
use borrow.Author.Tests.{ltb-false, ltb-true, lt-leb, le-leb}

-- at most, as below one more
pub leb_ltb : (a b : ℕ) → leb a b ≡ ltb a (b + 1)
leb_ltb a b = go (ltb a (b + 1)) refl
  where
    go : (t : Bool) → ltb a (b + 1) ≡ t → leb a b ≡ t
    go true e = le-leb a b (omega (arith, ltb-true a (b + 1) e))
    go false e = lt-leb a b (omega (arith, ltb-false a (b + 1) e))
