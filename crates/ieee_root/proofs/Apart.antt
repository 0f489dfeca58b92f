-- What `sqrt` answers before it asks the library. Assumes nothing.
use mathlib.Core.Path.{◌≡◌, refl, sym, ap, ◌∙◌}
use Prim.Native.Nat.{ℕ, zero, suc, ◌*◌}
use native.Mathlib.Omega.{arith}
use mathlib.Core.Bool.{true, false, true≢false}
use lib.Dec.{ltb→lt}
use lib.Ieee.{Float, nan, inf, fin, binary64, up, down, lt, of_bits}
use Rattle.ieee.proofs.Basic.{holds}
use Rattle.ieee_root.specs.Sqrt.{sqrt_of}

-- a number below zero has none
pub below_zero : (x : Float) → lt x (of_bits binary64 0) ≡ true → nan ≡ sqrt_of binary64 x
unfolding lt sqrt_of of_bits
below_zero nan h = refl
below_zero (inf true) h = refl
below_zero (inf false) h = absurd (true≢false (sym h))
below_zero (fin true zero e) h = absurd (omega (arith, ltb→lt _ _ (holds _ h)))
below_zero (fin true (suc m) e) h = refl
below_zero (fin false m e) h = absurd (omega (arith, ltb→lt (m * up e * 1) (0 * down e) (holds _ h)))

-- a not-a-number is its own
pub of_nan : (x : Float) → x ≡ nan → x ≡ sqrt_of binary64 x
unfolding sqrt_of
of_nan x e = e ∙ sym (ap (sqrt_of binary64) e)
