-- Bit patterns of every float: a pattern read back gives the float, and a float written gives its pattern, every NaN the one of 7FF8000000000000. Assumes nothing.
use Prim.Native.Nat.{ℕ, ◌%◌, ◌^◌, ◌≤◌, ◌<◌}
use mathlib.Core.Path.{◌≡◌, refl, sym, ap, ◌∙◌, subst}
use mathlib.Core.Bool.{Bool, true, false, not, cond}
use lib.Dec.{T}
use lib.Ieee.{Float, nan, inf, fin, is_nan, fits, binary64, of_bits, nan_bits, to_bits}
use lib.Ieee.Bits.{of_bits-to_bits, to_bits-of_bits, nan_bits_is, nan_bits_above}
use borrow.Author.Tests.{lt-ltb, le-ltb}
use Rattle.lists.proofs.Bools.{never}

pub nan_of : (x : Float) → is_nan x ≡ true → x ≡ nan
unfolding is_nan
nan_of nan h = refl
nan_of (inf s) h = never h refl
nan_of (fin s m e) h = never h refl

-- a pattern above the infinity's, the sign's bit taken off, is a NaN's
pub above-nan : (b : ℕ) → 0x7ff0_0000_0000_0000 < b % 2 ^ 63 → of_bits binary64 b ≡ nan
above-nan b h = nan_of (of_bits binary64 b) (sym (nan_bits_is binary64 b) ∙ nan_bits_above binary64 b ∙ lt-ltb 0x7ff0_0000_0000_0000 (b % 2 ^ 63) h)

pub below_nan : (b : ℕ) → b % 2 ^ 63 ≤ 0x7ff0_0000_0000_0000 → nan_bits binary64 b ≡ false
below_nan b h = nan_bits_above binary64 b ∙ le-ltb 0x7ff0_0000_0000_0000 (b % 2 ^ 63) h

-- from_bits of to_bits is the value
pub read-written : (x : Float) → T (fits binary64 x) → of_bits binary64 (to_bits binary64 x) ≡ x
read-written x t = of_bits-to_bits binary64 x t

-- to_bits of from_bits is the pattern, unless it is a NaN's
pub written_read : (b : ℕ) → b < 2 ^ 64 → to_bits binary64 (of_bits binary64 b) ≡ cond (nan_bits binary64 b) 0x7ff8_0000_0000_0000 b
written_read b h = go (nan_bits binary64 b) refl
  where
    go : (t : Bool) → nan_bits binary64 b ≡ t → to_bits binary64 (of_bits binary64 b) ≡ cond t 0x7ff8_0000_0000_0000 b
    go true e = ap (to_bits binary64) (nan_of (of_bits binary64 b) (sym (nan_bits_is binary64 b) ∙ e)) ∙ unfold to_bits in refl
    go false e = to_bits-of_bits binary64 b h (subst (λ (t : Bool). T (not t)) (sym e ∙ nan_bits_is binary64 b) tt)
