-- No level is above 1000: a clamped density times 1000 is at most 1000, since rounding keeps the order. Assumes nothing.
use mathlib.Core.Path.{◌≡◌, refl}
use Prim.Native.Nat.{ℕ, zero, suc, ◌+◌, ◌*◌, ◌^◌, ◌≤◌}
use native.Mathlib.Nat.{le_trans, le_of_eq}
use native.Mathlib.Omega.{arith}
use mathlib.Core.Bool.{Bool, true, false, cond}
use lib.Dec.{ltb, lit≤}
use borrow.Author.Tests.{ltb-false}
use lib.Ieee.{Float, nan, inf, fin, Format, binary64, up, down, low, emax, prec, odd, units, round, mul, lt, of_bits, of_int}
use lib.Ieee.Fits.{down_pos}
use lib.Ieee.Order.{round_mono}
use Rattle.lists.proofs.Bools.{never}
use Rattle.lists.specs.Lists.{choose, zero64}
use Rattle.ieee.specs.Basic.{one64, clamp_of, whole64}
use Rattle.ieee_whole.specs.Whole.{round_half_away}
use Rattle.ieee_whole.proofs.Round.{round-le}
use Rattle.topo.specs.Levels.{level_of}

-- a rounded value with a minus has the level 0
units-minus : (f : Format) (q k : ℕ) → round_half_away (units f true q k) ≡ 0
unfolding units odd round_half_away
units-minus f q k = go (ltb (q * 2 ^ k) (2 ^ (low f + suc (emax f)))) q
  where
    go : (t : Bool) (q : ℕ) → round_half_away (cond t (odd (suc (prec f)) true q k (low f)) (inf true)) ≡ 0
    go true zero = refl
    go true (suc q) = refl
    go false q = refl

round-minus : (f : Format) (a b : ℕ) → round_half_away (round f true a b) ≡ 0
unfolding round
round-minus f a b = units-minus f _ _

-- y from 0 to 1, or a not-a-number
most : (y : Float) → lt y zero64 ≡ false → lt one64 y ≡ false → round_half_away (mul binary64 y (whole64 1000)) ≤ 1000
unfolding lt of_bits mul of_int round_half_away
most nan a b = omega arith
most (inf true) a b = never refl a
most (inf false) a b = never refl b
most (fin true m e) a b = le_trans (le_of_eq (round-minus binary64 (m * up e * 1000) (down e * 1))) (omega arith)
most (fin false m e) a b =
    round-le (round binary64 false (m * up e * 1000) (down e * 1)) 1000 (lit≤ tt)
    (round_mono binary64 (m * up e * 1000) (down e * 1) 1000 1 (omega (arith, down_pos e)) (omega arith) (omega (arith, ltb-false (1 * down e) (m * up e * 1) b)))

pub level_most : (x : Float) → level_of x ≤ 1000
unfolding level_of clamp_of choose lt of_bits
level_most x = go (lt x zero64) (lt one64 x) refl refl
  where
    go : (s t : Bool) → lt x zero64 ≡ s → lt one64 x ≡ t → round_half_away (mul binary64 (choose s zero64 (choose t one64 x)) (whole64 1000)) ≤ 1000
    go true t a b = most zero64 refl refl
    go false true a b = most one64 refl refl
    go false false a b = most x a b
