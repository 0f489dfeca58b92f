-- The key of totalOrder goes as `precedes` does. The pattern of a magnitude grows with it, since the digits kept of a longer one begin with a 1; a minus turns patterns round.
-- Assumes nothing.
use Prim.Native.Nat.{ℕ, zero, suc, ◌+◌, ◌-◌, ◌*◌, ◌/◌, ◌%◌, ◌^◌, ◌≤◌, ◌<◌}
use mathlib.Core.Path.{◌≡◌, refl, sym, ap, ◌∙◌, subst}
use mathlib.Core.Logic.{⊎_elim, ◌↔◌}
use mathlib.Core.Bool.{Bool, true, false, cond, ◌&&◌, ◌||◌}
use native.Mathlib.Nat.{le-div_iff_mul-le, mul_right_comm, mul-le-mul_right, eq-or-lt_of_le, lt_of_le_of_lt, le_of_lt}
use native.Mathlib.Omega.{arith}
use lib.IntN.{ℤ}
use lib.Pow.{pow_pos, pow-add}
use lib.Dec.{T, ltb, eqb, ltb→lt, lt→ltb}
use lib.Ieee.{Float, nan, inf, fin, up, down, lt, eq, neg, is_nan, fits, binary64, size, to_bits, of_bits}
use lib.Ieee.Fits.{down_pos, kept-lt, inf-fits, neg-fits}
use lib.Ieee.Digits.{size-lt, size-le, size_reaches}
use lib.Ieee.Nearest.{div_mono}
use lib.Ieee.Bits.{of_bits-to_bits, to_bits-lt, nan_bits_is, nan_bits_above}
use borrow.Author.Tests.{ltb-true, ltb-false, lt-ltb, le-ltb}
use Rattle.lists.proofs.Bools.{or-true}
use Rattle.ieee_bits.specs.Bits.{precedes, total_key}

-- ---- magnitudes

-- the pattern of a magnitude of n of the smallest values
pattern : ℕ → ℕ
pattern n = (size n - 53) * 4503599627370496 + n / 2 ^ (size n - 53)

size_mono : (n m : ℕ) → n ≤ m → size n ≤ size m
size_mono n m h = size-le n (size m) (lt_of_le_of_lt h (size-lt m))

lead : (m : ℕ) → 0 < size m - 53 → 4503599627370496 ≤ m / 2 ^ (size m - 53)
lead m h =
    (le-div_iff_mul-le {k = 2 ^ (size m - 53)} {x = 4503599627370496} {y = m} (pow_pos (size m - 53))).1
    (subst (λ (j : ℕ). j ≤ m) (pow-add 2 52 (size m - 53)) (size_reaches m (52 + (size m - 53)) (omega arith)))

pattern_mono : (n m : ℕ) → n ≤ m → pattern n ≤ pattern m
unfolding pattern
pattern_mono n m h =
    let s : size n ≤ size m = size_mono n m h in
    ⊎_elim
    (λ (e : size n - 53 ≡ size m - 53). rw e (omega (arith, div_mono n (2 ^ (size m - 53)) m (2 ^ (size m - 53)) (pow_pos (size m - 53)) (pow_pos (size m - 53)) (mul-le-mul_right (2 ^ (size m - 53)) h))))
    (λ (l : size n - 53 < size m - 53). omega (arith, kept-lt 53 n, lead m (omega arith)))
    (eq-or-lt_of_le {n = size n - 53} {m = size m - 53} (omega arith))

-- the pattern of a positive float
bits : ℕ → ℤ → ℕ
bits m e = to_bits binary64 (fin false m e)

bits_is : (m : ℕ) (e : ℤ) → bits m e ≡ pattern (m * up e * 2 ^ 1074 / down e)
unfolding bits to_bits pattern
bits_is m e = omega arith

bits-le : (m n : ℕ) (e d : ℤ) → m * up e * down d ≤ n * up d * down e → bits m e ≤ bits n d
bits-le m n e d h =
    rw (bits_is m e, bits_is n d)
    (pattern_mono (m * up e * 2 ^ 1074 / down e) (n * up d * 2 ^ 1074 / down d)
    (div_mono (m * up e * 2 ^ 1074) (down e) (n * up d * 2 ^ 1074) (down d) (down_pos e) (down_pos d)
    (rw (mul_right_comm (m * up e) (2 ^ 1074) (down d), mul_right_comm (n * up d) (2 ^ 1074) (down e)) (mul-le-mul_right (2 ^ 1074) h))))

-- ---- patterns

same_bits : (x y : Float) → T (fits binary64 x) → T (fits binary64 y) → to_bits binary64 x ≡ to_bits binary64 y → x ≡ y
same_bits x y fx fy q = sym (of_bits-to_bits binary64 x fx) ∙ ap (of_bits binary64) q ∙ of_bits-to_bits binary64 y fy

bits-minus : (m : ℕ) (e : ℤ) → to_bits binary64 (fin true m e) ≡ 9223372036854775808 + bits m e
unfolding to_bits bits
bits-minus m e = omega arith

plus : (s : Bool) (m : ℕ) (e : ℤ) → T (fits binary64 (fin s m e)) → T (fits binary64 (fin false m e))
unfolding neg
plus false m e t = t
plus true m e t = neg-fits binary64 (fin true m e) t

-- the pattern of a finite float is below the infinity's
bits_small : (s : Bool) (m : ℕ) (e : ℤ) → T (fits binary64 (fin s m e)) → bits m e < 9218868437227405312
unfolding bits neg is_nan
bits_small s m e t =
    let f : T (fits binary64 (fin false m e)) = plus s m e t in
    let b : bits m e < 9223372036854775808 = omega (arith, bits-minus m e, to_bits-lt binary64 (fin true m e) (neg-fits binary64 (fin false m e) f)) in
    let number : ltb 9218868437227405312 (bits m e % 9223372036854775808) ≡ false =
    sym (nan_bits_above binary64 (bits m e)) ∙ nan_bits_is binary64 (bits m e) ∙ ap is_nan (of_bits-to_bits binary64 (fin false m e) f) in
    let l : bits m e ≤ 9218868437227405312 = omega (arith, ltb-false 9218868437227405312 (bits m e % 9223372036854775808) number) in
    ⊎_elim
    (λ (q : bits m e ≡ 9218868437227405312). let x : fin false m e ≡ inf false = same_bits (fin false m e) (inf false) f (inf-fits binary64 false) (q ∙ unfold to_bits in refl) in
    let z : ◌≡◌ {A = ℕ} 0 1 = cc in omega arith)
    (λ (q : bits m e < 9218868437227405312). q)
    (eq-or-lt_of_le l)

bits-lt : (s t : Bool) (m n : ℕ) (e d : ℤ) → T (fits binary64 (fin s m e)) → T (fits binary64 (fin t n d)) → m * up e * down d < n * up d * down e → bits m e < bits n d
unfolding bits
bits-lt s t m n e d fm fn h =
    ⊎_elim
    (λ (q : bits m e ≡ bits n d). let x : fin false m e ≡ fin false n d = same_bits (fin false m e) (fin false n d) (plus s m e fm) (plus t n d fn) q in
    let z : m * up e * down d ≡ n * up d * down e = cc in omega arith)
    (λ (l : bits m e < bits n d). l)
    (eq-or-lt_of_le (bits-le m n e d (le_of_lt h)))

-- ---- keys

key-plus : (m : ℕ) (e : ℤ) → T (fits binary64 (fin false m e)) → total_key (fin false m e) ≡ bits m e + 9223372036854775808
unfolding total_key bits
key-plus m e t = rw (lt-ltb (bits m e) 9223372036854775808 (omega (arith, bits_small false m e t)))

key-minus : (m : ℕ) (e : ℤ) → total_key (fin true m e) ≡ 9223372036854775807 - bits m e
unfolding total_key
key-minus m e = rw (bits-minus m e, le-ltb (9223372036854775808 + bits m e) 9223372036854775808 (omega arith)) (omega arith)

key-inf : (s : Bool) → total_key (inf s) ≡ cond s 4503599627370495 18442240474082181120
unfolding total_key to_bits
key-inf false = refl
key-inf true = refl

key-nan : total_key nan ≡ 18444492273895866368
unfolding total_key to_bits
key-nan = refl

-- a finite float's key is between those of the infinities
key-between : (s : Bool) (m : ℕ) (e : ℤ) → T (fits binary64 (fin s m e)) → (4503599627370495 < total_key (fin s m e)) × (total_key (fin s m e) < 18442240474082181120)
key-between false m e t = let b : bits m e < 9218868437227405312 = bits_small false m e t in (omega (arith, key-plus m e t), omega (arith, key-plus m e t))
key-between true m e t = let b : bits m e < 9218868437227405312 = bits_small true m e t in (omega (arith, key-minus m e), omega (arith, key-minus m e))

-- ---- the order

first : (x y : Float) → total_key x < total_key y → true ≡ ltb (total_key x) (total_key y)
first x y h = sym (lt-ltb (total_key x) (total_key y) h)

later : (x y : Float) → total_key y ≤ total_key x → false ≡ ltb (total_key x) (total_key y)
later x y h = sym (le-ltb (total_key x) (total_key y) h)

-- any negative float precedes any positive one, the zeros too
minus-first : (a b : ℕ) → (eqb a b && eqb a 0 || ltb 0 (a + b)) ≡ true
minus-first zero zero = refl
minus-first zero (suc b) = rw (lt-ltb 0 (0 + suc b) (omega arith)) (or-true (eqb 0 (suc b) && eqb 0 0))
minus-first (suc a) b = rw (lt-ltb 0 (suc a + b) (omega arith)) (or-true (eqb (suc a) b && eqb (suc a) 0))

module _ (m n : ℕ) (e d : ℤ) where
  plus-plus : T (fits binary64 (fin false m e)) → T (fits binary64 (fin false n d)) → (t : Bool) → ltb (m * up e * down d) (n * up d * down e) ≡ t → t ≡ ltb (total_key (fin false m e)) (total_key (fin false n d))
  plus-plus fm fn true h = first (fin false m e) (fin false n d) (omega (arith, key-plus m e fm, key-plus n d fn, bits-lt false false m n e d fm fn (ltb-true _ _ h)))
  plus-plus fm fn false h = later (fin false m e) (fin false n d) (omega (arith, key-plus m e fm, key-plus n d fn, bits-le n m d e (ltb-false _ _ h)))

  minus_minus : T (fits binary64 (fin true m e)) → T (fits binary64 (fin true n d)) → (t : Bool) → ltb (n * up d * down e) (m * up e * down d) ≡ t → t ≡ ltb (total_key (fin true m e)) (total_key (fin true n d))
  minus_minus fm fn true h = first (fin true m e) (fin true n d) (omega (arith, key-minus m e, key-minus n d, bits_small true m e fm, bits-lt true true n m d e fn fm (ltb-true _ _ h)))
  minus_minus fm fn false h = later (fin true m e) (fin true n d) (omega (arith, key-minus m e, key-minus n d, bits-le m n e d (ltb-false _ _ h)))

-- the key goes as totalOrder does
pub precedes_key : (x y : Float) → T (fits binary64 x) → T (fits binary64 y) → precedes x y ≡ ltb (total_key x) (total_key y)
unfolding precedes lt eq is_nan
precedes_key (fin false m e) (fin false n d) fx fy = plus-plus m n e d fx fy _ refl
precedes_key (fin false m e) (fin true n d) fx fy = later (fin false m e) (fin true n d) (omega (arith, key-plus m e fx, key-minus n d))
precedes_key (fin true m e) (fin false n d) fx fy = minus-first (m * up e * down d) (n * up d * down e) ∙ first (fin true m e) (fin false n d) (omega (arith, key-minus m e, key-plus n d fy))
precedes_key (fin true m e) (fin true n d) fx fy = minus_minus m n e d fx fy _ refl
precedes_key nan nan fx fy = later nan nan (omega arith)
precedes_key nan (inf false) fx fy = later nan (inf false) (omega (arith, key-nan, key-inf false))
precedes_key nan (inf true) fx fy = later nan (inf true) (omega (arith, key-nan, key-inf true))
precedes_key nan (fin t n d) fx fy = later nan (fin t n d) (omega (arith, key-nan, (key-between t n d fy).1))
precedes_key (inf false) nan fx fy = first (inf false) nan (omega (arith, key-nan, key-inf false))
precedes_key (inf true) nan fx fy = first (inf true) nan (omega (arith, key-nan, key-inf true))
precedes_key (inf false) (inf false) fx fy = later (inf false) (inf false) (omega arith)
precedes_key (inf false) (inf true) fx fy = later (inf false) (inf true) (omega (arith, key-inf false, key-inf true))
precedes_key (inf true) (inf false) fx fy = first (inf true) (inf false) (omega (arith, key-inf false, key-inf true))
precedes_key (inf true) (inf true) fx fy = later (inf true) (inf true) (omega arith)
precedes_key (inf false) (fin t n d) fx fy = later (inf false) (fin t n d) (omega (arith, key-inf false, (key-between t n d fy).1))
precedes_key (inf true) (fin false n d) fx fy = first (inf true) (fin false n d) (omega (arith, key-inf true, (key-between false n d fy).0))
precedes_key (inf true) (fin true n d) fx fy = first (inf true) (fin true n d) (omega (arith, key-inf true, (key-between true n d fy).0))
precedes_key (fin s m e) nan fx fy = first (fin s m e) nan (omega (arith, key-nan, (key-between s m e fx).1))
precedes_key (fin false m e) (inf false) fx fy = first (fin false m e) (inf false) (omega (arith, key-inf false, (key-between false m e fx).1))
precedes_key (fin true m e) (inf false) fx fy = first (fin true m e) (inf false) (omega (arith, key-inf false, (key-between true m e fx).1))
precedes_key (fin false m e) (inf true) fx fy = later (fin false m e) (inf true) (omega (arith, key-inf true, (key-between false m e fx).0))
precedes_key (fin true m e) (inf true) fx fy = later (fin true m e) (inf true) (omega (arith, key-inf true, (key-between true m e fx).0))

-- the smaller key exactly where totalOrder has the float before the other
pub key-order : (x y : Float) → T (fits binary64 x) → T (fits binary64 y) → (total_key x < total_key y) ↔ T (precedes x y)
key-order x y fx fy = (
  λ (h : total_key x < total_key y). subst T (sym (precedes_key x y fx fy)) (lt→ltb (total_key x) (total_key y) h),
  λ (p : T (precedes x y)). ltb→lt (total_key x) (total_key y) (subst T (precedes_key x y fx fy) p),
)

one-pattern : (a b : ℕ) (s t : Bool) → ltb a (2 ^ 63) ≡ s → ltb b (2 ^ 63) ≡ t → a < 2 ^ 64 → b < 2 ^ 64
    → cond s (a + 2 ^ 63) (2 ^ 64 - 1 - a) ≡ cond t (b + 2 ^ 63) (2 ^ 64 - 1 - b) → a ≡ b
one-pattern a b false false p q ha hb h = omega arith
one-pattern a b false true p q ha hb h = absurd (omega (arith, ltb-false a 9223372036854775808 p))
one-pattern a b true false p q ha hb h = absurd (omega (arith, ltb-false b 9223372036854775808 q))
one-pattern a b true true p q ha hb h = omega arith

-- a key is that of one float
pub key-same : (x y : Float) → T (fits binary64 x) → T (fits binary64 y) → total_key x ≡ total_key y → x ≡ y
unfolding total_key
key-same x y fx fy q =
    same_bits x y fx fy (one-pattern (to_bits binary64 x) (to_bits binary64 y) _ _ refl refl (to_bits-lt binary64 x fx) (to_bits-lt binary64 y fy) q)
