-- `floor_at`, case by case as `floor_at` tests them: a truncation on either side of zero, and below zero a comparison that tells whether a fraction was cut off.
-- Assumes nothing.
use Rattle.std.proofs.Common.{◌≡◌, ℕ, zero, suc, ◌+◌, ◌-◌, ◌*◌, ◌/◌, ◌^◌, ◌<◌, ◌≤◌, true, false, T, eqb, ltb, ℤ, pos, negsuc, sym, refl, ap, ◌∙◌, subst, div-lt_iff_lt-mul, add-mul, le-div_iff_mul-le, mul-one, div-le_self, div-mul-le_self, div-one, arith, eqb→eq, lt→ltb, ltb-false, ltb-true, lt-ltb, leb-false}
use native.Mathlib.Nat.{div-eq_of_lt-le, div-eq_of_lt, lt-div-mul-add}
use lib.Ieee.{Float, nan, inf, fin, up, down, lt, le, eq, neg, to_unsigned, of_int, fits, binary64, round}
use lib.Ieee.Fits.{down_pos, and_l}
use lib.Ieee.Back.{round_whole}
use Rattle.ieee_whole.specs.Whole.{floor_at}
use Rattle.lists.proofs.Bools.{never}
use Rattle.ieee.proofs.Comparing.{holds, le-positive, lt-whole, digits}

-- the bounds 2 ^ 63, -2 ^ 63 and 0
abbrev B : Float
B = fin false 1 (pos 63)

abbrev NB : Float
NB = fin true 1 (pos 63)

abbrev Z : Float
Z = fin false 0 (pos 0)

-- a positive one is not below 0
below-zero : {X : Type 0} (m : ℕ) (e : ℤ) → le Z (fin false m e) ≡ false → X
below-zero m e h = absurd (omega (arith, leb-false (0 * down e) (m * up e * 1) (sym (le-positive 0 m (pos 0) e) ∙ h)))

-- a negative one is below 2 ^ 63
under : {X : Type 0} (m : ℕ) (e : ℤ) → lt (fin true m e) B ≡ false → X
unfolding lt
under m e h = never (lt-ltb 0 (m * up e * 1 + 9223372036854775808 * down e) (omega (arith, down_pos e))) h

-- a negative one that is not below 0 is 0
zero_of : (m : ℕ) (e : ℤ) → le Z (fin true m e) ≡ true → m * up e ≡ 0
unfolding le lt eq
zero_of m e z = omega (arith, eqb→eq (0 * down e) (m * up e * 1) (and_l (eqb (0 * down e) (m * up e * 1)) (eqb (0 * down e) 0) (holds z)))

-- ---- from 0 up to 2 ^ 63

cut : (m : ℕ) (e : ℤ) → m * up e < 9223372036854775808 * down e → m * up e / down e < 9223372036854775808
cut m e h = (div-lt_iff_lt-mul {k = down e} {x = m * up e} {y = 9223372036854775808} (down_pos e)).1 h

pub up-asks : (x : Float) → lt x B ≡ true → le Z x ≡ true → T (lt (fin true 1 (pos 0)) x) × T (lt x (fin false 1 (pos 64)))
unfolding lt le eq
up-asks nan h z = never h refl
up-asks (inf false) h z = never h refl
up-asks (inf true) h z = never z refl
up-asks (fin false m e) h z = (
  lt→ltb 0 (1 * down e + m * up e * 1) (omega (arith, down_pos e)),
  lt→ltb (m * up e * 1) (18446744073709551616 * down e) (omega (arith, ltb-true (m * up e * 1) (9223372036854775808 * down e) h)),
)
up-asks (fin true m e) h z = (
  lt→ltb (m * up e * 1) (1 * down e) (omega (arith, down_pos e, zero_of m e z)),
  lt→ltb 0 (m * up e * 1 + 18446744073709551616 * down e) (omega (arith, down_pos e)),
)

pub up_small : (x : Float) → lt x B ≡ true → to_unsigned 64 x < 9223372036854775808
unfolding lt to_unsigned
up_small nan h = never h refl
up_small (inf false) h = never h refl
up_small (inf true) h = omega arith
up_small (fin true m e) h = omega arith
up_small (fin false m e) h = omega (arith, cut m e (omega (arith, ltb-true (m * up e * 1) (9223372036854775808 * down e) h)))

pub up_is : (x : Float) → lt x B ≡ true → le Z x ≡ true → 9223372036854775808 + to_unsigned 64 x ≡ floor_at x
unfolding lt le eq to_unsigned floor_at
up_is nan h z = never h refl
up_is (inf false) h z = never h refl
up_is (inf true) h z = never z refl
up_is (fin false m e) h z = omega (arith, cut m e (omega (arith, ltb-true (m * up e * 1) (9223372036854775808 * down e) h)))
up_is (fin true m e) h z = omega (arith, div-eq_of_lt {n = m * up e + (down e - 1)} {m = down e} (omega (arith, down_pos e, zero_of m e z)))

-- ---- between -2 ^ 63 and 0

-- a quotient rounded up: one more than the quotient where a remainder is left
over : (a d : ℕ) → 0 < d → a / d * d < a → (a + (d - 1)) / d ≡ a / d + 1
over a d p h =
    div-eq_of_lt-le {k = a / d + 1} d {m = a + (d - 1)}
    (omega (arith, add-mul (a / d) 1 d, lt-div-mul-add {a = a} {b = d} p))
    (omega (arith, add-mul (a / d) 1 d, add-mul (a / d + 1) 1 d, lt-div-mul-add {a = a} {b = d} p))

even : (a d : ℕ) → 0 < d → a ≤ a / d * d → (a + (d - 1)) / d ≡ a / d
even a d p h = div-eq_of_lt-le {k = a / d} d {m = a + (d - 1)} (omega (arith, div-mul-le_self a d)) (omega (arith, add-mul (a / d) 1 d))

-- from 2 ^ 53 on there is no fraction
no_fraction : (m : ℕ) (e : ℤ) → T (fits binary64 (fin true m e)) → 9007199254740992 ≤ m * up e / down e → m * up e ≤ m * up e / down e * down e
no_fraction m (pos k) t h = omega (arith, div-one (m * up (pos k)), mul-one (m * up (pos k) / 1))
no_fraction zero (negsuc k) t h = omega arith
no_fraction (suc m) (negsuc k) t h = absurd (omega (arith, div-le_self (suc m * 1) (2 ^ suc k), (digits binary64 true m (negsuc k) t).0))

shape : (x : Float) → lt x B ≡ true → le Z x ≡ false → lt NB x ≡ true → (m : ℕ) × (e : ℤ) × (x ≡ fin true m e) × (m * up e < 9223372036854775808 * down e)
unfolding lt
shape nan h z n = never h refl
shape (inf false) h z n = never h refl
shape (inf true) h z n = never n refl
shape (fin false m e) h z n = below-zero m e z
shape (fin true m e) h z n = (m, e, refl, omega (arith, ltb-true (m * up e * 1) (9223372036854775808 * down e) n))

module _ (x : Float) (h : lt x B ≡ true) (z : le Z x ≡ false) (n : lt NB x ≡ true) where
  abbrev m : ℕ
  m = (shape x h z n).0

  abbrev e : ℤ
  e = (shape x h z n).1

  is : x ≡ fin true m e
  is = (shape x h z n).2

  bound : m * up e < 9223372036854775808 * down e
  bound = (shape x h z n).3

  pub neg-asks : T (lt (fin true 1 (pos 0)) (neg x)) × T (lt (neg x) (fin false 1 (pos 64)))
  unfolding lt neg
  neg-asks =
      rw is (
        lt→ltb 0 (1 * down e + m * up e * 1) (omega (arith, down_pos e)),
        lt→ltb (m * up e * 1) (18446744073709551616 * down e) (omega (arith, bound)),
      )

  part : to_unsigned 64 (neg x) ≡ m * up e / down e
  unfolding to_unsigned neg
  part = ap (λ (y : Float). to_unsigned 64 (neg y)) is ∙ omega (arith, cut m e bound)

  pub neg_small : to_unsigned 64 (neg x) < 9223372036854775808
  neg_small = omega (arith, part, cut m e bound)

  floor-is : floor_at x ≡ 9223372036854775808 - (m * up e + (down e - 1)) / down e
  unfolding floor_at
  floor-is = ap floor_at is

  module _ (u : ℕ) (hu : u ≡ to_unsigned 64 (neg x)) where
    compared : u < 9007199254740992 → lt (of_int binary64 (pos u)) (neg x) ≡ ltb (m * up e / down e * down e) (m * up e)
    unfolding neg of_int
    compared lo =
        ap (λ (y : Float). lt (of_int binary64 (pos u)) (neg y)) is
        ∙ lt-whole (round binary64 false u 1) u m e (round_whole binary64 false u (omega arith))
        ∙ ap (λ (k : ℕ). ltb (k * down e) (m * up e)) (hu ∙ part)

    pub neg-over : u < 9007199254740992 → lt (of_int binary64 (pos u)) (neg x) ≡ true → 9223372036854775807 - u ≡ floor_at x
    neg-over lo t = omega (arith, floor-is, hu, part, over (m * up e) (down e) (down_pos e) (ltb-true _ _ (sym (compared lo) ∙ t)))

    pub neg-even : u < 9007199254740992 → lt (of_int binary64 (pos u)) (neg x) ≡ false → 9223372036854775808 - u ≡ floor_at x
    neg-even lo t = omega (arith, floor-is, hu, part, even (m * up e) (down e) (down_pos e) (ltb-false _ _ (sym (compared lo) ∙ t)))

    pub neg-whole : T (fits binary64 x) → 9007199254740992 ≤ u → 9223372036854775808 - u ≡ floor_at x
    neg-whole f lo =
        omega (arith, floor-is, hu, part, even (m * up e) (down e) (down_pos e) (no_fraction m e (subst (λ (y : Float). T (fits binary64 y)) is f) (omega (arith, hu, part))))

-- ---- elsewhere

pub low-is : (x : Float) → lt x B ≡ true → le Z x ≡ false → lt NB x ≡ false → 0 ≡ floor_at x
unfolding lt floor_at
low-is nan h z n = never h refl
low-is (inf false) h z n = never h refl
low-is (inf true) h z n = refl
low-is (fin false m e) h z n = below-zero m e z
low-is (fin true m e) h z n =
    omega (arith, (le-div_iff_mul-le {k = down e} {x = 9223372036854775808} {y = m * up e + (down e - 1)} (down_pos e)).1 (omega (arith, ltb-false (m * up e * 1) (9223372036854775808 * down e) n)))

pub high_is : (x : Float) → lt x B ≡ false → le B x ≡ true → 18446744073709551615 ≡ floor_at x
unfolding lt le eq floor_at
high_is nan h z = never z refl
high_is (inf false) h z = refl
high_is (inf true) h z = never refl h
high_is (fin true m e) h z = under m e h
high_is (fin false m e) h z =
    omega (arith, (le-div_iff_mul-le {k = down e} {x = 9223372036854775808} {y = m * up e} (down_pos e)).1 (omega (arith, ltb-false (m * up e * 1) (9223372036854775808 * down e) h)))

pub none_is : (x : Float) → lt x B ≡ false → le B x ≡ false → 9223372036854775808 ≡ floor_at x
unfolding lt le eq floor_at
none_is nan h z = refl
none_is (inf false) h z = never refl z
none_is (inf true) h z = never refl h
none_is (fin true m e) h z = under m e h
none_is (fin false m e) h z =
    absurd (omega (arith, ltb-false (m * up e * 1) (9223372036854775808 * down e) h, leb-false (9223372036854775808 * down e) (m * up e * 1) (sym (le-positive 1 m (pos 63) e) ∙ z)))

-- what it gives fits 64 digits
pub floor-fits : (v : Float) → floor_at v < 2 ^ 64
unfolding floor_at
floor-fits nan = omega arith
floor-fits (inf true) = omega arith
floor-fits (inf false) = omega arith
floor-fits (fin true m e) = omega arith
floor-fits (fin false m e) = omega arith
