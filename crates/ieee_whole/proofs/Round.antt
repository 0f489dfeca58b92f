-- `round_half_away`, case by case as `round_half_away` tests them, and its bound. Below 2 ^ 52 doubling is exact, so half of one more than the truncated double is it;
-- from there on a float is whole. Assumes nothing.
use Rattle.std.proofs.Common.{◌≡◌, ℕ, zero, suc, ◌+◌, ◌-◌, ◌*◌, ◌/◌, ◌^◌, ◌<◌, ◌≤◌, min, true, false, T, ℤ, pos, negsuc, sym, refl, ap, ◌∙◌, subst, lt_of_lt_of_le, le_of_suc-le-suc, mul-le-mul_right, mul_assoc, mul_comm, div-lt_iff_lt-mul, lt_of_mul-lt-mul_right, mul-lt-mul_of_pos_right, pow-suc, lt_of_not-le, le-div_iff_mul-le, zero-mul, mul-one, mul_right_comm, not-le_of_lt, le_of_mul-le-mul_right, div-one, arith, lit≤, lt→ltb, leb→le, pow_pos, pow_mono, pow-add, ltb-false, ltb-true}
use native.Mathlib.Nat.{div-eq_of_lt, div-div-eq-div-mul, add-div_right}
use lib.Pow.{pow-lt}
use lib.Ieee.{Float, nan, inf, fin, Format, prec, emax, low, up, down, lt, le, eq, mul, to_unsigned, of_int, fits, binary64, round}
use lib.Ieee.Fits.{down_pos}
use lib.Ieee.Nearest.{div_same}
use lib.Ieee.Exact.{HasValue, round_exact}
use lib.Ieee.Back.{round_whole}
use Rattle.ieee_whole.specs.Whole.{round_half_away, NearestWhole, RoundedHalfAway}
use Rattle.lists.proofs.Bools.{never}
use Rattle.ieee.proofs.Comparing.{holds, le-positive, digits}

abbrev Z : Float
Z = fin false 0 (pos 0)

-- ---- doubling is exact

-- twice 2 ^ e is a whole number of the format's smallest values
place : (f : Format) (e : ℤ) → down e ≤ 2 ^ low f → (j : ℕ) × (2 ^ j * down e ≡ up e * 2 * 2 ^ low f)
place f (pos k) h = (suc k + low f, mul-one _ ∙ pow-add 2 (suc k) (low f) ∙ ap (λ (n : ℕ). n * 2 ^ low f) (pow-suc 2 k))
place f (negsuc k) h =
    let l : k < low f = le_of_suc-le-suc (lt_of_not-le (λ (g : suc (low f) ≤ suc k). not-le_of_lt (pow-lt g) h)) in (
      low f - k,
      sym (pow-add 2 (low f - k) (suc k)) ∙ ap (λ (n : ℕ). 2 ^ n) (back (low f) k l) ∙ pow-suc 2 (low f) ∙ mul_comm (2 ^ low f) 2,
    )
  where
    back : (l k : ℕ) → k < l → l - k + suc k ≡ suc l
    back l k h = omega arith

double : (f : Format) (m : ℕ) (e : ℤ) → T (fits f (fin false m e)) → m * up e * 2 < 2 ^ suc (emax f) * down e
    → HasValue (round f false (m * up e * 2) (down e)) false (m * up e * 2) (down e)
double f zero e t h =
    round_exact f false (0 * up e * 2) (down e) 0 0 (down_pos e) (pow_pos (prec f)) (pow_pos (low f + suc (emax f))) (simp zero-mul)
double f (suc m) e t h =
    let p = place f e (digits f false m e t).1 in
    let same : suc m * up e * 2 * 2 ^ low f ≡ suc m * 2 ^ p.0 * down e =
    simp mul_assoc (ap (λ (n : ℕ). suc m * n) (simp mul_assoc at (sym p.1))) in
    round_exact f false (suc m * up e * 2) (down e) (suc m) p.0 (down_pos e) (digits f false m e t).0
    (lt_of_mul-lt-mul_right (down e) (rw (← same, pow-add 2 (low f) (suc (emax f)), mul_comm (2 ^ low f) (2 ^ suc (emax f)), mul_right_comm (2 ^ suc (emax f)) (2 ^ low f) (down e)) (mul-lt-mul_of_pos_right h (pow_pos (low f)))))
    same

-- ---- what a value says of a truncation

cut-value : (w : ℕ) (y : Float) (a c : ℕ) → 0 < c → HasValue y false a c → to_unsigned w y ≡ min (a / c) (2 ^ w - 1)
unfolding to_unsigned
cut-value w nan a c p v = absurd v
cut-value w (inf s) a c p v = absurd v
cut-value w (fin true n d) a c p v = never (sym v.0) refl
cut-value w (fin false n d) a c p v = ap (λ (q : ℕ). min q (2 ^ w - 1)) (div_same (n * up d) (down d) a c (down_pos d) p v.1)

asks : (y : Float) (a c : ℕ) → a < 18446744073709551616 * c → HasValue y false a c → T (lt (fin true 1 (pos 0)) y) × T (lt y (fin false 1 (pos 64)))
unfolding lt
asks nan a c h v = absurd v
asks (inf s) a c h v = absurd v
asks (fin true n d) a c h v = never (sym v.0) refl
asks (fin false n d) a c h v = (
  lt→ltb 0 (1 * down d + n * up d * 1) (omega (arith, down_pos d)),
  lt→ltb (n * up d * 1) (18446744073709551616 * down d)
      (lt_of_mul-lt-mul_right c (rw (mul-one (n * up d), v.1, mul_right_comm 18446744073709551616 (down d) c) (mul-lt-mul_of_pos_right h (down_pos d)))),
)

-- ---- above 0 and below 2 ^ 52

-- half of one more than twice a quotient
halves : (a d : ℕ) → 0 < d → (a * 2 / d + 1) / 2 ≡ (2 * a + d) / (2 * d)
halves a d p =
    ap (λ (q : ℕ). q / 2) (sym (add-div_right (a * 2) p)) ∙ div-div-eq-div-mul (a * 2 + d) d 2
    ∙ ap (λ (n : ℕ). (n + d) / (d * 2)) (mul_comm a 2) ∙ ap (λ (n : ℕ). (2 * a + d) / n) (mul_comm d 2)

abbrev pub twice : Float → Float
twice x = mul binary64 x (fin false 1 (pos 1))

exact : (m : ℕ) (e : ℤ) → T (fits binary64 (fin false m e)) → m * up e < 4503599627370496 * down e → HasValue (twice (fin false m e)) false (m * up e * 2) (down e)
unfolding mul
exact m e t h =
    subst (λ (c : ℕ). HasValue (round binary64 false (m * up e * 2) c) false (m * up e * 2) (down e)) (sym (mul-one (down e)))
    (double binary64 m e t (lt_of_lt_of_le {m = 2 ^ 53 * down e} (omega arith) (mul-le-mul_right (down e) (pow_mono {i = 53} {j = 1024} (lit≤ tt)))))

pub record Halved (x : Float) : Type 0 where
  pub asks : T (lt (fin true 1 (pos 0)) (twice x)) × T (lt (twice x) (fin false 1 (pos 64)))
  pub small : to_unsigned 64 (twice x) < 18446744073709551615
  pub is : (to_unsigned 64 (twice x) + 1) / 2 ≡ round_half_away x

pub halved : (x : Float) → T (fits binary64 x) → lt Z x ≡ true → lt x (fin false 1 (pos 52)) ≡ true → Halved x
unfolding lt round_half_away
halved nan t z h = never z refl
halved (inf false) t z h = never h refl
halved (inf true) t z h = never z refl
halved (fin true m e) t z h = never z refl
halved (fin false m e) t z h =
    let b : m * up e < 4503599627370496 * down e = omega (arith, ltb-true (m * up e * 1) (4503599627370496 * down e) h) in
    let v = exact m e t b in
    let q : m * up e * 2 / down e < 9007199254740992 = (div-lt_iff_lt-mul {k = down e} {x = m * up e * 2} {y = 9007199254740992} (down_pos e)).1 (omega arith) in
    let u = cut-value 64 (twice (fin false m e)) (m * up e * 2) (down e) (down_pos e) v in
    record {
      asks = asks (twice (fin false m e)) (m * up e * 2) (down e) (omega arith) v;
      small = omega arith;
      is = omega (arith, halves (m * up e) (down e) (down_pos e));
    }

-- ---- from 2 ^ 52 on

pub whole-asks : (x : Float) → lt Z x ≡ true → lt x (fin false 1 (pos 64)) ≡ true → T (lt (fin true 1 (pos 0)) x) × T (lt x (fin false 1 (pos 64)))
unfolding lt
whole-asks nan z h = never z refl
whole-asks (inf false) z h = never h refl
whole-asks (inf true) z h = never z refl
whole-asks (fin true m e) z h = never z refl
whole-asks (fin false m e) z h = (lt→ltb 0 (1 * down e + m * up e * 1) (omega (arith, down_pos e)), holds h)

whole_is : (m : ℕ) (e : ℤ) → T (fits binary64 (fin false m e)) → 4503599627370496 * down e ≤ m * up e → m * up e / down e ≡ (2 * (m * up e) + down e) / (2 * down e)
whole_is m (pos k) t h = omega (arith, div-one (m * 2 ^ k))
whole_is zero (negsuc k) t h = absurd (omega (arith, pow_pos (suc k)))
whole_is (suc m) (negsuc k) t h = absurd (omega (arith, (digits binary64 false m (negsuc k) t).0, pow_mono {i = 1} {j = suc k} (omega arith)))

pub from-whole : (x : Float) → T (fits binary64 x) → lt Z x ≡ true → lt x (fin false 1 (pos 52)) ≡ false → to_unsigned 64 x ≡ round_half_away x
unfolding lt to_unsigned round_half_away
from-whole nan t z h = never z refl
from-whole (inf false) t z h = refl
from-whole (inf true) t z h = never z refl
from-whole (fin true m e) t z h = never z refl
from-whole (fin false m e) t z h = ap (λ (q : ℕ). min q (2 ^ 64 - 1)) (whole_is m e t (omega (arith, ltb-false (m * up e * 1) (4503599627370496 * down e) h)))

pub high_is : (x : Float) → lt Z x ≡ true → lt x (fin false 1 (pos 64)) ≡ false → 18446744073709551615 ≡ round_half_away x
unfolding lt round_half_away
high_is nan z h = never z refl
high_is (inf false) z h = refl
high_is (inf true) z h = never z refl
high_is (fin true m e) z h = never z refl
high_is (fin false m e) z h =
    omega (arith, (le-div_iff_mul-le {k = 2 * down e} {x = 18446744073709551615} {y = 2 * (m * up e) + down e} (omega (arith, down_pos e))).1 (omega (arith, ltb-false (m * up e * 1) (18446744073709551616 * down e) h)))

pub none_is : (x : Float) → lt Z x ≡ false → 0 ≡ round_half_away x
unfolding lt round_half_away
none_is nan z = refl
none_is (inf false) z = never refl z
none_is (inf true) z = refl
none_is (fin true m e) z = refl
none_is (fin false m e) z =
    omega (arith, div-eq_of_lt {n = 2 * (m * up e) + down e} {m = 2 * down e} (omega (arith, down_pos e, ltb-false (0 * down e) (m * up e * 1) z)))

-- ---- the bound

below : (z : Float) (k m : ℕ) (e : ℤ) → HasValue z false k 1 → T (le (fin false m e) z) → m * up e ≤ k * down e
below nan k m e v t = absurd v
below (inf s) k m e v t = absurd v
below (fin true n d) k m e v t = never (sym v.0) refl
below (fin false n d) k m e v t =
    le_of_mul-le-mul_right (rw (mul_right_comm k (down e) (down d), ← v.1, mul-one (n * up d)) (leb→le (m * up e * down d) (n * up d * down e) (subst T (le-positive m n e d) t))) (down_pos d)

endless : (z : Float) (k : ℕ) → HasValue z false k 1 → T (le (inf false) z) → ⊥
unfolding le lt eq
endless nan k v t = v
endless (inf s) k v t = v
endless (fin s n d) k v t = t

bounded : (x z : Float) (k : ℕ) → HasValue z false k 1 → T (le x z) → round_half_away x ≤ k
unfolding round_half_away
bounded nan z k v t = omega arith
bounded (inf true) z k v t = omega arith
bounded (inf false) z k v t = absurd (endless z k v t)
bounded (fin true m e) z k v t = omega arith
bounded (fin false m e) z k v t =
    omega (arith, (div-lt_iff_lt-mul {k = 2 * down e} {x = 2 * (m * up e) + down e} {y = k + 1} (omega (arith, down_pos e))).1 (omega (arith, below z k m e v t, down_pos e)))

-- what is at most a whole number is at most that number once rounded
pub round-le : (x : Float) (k : ℕ) → k ≤ 2 ^ 53 → T (le x (of_int binary64 (pos k))) → round_half_away x ≤ k
unfolding of_int
round-le x k h t = bounded x (round binary64 false k 1) k (round_whole binary64 false k h) t

-- the nearest whole number, a half away from zero, as far as a `u64` reaches
pub round_ieee : RoundedHalfAway
unfolding round_half_away
round_ieee = record {
  of_nan = refl;
  of-infinity = refl;
  of-minus-infinity = refl;
  of_negative = λ m e. refl;
  of_number = λ m e h. number (m * up e) (down e) (down_pos e) h;
  of-large = λ m e h. large (m * up e) (down e) (down_pos e) h;
}
  where
    near : (a c q : ℕ) → q * (2 * c) ≤ 2 * a + c → 2 * a + c < (q + 1) * (2 * c) → NearestWhole a c q
    near a c q l u = record { low = omega (arith, mul_right_comm 2 q c, mul_assoc q 2 c, mul_comm q 2, l); high = omega arith }

    number : (a c : ℕ) → 0 < c → a < (2 ^ 64 - 1) * c → NearestWhole a c (min ((2 * a + c) / (2 * c)) (2 ^ 64 - 1))
    number a c p l =
        let q = (2 * a + c) / (2 * c) in
        let s : q < 2 ^ 64 = (div-lt_iff_lt-mul {k = 2 * c} {x = 2 * a + c} {y = 2 ^ 64} (omega arith)).1 (omega arith) in
        let e : q ≡ min q (2 ^ 64 - 1) = omega (arith, s) in
        subst (λ (r : ℕ). NearestWhole a c r) e (near a c q ((le-div_iff_mul-le {k = 2 * c} {x = q} {y = 2 * a + c} (omega arith)).0 (omega arith)) ((div-lt_iff_lt-mul {k = 2 * c} {x = 2 * a + c} {y = q + 1} (omega arith)).0 (omega arith)))

    large : (a c : ℕ) → 0 < c → (2 ^ 64 - 1) * c ≤ a → min ((2 * a + c) / (2 * c)) (2 ^ 64 - 1) ≡ 2 ^ 64 - 1
    large a c p l =
        let g : 2 ^ 64 - 1 ≤ (2 * a + c) / (2 * c) = (le-div_iff_mul-le {k = 2 * c} {x = 2 ^ 64 - 1} {y = 2 * a + c} (omega arith)).1 (omega arith) in
        omega (arith, g)
