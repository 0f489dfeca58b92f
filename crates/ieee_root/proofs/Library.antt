-- The library's root is `sqrt_of`. It takes the root of x to 2,271 binary places, twice, with one more where digits go on, and rounds that; `sqrt_of` compares squares.
-- Assumes nothing.
use Rattle.std.proofs.Common.{◌≡◌, ℕ, zero, suc, ◌+◌, ◌-◌, ◌*◌, ◌/◌, ◌%◌, ◌^◌, ◌<◌, ◌≤◌, Bool, true, false, cond, T, eqb, ℤ, pos, negsuc, sym, refl, ap, ◌∙◌, subst, le_trans, le_of_eq, le_of_lt, mul_assoc, mul_comm, mul_left_comm, mul-pos, mul-lt-mul_of_pos_right, mul-le-mul_right, mul-div_cancel, arith, pow_pos, eqb→eq, ⊎_elim, mul-one, one-mul}
use Rattle.std.proofs.Math.Nat.{div-eq_of_lt-le, div-div-eq-div-mul, div-add-mod}
use Prim.Native.Nat.{compare, Ordering}
use borrow.Author.Tests.{eqb-true, eqb-false}
use native.Mathlib.Nat.{eq-or-lt_of_le, two-pow-succ}
use lib.Ieee.{Float, nan, inf, fin, Format, binary64, prec, low, up, down, size, nearest, units, round, root_below, root_twice, sqrt, fits}
use lib.Ieee.Fits.{down_pos}
use lib.Ieee.Nearest.{div_same}
use lib.Ieee.Root.{whole_part}
use Rattle.ieee.proofs.Grid.{grid}
use Rattle.ieee_root.specs.Sqrt.{sqrt_of, root_of, isqrt}
use Rattle.ieee_root.proofs.Integer.{sq-lt, sq-mul, sq-double, Cmp, cmp, Root, isqrt-is, root-le, root-lt}
use Rattle.ieee_root.proofs.Value.{in_units}

-- ---- twice the root of n, and one more where it is not exact

record Twice (n t : ℕ) : Type 0 where
  pub r : ℕ
  pub b : ℕ
  pub is : t ≡ 2 * r + b
  pub root : Root n r
  pub few : b ≤ 1
  pub exact : r * r ≡ n → b ≡ 0
  pub goes_on : r * r < n → b ≡ 1

apart : (a b : ℕ) → a < b → a ≡ b → ⊥
apart a b h e = omega arith

twice : (n : ℕ) → Twice n (root_twice n)
unfolding root_twice
twice n = go (eqb (r * r) n) (eqb-true (r * r) n) (eqb-false (r * r) n)
  where
    r : ℕ
    r = root_below (size n) n

    root : Root n r
    root = record { below = (whole_part n).0; above = (whole_part n).1 }

    go : (e : Bool) → (e ≡ true → r * r ≡ n) → (e ≡ false → r * r ≡ n → ⊥) → Twice n (2 * r + cond e 0 1)
    go true y z = record { r = r; b = 0; is = refl; root = root; few = omega arith; exact = λ h. refl; goes_on = λ h. absurd (apart (r * r) n h (y refl)) }
    go false y z = record { r = r; b = 1; is = refl; root = root; few = omega arith; exact = λ h. absurd (z refl h); goes_on = λ h. refl }

-- ---- what compares as said is what `compare` says

cmp_is : (o : Ordering) (a b : ℕ) → Cmp o a b → compare a b ≡ o
cmp_is o a b h = go (compare a b) o (cmp a b) h
  where
    go : (p o : Ordering) → Cmp p a b → Cmp o a b → p ≡ o
    go Ordering.lt Ordering.lt k h = refl
    go Ordering.lt Ordering.eq k h = absurd (apart a b k h)
    go Ordering.lt Ordering.gt k h = absurd (omega arith)
    go Ordering.eq Ordering.lt k h = absurd (apart a b h k)
    go Ordering.eq Ordering.eq k h = refl
    go Ordering.eq Ordering.gt k h = absurd (apart b a h (sym k))
    go Ordering.gt Ordering.lt k h = absurd (omega arith)
    go Ordering.gt Ordering.eq k h = absurd (apart b a k (sym h))
    go Ordering.gt Ordering.gt k h = refl

-- both sides times c
scaled : (o : Ordering) (a b c : ℕ) → 0 < c → Cmp o a b → Cmp o (a * c) (b * c)
scaled Ordering.lt a b c C h = mul-lt-mul_of_pos_right h C
scaled Ordering.eq a b c C h = ap (λ (x : ℕ). x * c) h
scaled Ordering.gt a b c C h = mul-lt-mul_of_pos_right h C

-- ---- the root of v and that of v with 2 * e more places: t is twice the second; both are rounded alike

module _ (v e l t : ℕ) (E : 0 < e) (L : 0 < l) (w : Twice (v * (2 * e * (2 * e))) t) where
  abbrev n : ℕ
  n = v * (2 * e * (2 * e))

  abbrev r : ℕ
  r = isqrt v

  reaches : r * (2 * e) ≤ w.r
  reaches = root-le (r * (2 * e)) n w.r (le_trans (le_of_eq (sq-mul r (2 * e))) (mul-le-mul_right (2 * e * (2 * e)) (isqrt-is v).below)) w.root

  ends : w.r < (r + 1) * (2 * e)
  ends = root-lt ((r + 1) * (2 * e)) n w.r (subst (λ (x : ℕ). n < x) (sym (sq-mul (r + 1) (2 * e))) (mul-lt-mul_of_pos_right (isqrt-is v).above some)) w.root
    where
      some : 0 < 2 * e * (2 * e)
      some = mul-pos (omega arith) (omega arith)

  whole : t * l / (l * (2 * (2 * e))) ≡ r
  whole =
      div_same (t * l) (l * (2 * (2 * e))) t (2 * (2 * e)) (mul-pos L (omega arith)) (omega arith) (mul_assoc t l (2 * (2 * e)))
      ∙ div-eq_of_lt-le (2 * (2 * e)) (omega (arith, reaches, w.is, mul_left_comm r 2 (2 * e))) (omega (arith, ends, w.is, w.few, mul_left_comm (r + 1) 2 (2 * e)))

  module _ (c : ℕ) (C : 0 < c) where
    abbrev u : ℕ
    u = l * (2 * (2 * e)) * c

    abbrev q : ℕ
    q = r / c

    abbrev z : ℕ
    z = 2 * q + 1

    -- half the middle between q and q + 1, in places of t
    abbrev h : ℕ
    h = z * (e * c)

    cut : t * l / u ≡ q
    cut = sym (div-div-eq-div-mul (t * l) (l * (2 * (2 * e))) c) ∙ ap (λ (x : ℕ). x / c) whole

    square : h * h ≡ z * z * (c * c) * (e * e)
    square = sq-mul z (e * c) ∙ ap (λ (x : ℕ). z * z * x) (sq-mul e c ∙ mul_comm (e * e) (c * c)) ∙ sym (mul_assoc (z * z) (c * c) (e * e))

    places : n ≡ 4 * v * (e * e)
    places = ap (λ (x : ℕ). v * x) (sq-double e) ∙ mul_left_comm v 4 (e * e) ∙ sym (mul_assoc 4 v (e * e))

    by_squares : (o : Ordering) → Cmp o n (h * h) → Cmp o t (2 * h)
    by_squares Ordering.lt k = omega (arith, root-lt h n w.r k w.root, w.is, w.few)
    by_squares Ordering.eq k =
        let least : h ≤ w.r = root-le h n w.r (le_of_eq (sym k)) w.root in
        let most : w.r < h + 1 = root-lt (h + 1) n w.r (subst (λ (x : ℕ). x < (h + 1) * (h + 1)) (sym k) (sq-lt (omega arith))) w.root in
        let same : w.r ≡ h = omega arith in
        omega (arith, same, w.is, w.exact (ap (λ (x : ℕ). x * x) same ∙ sym k))
    by_squares Ordering.gt k = ⊎_elim exact beyond (eq-or-lt_of_le (root-le h n w.r (le_of_lt k) w.root))
      where
        exact : h ≡ w.r → 2 * h < t
        exact p = omega (arith, p, w.is, w.goes_on (subst (λ (x : ℕ). x * x < n) p k))

        beyond : h < w.r → 2 * h < t
        beyond p = omega (arith, p, w.is)

    middle : 2 * (u * q) + u ≡ 2 * (2 * h * l)
    middle = omega arith

    parts : u * q + t * l % u ≡ t * l
    parts = ap (λ (x : ℕ). u * x + t * l % u) (sym cut) ∙ div-add-mod (t * l) u

    by_rest : (o : Ordering) → Cmp o (t * l) (2 * h * l) → Cmp o (t * l % u * 2) u
    by_rest Ordering.lt k = omega (arith, middle, parts, k)
    by_rest Ordering.eq k = omega (arith, middle, parts, k)
    by_rest Ordering.gt k = omega (arith, middle, parts, k)

    alike : compare (t * l % u * 2) u ≡ compare (4 * v) (z * z * (c * c))
    alike = cmp_is o (t * l % u * 2) u (by_rest o (scaled o t (2 * h) l L (by_squares o (subst (λ (x : ℕ). Cmp o x (h * h)) (sym places) (subst (λ (x : ℕ). Cmp o (4 * v * (e * e)) x) (sym square) (scaled o (4 * v) (z * z * (c * c)) (e * e) (mul-pos E E) (cmp (4 * v) (z * z * (c * c)))))))))
      where
        o : Ordering
        o = compare (4 * v) (z * z * (c * c))

rounded : (f : Format) (v e t : ℕ) → 0 < e → Twice (v * (2 * e * (2 * e))) t → round f false t (2 ^ low f * (2 * (2 * e))) ≡ root_of f v
unfolding round root_of
rounded f v e t E w =
    let l = 2 ^ low f in
    let L = pow_pos (low f) in
    let k = size (isqrt v) - prec f in
    ap at (whole v e l t E L w)
    ∙ ap (λ (q : ℕ). units f false (nearest q (compare (t * l % (l * (2 * (2 * e)) * 2 ^ k) * 2) (l * (2 * (2 * e)) * 2 ^ k))) k) (cut v e l t E L w (2 ^ k) (pow_pos k))
    ∙ ap (λ (o : Ordering). units f false (nearest (isqrt v / 2 ^ k) o) k) (alike v e l t E L w (2 ^ k) (pow_pos k))
  where
    at : ℕ → Float
    at x =
        let n = t * 2 ^ low f in
        let k = size x - prec f in
        let u = 2 ^ low f * (2 * (2 * e)) * 2 ^ k in
        units f false (nearest (n / u) (compare (n % u * 2) u)) k

positive : (m : ℕ) (e : ℤ) → T (fits binary64 (fin false (suc m) e)) → sqrt binary64 (fin false (suc m) e) ≡ sqrt_of binary64 (fin false (suc m) e)
unfolding sqrt sqrt_of
positive m e fit =
    let g = grid binary64 false (suc m) e fit in
    let a = g.m * 2 ^ g.j in
    let is : suc m * up e * 2 ^ 1074 ≡ a * down e = g.value.1 in
    let places : suc m * up e * 2 ^ 4542 / down e ≡ a * 2 ^ 3468 =
    ap (λ (x : ℕ). x / down e) (sym (mul_assoc (suc m * up e) (2 ^ 1074) (2 ^ 3468)) ∙ ap (λ (x : ℕ). x * 2 ^ 3468) is ∙ mul_assoc a (down e) (2 ^ 3468) ∙ ap (λ (x : ℕ). a * x) (mul_comm (down e) (2 ^ 3468)) ∙ sym (mul_assoc a (2 ^ 3468) (down e)))
    ∙ mul-div_cancel (a * 2 ^ 3468) (down_pos e) in
    ap (λ (x : ℕ). round binary64 false (root_twice x) (2 ^ 2272)) (places ∙ sym (mul_assoc a (2 ^ 1074) (2 * 2 ^ 1196 * (2 * 2 ^ 1196))))
    ∙ rounded binary64 (a * 2 ^ 1074) (2 ^ 1196) _ (pow_pos 1196) (twice (a * 2 ^ 1074 * (2 * 2 ^ 1196 * (2 * 2 ^ 1196))))
    ∙ ap (λ (x : ℕ). root_of binary64 (x * 2 ^ 1074)) (sym (in_units binary64 (suc m) e a is))

many : {p : ℕ} (d : ℕ) → 0 < d → p ≡ d + d → p * 1 ≡ 1 → ⊥
many d D e i = omega arith

-- a zero that fits has the exponent 0
none : (s : Bool) (e : ℤ) → T (fits binary64 (fin s zero e)) → fin s 0 (pos 0) ≡ fin s zero e
unfolding fits
none s (pos zero) h = refl
none s (pos (suc k)) h = absurd (many (2 ^ k) (pow_pos k) (two-pow-succ k) (eqb→eq (2 ^ suc k * 1) 1 h))
none s (negsuc k) h = absurd (many (2 ^ k) (pow_pos k) (two-pow-succ k) (mul-one (2 ^ suc k) ∙ sym (one-mul (2 ^ suc k)) ∙ eqb→eq (1 * 2 ^ suc k) 1 h))

pub library_root : (x : Float) → T (fits binary64 x) → sqrt binary64 x ≡ sqrt_of binary64 x
unfolding sqrt sqrt_of
library_root nan h = refl
library_root (inf true) h = refl
library_root (inf false) h = refl
library_root (fin s zero e) h = none s e h
library_root (fin true (suc m) e) h = refl
library_root (fin false (suc m) e) h = positive m e h
