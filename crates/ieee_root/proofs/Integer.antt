-- Squares of whole numbers, and that `isqrt` is the integer square root. Assumes nothing.
use Rattle.std.proofs.Common.{◌≡◌, ℕ, zero, suc, ◌+◌, ◌*◌, ◌/◌, ◌^◌, ◌<◌, ◌≤◌, Bool, true, false, cond, not, T, eqb, leb, sym, refl, ap, ◌∙◌, subst, le_trans, le_of_eq, le_refl, lt_of_lt_of_le, add_assoc, mul-le-mul_right, mul_assoc, div-lt_iff_lt-mul, add-mul, mul-le-mul_left, one-mul, lt_of_not-le, mul-one, mul-add, not-le_of_lt, div-mul-le_self, mul_left_comm, two-mul, add-one, arith, eqb→eq, leb→le, pow_pos}
use Prim.Native.Nat.{compare, Ordering}
use native.Mathlib.Nat.{two-pow-succ}
use native.Mathlib.Decide.{dec_le}
use lib.Dec.{nleb→lt, is_le, compare_is_eq, eqb_refl}
use lib.Arith.{lt_of_le-ne}
use lib.Ieee.{size}
use lib.Ieee.Digits.{size-lt}
use Rattle.ieee_root.specs.Sqrt.{root_in, isqrt}

-- ---- squares

pub sq-le : {a b : ℕ} → a ≤ b → a * a ≤ b * b
sq-le {a} {b} h = le_trans (mul-le-mul_left a h) (mul-le-mul_right b h)

pub sq-suc : (q : ℕ) → (q + 1) * (q + 1) ≡ q * q + (q + q + 1)
sq-suc q = simp (mul-add, add-mul, one-mul, mul-one, add_assoc)

pub sq-lt : {a b : ℕ} → a < b → a * a < b * b
sq-lt {a} {b} h = go (sq-le {a = a + 1} {b = b} (le_trans (le_of_eq (add-one a)) h))
  where
    go : (a + 1) * (a + 1) ≤ b * b → a * a < b * b
    go k = omega (arith, sq-suc a)

-- of two numbers the one with the smaller square is the smaller
pub lt_of_sq-lt : {a b : ℕ} → a * a < b * b → a < b
lt_of_sq-lt {a} {b} h = lt_of_not-le (λ (g : b ≤ a). not-le_of_lt h (sq-le g))

pub sq-mul : (x c : ℕ) → x * c * (x * c) ≡ x * x * (c * c)
sq-mul x c = simp (mul_assoc, mul_left_comm)

pub sq-double : (r : ℕ) → (2 * r) * (2 * r) ≡ 4 * (r * r)
sq-double r = mul_assoc 2 r (2 * r) ∙ ap (λ (x : ℕ). 2 * x) (mul_left_comm r 2 r) ∙ sym (mul_assoc 2 2 (r * r))

-- an odd number's square is odd
pub odd-square : (r : ℕ) → (2 * r + 1) * (2 * r + 1) ≡ 4 * (r * r) + 4 * r + 1
odd-square r = omega (arith, sq-suc (2 * r), sq-double r)

-- ---- what `compare` says

abbrev pub Cmp : Ordering → ℕ → ℕ → Type 0
Cmp Ordering.lt a b = a < b
Cmp Ordering.eq a b = a ≡ b
Cmp Ordering.gt a b = b < a

pub cmp : (a b : ℕ) → Cmp (compare a b) a b
cmp a b = go (compare a b) (leb→le a b) (nleb→lt a b) (eqb→eq a b) (λ (e : a ≡ b). subst (λ (x : ℕ). T (eqb a x)) e (eqb_refl a))
  where
    go : (o : Ordering) → (T (is_le o) → a ≤ b) → (T (not (is_le o)) → b < a) → (T (compare_is_eq o) → a ≡ b) → (a ≡ b → T (compare_is_eq o)) → Cmp o a b
    go Ordering.lt h k e n = lt_of_le-ne (h tt) n
    go Ordering.eq h k e n = e tt
    go Ordering.gt h k e n = k tt

-- ---- `isqrt` is the root

-- r is the largest number whose square is at most n
pub record Root (n r : ℕ) : Type 0 where
  pub below : r * r ≤ n
  pub above : n < (r + 1) * (r + 1)

pick : (n r a : ℕ) → Root (n / 4) a → r ≡ 2 * a → Root n (cond (leb ((r + 1) * (r + 1)) n) (r + 1) r)
pick n r a h e = go (leb ((r + 1) * (r + 1)) n) (leb→le ((r + 1) * (r + 1)) n) (nleb→lt ((r + 1) * (r + 1)) n)
  where
    sq-r : r * r ≡ 4 * (a * a)
    sq-r = ap (λ (x : ℕ). x * x) e ∙ sq-double a

    lo : r * r ≤ n
    lo = omega (arith, sq-r, h.below)

    hi : n < (r + 1 + 1) * (r + 1 + 1)
    hi = omega (arith, sq-r, h.above, sq-suc a, sq-suc r, sq-suc (r + 1))

    go : (b : Bool) → (T b → (r + 1) * (r + 1) ≤ n) → (T (not b) → n < (r + 1) * (r + 1)) → Root n (cond b (r + 1) r)
    go true y z = record { below = y tt; above = hi }
    go false y z = record { below = lo; above = z tt }

quarter : (n p q : ℕ) → p ≡ q + q → n < p * p → n / 4 < q * q
quarter n p q e h = omega (arith, ap (λ (x : ℕ). x * x) (e ∙ sym (two-mul q)) ∙ sq-double q)

root_in-is : (d n : ℕ) → n < 2 ^ d * 2 ^ d → Root n (root_in d n)
unfolding root_in
root_in-is zero n h = record { below = omega arith; above = h }
root_in-is (suc d) n h = pick n (2 * root_in d (n / 4)) (root_in d (n / 4)) (root_in-is d (n / 4) (quarter n (2 ^ suc d) (2 ^ d) (two-pow-succ d) h)) refl

pub isqrt-is : (n : ℕ) → Root n (isqrt n)
unfolding isqrt
isqrt-is n = root_in-is (size n) n (lt_of_lt_of_le (size-lt n) (le_trans (le_of_eq (sym (one-mul (2 ^ size n)))) (mul-le-mul_right (2 ^ size n) (pow_pos (size n)))))

-- ---- orders of roots

pub root-le : (a n r : ℕ) → a * a ≤ n → Root n r → a ≤ r
root-le a n r h k = go (dec_le a r)
  where
    go : Dec (a ≤ r) → a ≤ r
    go (yes p) = p
    go (no f) = absurd (not-le_of_lt k.above (le_trans (sq-le (le_trans (le_of_eq (add-one r)) (lt_of_not-le f))) h))

pub root-lt : (a n r : ℕ) → n < a * a → Root n r → r < a
root-lt a n r h k = lt_of_sq-lt (omega (arith, k.below))

-- ---- the root of n cut to a multiple of c

pub record Cut (n c q : ℕ) : Type 0 where
  pub below : q * q * (c * c) ≤ n
  pub above : n < (q + 1) * (q + 1) * (c * c)

pub root-cut : (n c r : ℕ) → 0 < c → Root n r → Cut n c (r / c)
root-cut n c r C k =
    let q = r / c in
    let hi : r + 1 ≤ (q + 1) * c = le_trans (le_of_eq (add-one r)) (subst (λ (x : ℕ). r < x * c) (sym (add-one q)) ((div-lt_iff_lt-mul C).0 (le_refl (suc q)))) in
    record {
      below = le_trans (le_of_eq (sym (sq-mul q c))) (le_trans (sq-le (div-mul-le_self r c)) k.below);
      above = lt_of_lt_of_le k.above (le_trans (sq-le hi) (le_of_eq (sq-mul (q + 1) c)));
    }
