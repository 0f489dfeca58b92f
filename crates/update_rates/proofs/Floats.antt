-- How sums, differences, products and quotients of finite values with no minus keep the order, zero included. Assumes nothing.
use mathlib.Core.Path.{◌≡◌, refl, sym, ap, ◌∙◌, subst}
use mathlib.Core.Bool.{Bool, true, false, cond, true≢false}
use Prim.Native.Nat.{ℕ, zero, suc, ◌+◌, ◌-◌, ◌*◌, ◌^◌, ◌≤◌, ◌<◌, zero-le}
use native.Mathlib.Nat.{le_refl, le_trans, le_of_eq, le-add_right, sub-le, not-le_of_lt, mul_comm, mul_assoc, mul_left_comm, mul-sub, zero-mul, mul-pos, mul-le-mul_right, le_of_mul-le-mul_right}
use native.Mathlib.Omega.{arith}
use borrow.Author.Tests.{ltb-true, ltb-false, ne_eqb}
use lib.IntN.{ℤ, pos}
use lib.Dec.{T, ltb, eqb, ltb→lt, lt→ltb}
use lib.Pow.{pow_pos, pow-lt}
use lib.Ieee.{Float, nan, inf, fin, Format, prec, emax, low, up, down, round, sum, neg, add, sub, mul, div, lt, le, is_nan, fits}
use lib.Ieee.Fits.{two, up_pos, down_pos}
use lib.Ieee.Exact.{HasValue, round_exact}
use lib.Ieee.Order.{le_of_values, round_mono}
use lib.Ieee.Back.{round_whole}
use lib.Ieee.Positive.{positive, positive_of_value, between}
use Rattle.ieee.proofs.Order.{le_transitive, le_parts, parts-le}
use Rattle.ieee.proofs.Sign.{round-neg}
use Rattle.ieee.proofs.Grid.{grid}
use Rattle.ieee_lanes.proofs.Order.{Plus, Finite, round-plus}

-- ---- a value that a format holds is rounded to itself
module _ (f : Format) where
  own : (m : ℕ) (e : ℤ) → T (fits f (fin false m e)) → HasValue (round f false (m * up e) (down e)) false (m * up e) (down e)
  own m e t =
      let g = grid f false m e t in
      round_exact f false (m * up e) (down e) g.m g.j (down_pos e) g.short g.under g.value.1

  above-own : (m : ℕ) (e : ℤ) (a c : ℕ) → T (fits f (fin false m e)) → 0 < c → m * up e * c ≤ a * down e → T (le (fin false m e) (round f false a c))
  above-own m e a c t C h =
      le_transitive (fin false m e) (round f false (m * up e) (down e)) (round f false a c)
      (le_of_values (fin false m e) (round f false (m * up e) (down e)) (m * up e) (down e) (m * up e) (down e) (down_pos e) (down_pos e) (refl, refl) (own m e t) (le_refl (m * up e * down e)))
      (round_mono f (m * up e) (down e) a c (down_pos e) C h)

  below-own : (m : ℕ) (e : ℤ) (a c : ℕ) → T (fits f (fin false m e)) → 0 < c → a * down e ≤ m * up e * c → T (le (round f false a c) (fin false m e))
  below-own m e a c t C h =
      le_transitive (round f false a c) (round f false (m * up e) (down e)) (fin false m e)
      (round_mono f a c (m * up e) (down e) C (down_pos e) h)
      (le_of_values (round f false (m * up e) (down e)) (fin false m e) (m * up e) (down e) (m * up e) (down e) (down_pos e) (down_pos e) (own m e t) (refl, refl) (le_refl (m * up e * down e)))

-- ---- order
pub cross : (m : ℕ) (e : ℤ) (n : ℕ) (d : ℤ) → T (le (fin false m e) (fin false n d)) → m * up e * down d ≤ n * up d * down e
cross m e n d h = (le_parts false m e false n d h).up

pub cross-lt : (m : ℕ) (e : ℤ) (n : ℕ) (d : ℤ) → lt (fin false m e) (fin false n d) ≡ true → m * up e * down d < n * up d * down e
unfolding lt
cross-lt m e n d h = ltb-true _ _ h

-- what has no minus and is at most a finite value is finite
pub finite-below : (x : Float) (m : ℕ) (e : ℤ) → Plus x → T (le x (fin false m e)) → Finite x
finite-below nan m e p h = absurd (unfold is_nan in p.number)
finite-below (inf true) m e p h = absurd (true≢false p.sign)
finite-below (inf false) m e p h = absurd (unfold le in h)
finite-below (fin true n d) m e p h = absurd (true≢false p.sign)
finite-below (fin false n d) m e p h = record { m = n; e = d; is = refl }

-- ---- sums
ring : (a x d : ℕ) → a * (x * d) ≡ a * d * x
ring a x d = ap (λ (k : ℕ). a * k) (mul_comm x d) ∙ sym (mul_assoc a d x)

-- a sum is at least its first part, and its second
pub add-over : (f : Format) (m : ℕ) (e : ℤ) (n : ℕ) (d : ℤ) → T (fits f (fin false m e)) → T (le (fin false m e) (add f (fin false m e) (fin false n d)))
unfolding add sum
add-over f m e n d t =
    above-own f m e (m * up e * down d + n * up d * down e) (down e * down d) t (mul-pos (down_pos e) (down_pos d))
    (le_trans (le_of_eq (ring (m * up e) (down e) (down d))) (mul-le-mul_right (down e) (le-add_right (m * up e * down d) (n * up d * down e))))

second : (N M e d : ℕ) → N * (e * d) ≤ (M * d + N * e) * d
second N M e d = le_trans (le_of_eq (sym (mul_assoc N e d))) (mul-le-mul_right d (let p : N * e ≤ M * d + N * e = omega arith in p))

pub add-over-second : (f : Format) (m : ℕ) (e : ℤ) (n : ℕ) (d : ℤ) → T (fits f (fin false n d)) → T (le (fin false n d) (add f (fin false m e) (fin false n d)))
unfolding add sum
add-over-second f m e n d t =
    above-own f n d (m * up e * down d + n * up d * down e) (down e * down d) t (mul-pos (down_pos e) (down_pos d)) (second (n * up d) (m * up e) (down e) (down d))

-- ---- differences
pick : (f : Format) (a b c : ℕ) → b ≤ a → sum f false a true b c ≡ round f false (a - b) c
unfolding sum
pick f a b c h = go (ltb a b) (ltb→lt a b)
  where
    go : (t : Bool) → (T t → a < b) → cond t (round f true (b - a) c) (round f false (a - b) c) ≡ round f false (a - b) c
    go true k = absurd (not-le_of_lt (k tt) h)
    go false k = refl

pub sub_is : (f : Format) (m : ℕ) (e : ℤ) (n : ℕ) (d : ℤ) → T (le (fin false n d) (fin false m e)) → sub f (fin false m e) (fin false n d) ≡ round f false (m * up e * down d - n * up d * down e) (down e * down d)
unfolding sub add neg
sub_is f m e n d h = pick f (m * up e * down d) (n * up d * down e) (down e * down d) (cross n d m e h)

-- x - y is at most x
pub sub-under : (f : Format) (m : ℕ) (e : ℤ) (n : ℕ) (d : ℤ) → T (fits f (fin false m e)) → T (le (fin false n d) (fin false m e)) → T (le (sub f (fin false m e) (fin false n d)) (fin false m e))
sub-under f m e n d t h =
    subst (λ (z : Float). T (le z (fin false m e))) (sym (sub_is f m e n d h))
    (below-own f m e (m * up e * down d - n * up d * down e) (down e * down d) t (mul-pos (down_pos e) (down_pos d))
    (le_trans (mul-le-mul_right (down e) (sub-le (m * up e * down d) (n * up d * down e))) (le_of_eq (sym (ring (m * up e) (down e) (down d))))))

-- what has a minus is at most what has none
minus-le : (x : Float) (m : ℕ) (e : ℤ) → Plus x → T (le (neg x) (fin false m e))
unfolding neg
minus-le nan m e p = absurd (unfold is_nan in p.number)
minus-le (inf true) m e p = absurd (true≢false p.sign)
minus-le (inf false) m e p = unfold le in tt
minus-le (fin true n d) m e p = absurd (true≢false p.sign)
minus-le (fin false n d) m e p = parts-le true n d false m e (record { up = zero-le; down = zero-le })

-- x - y is at most x, whichever is the greater
pub sub-below : (f : Format) (m : ℕ) (e : ℤ) (n : ℕ) (d : ℤ) → T (fits f (fin false m e)) → T (le (sub f (fin false m e) (fin false n d)) (fin false m e))
unfolding sub add neg sum
sub-below f m e n d t = go (ltb (m * up e * down d) (n * up d * down e))
  where
    go : (b : Bool) → T (le (cond b (round f true (n * up d * down e - m * up e * down d) (down e * down d)) (round f false (m * up e * down d - n * up d * down e) (down e * down d))) (fin false m e))
    go true = subst (λ (z : Float). T (le z (fin false m e))) (sym (round-neg f false (n * up d * down e - m * up e * down d) (down e * down d))) (minus-le (round f false (n * up d * down e - m * up e * down d) (down e * down d)) m e (round-plus f _ _))
    go false =
        below-own f m e (m * up e * down d - n * up d * down e) (down e * down d) t (mul-pos (down_pos e) (down_pos d))
        (le_trans (mul-le-mul_right (down e) (sub-le (m * up e * down d) (n * up d * down e))) (le_of_eq (sym (ring (m * up e) (down e) (down d)))))

less : (p q r s : ℕ) → p ≤ r → q ≡ s → p - q ≤ r - s
less p q r s h e = omega arith

-- C / g - B / s ≤ A / t - B / s for C / g ≤ A / t
grows : (A t B s C g : ℕ) → C * t ≤ A * g → (C * s - B * g) * (t * s) ≤ (A * s - B * t) * (g * s)
grows A t B s C g h =
    let a : t * s * (C * s) ≤ g * s * (A * s) = simp (mul_assoc, mul_comm, mul_left_comm) (simp (mul_assoc, mul_comm, mul_left_comm) at (mul-le-mul_right (s * s) h)) in
    let b : t * s * (B * g) ≡ g * s * (B * t) = simp (mul_assoc, mul_comm, mul_left_comm) in
    le_trans (le_of_eq (mul_comm (C * s - B * g) (t * s) ∙ mul-sub (t * s) (C * s) (B * g)))
    (le_trans (less (t * s * (C * s)) (t * s * (B * g)) (g * s * (A * s)) (g * s * (B * t)) a b)
    (le_of_eq (sym (mul_comm (A * s - B * t) (g * s) ∙ mul-sub (g * s) (A * s) (B * t)))))

-- a difference grows with what it is taken from
pub sub-grows : (f : Format) (m : ℕ) (e : ℤ) (p : ℕ) (q : ℤ) (n : ℕ) (d : ℤ) → T (le (fin false n d) (fin false p q)) → T (le (fin false p q) (fin false m e))
    → T (le (sub f (fin false p q) (fin false n d)) (sub f (fin false m e) (fin false n d)))
sub-grows f m e p q n d h k =
    subst (λ (z : Float). T (le z (sub f (fin false m e) (fin false n d)))) (sym (sub_is f p q n d h))
    (subst (λ (z : Float). T (le (round f false (p * up q * down d - n * up d * down q) (down q * down d)) z)) (sym (sub_is f m e n d (le_transitive _ (fin false p q) _ h k)))
    (round_mono f (p * up q * down d - n * up d * down q) (down q * down d) (m * up e * down d - n * up d * down e) (down e * down d) (mul-pos (down_pos q) (down_pos d)) (mul-pos (down_pos e) (down_pos d))
    (grows (m * up e) (down e) (n * up d) (down d) (p * up q) (down q) (cross p q m e k))))

-- ---- a difference of two values that differ is no zero: both are whole numbers of the least value
least-gap : (A t B s Z x y : ℕ) → 0 < Z → A * Z ≡ x * t → B * Z ≡ y * s → B * t < A * s → 1 * (t * s) ≤ (A * s - B * t) * Z
least-gap A t B s Z x y z ea eb h =
    let p : A * s * Z ≡ x * (t * s) = simp (mul_assoc, mul_comm, mul_left_comm) (simp (mul_assoc, mul_comm) at (ap (λ (k : ℕ). k * s) ea)) in
    let q : B * t * Z ≡ y * (t * s) = simp (mul_assoc, mul_comm, mul_left_comm) (simp (mul_assoc, mul_comm, mul_left_comm) at (ap (λ (k : ℕ). k * t) eb)) in
    let gap : y < x = go (ltb y x) refl p q in
    le_trans (mul-le-mul_right (t * s) (let o : 1 ≤ x - y = omega arith in o))
    (le_of_eq (mul_comm (x - y) (t * s) ∙ mul-sub (t * s) x y ∙ (λ i. mul_comm (t * s) x i - mul_comm (t * s) y i) ∙ (λ i. sym p i - sym q i) ∙ (λ i. mul_comm (A * s) Z i - mul_comm (B * t) Z i) ∙ sym (mul-sub Z (A * s) (B * t)) ∙ mul_comm Z (A * s - B * t)))
  where
    go : (b : Bool) → ltb y x ≡ b → A * s * Z ≡ x * (t * s) → B * t * Z ≡ y * (t * s) → y < x
    go true e p q = ltb-true y x e
    go false e p q =
        let k : x ≤ y = ltb-false y x e in
        let m : A * s * Z ≤ B * t * Z = le_trans (le_of_eq p) (le_trans (mul-le-mul_right (t * s) k) (le_of_eq (sym q))) in
        let r : A * s ≤ B * t = le_of_mul-le-mul_right m z in
        absurd (not-le_of_lt h r)

small : (f : Format) → T (positive (round f false 1 (2 ^ low f)))
small f =
    positive_of_value (round f false 1 (2 ^ low f)) 1 (2 ^ low f)
    (round_exact f false 1 (2 ^ low f) 1 0 (pow_pos (low f)) (pow-lt (let p : 0 < prec f = omega (arith, two f) in p)) (pow-lt (let p : 0 < low f + suc (emax f) = omega arith in p)) refl)
    (omega arith)

pub sub-positive : (f : Format) (m : ℕ) (e : ℤ) (n : ℕ) (d : ℤ) → T (fits f (fin false m e)) → T (fits f (fin false n d)) → T (le (fin false n d) (fin false m e)) → lt (fin false n d) (fin false m e) ≡ true → T (positive (sub f (fin false m e) (fin false n d)))
sub-positive f m e n d t u h l =
    let g = grid f false m e t in
    let k = grid f false n d u in
    let c : n * up d * down e < m * up e * down d = cross-lt n d m e l in
    let a : T (le (round f false 1 (2 ^ low f)) (sub f (fin false m e) (fin false n d))) =
    subst (λ (z : Float). T (le (round f false 1 (2 ^ low f)) z)) (sym (sub_is f m e n d h))
    (round_mono f 1 (2 ^ low f) (m * up e * down d - n * up d * down e) (down e * down d) (pow_pos (low f)) (mul-pos (down_pos e) (down_pos d))
    (least-gap (m * up e) (down e) (n * up d) (down d) (2 ^ low f) (g.m * 2 ^ g.j) (k.m * 2 ^ k.j) (pow_pos (low f)) g.value.1 k.value.1 c)) in
    between (round f false 1 (2 ^ low f)) (sub f (fin false m e) (fin false n d)) (fin false m e) (small f) (some m (up e) (down d) (n * up d * down e) c) a (sub-under f m e n d t h)
  where
    some : (m u w r : ℕ) → r < m * u * w → T (ltb 0 m)
    some zero u w r l = absurd (let z : zero * u * w ≡ zero = ap (λ (k : ℕ). k * w) (zero-mul u) ∙ zero-mul w in omega (arith, l, z))
    some (suc k) u w r l = lt→ltb 0 (suc k) (omega arith)

-- ---- products
-- below one times x is at most x
pub mul-under : (f : Format) (m : ℕ) (e : ℤ) (n : ℕ) (d : ℤ) → T (fits f (fin false n d)) → m * up e ≤ down e → T (le (mul f (fin false m e) (fin false n d)) (fin false n d))
unfolding mul
mul-under f m e n d t h =
    below-own f n d (m * up e * (n * up d)) (down e * down d) t (mul-pos (down_pos e) (down_pos d))
    (let a : m * up e * (n * up d) * down d ≤ n * up d * (down e * down d) = simp (mul_assoc, mul_comm, mul_left_comm) (simp (mul_assoc, mul_comm, mul_left_comm) at (mul-le-mul_right (n * up d * down d) h)) in a)

-- ---- quotients
-- x / y is at most 1 for x at most y
pub div-under : (f : Format) (m : ℕ) (e : ℤ) (n : ℕ) (d : ℤ) → 0 < n → T (le (fin false m e) (fin false n d)) → T (le (div f (fin false m e) (fin false n d)) (fin false 1 (pos 0)))
unfolding div
div-under f m e n d p h =
    subst (λ (t : Bool). T (le (cond t (cond (eqb m 0) nan (inf false)) (round f false (m * up e * down d) (n * up d * down e))) (fin false 1 (pos 0)))) (sym (ne_eqb n 0 (λ z. absurd (omega (arith, p, z)))))
    (le_transitive (round f false (m * up e * down d) (n * up d * down e)) (round f false 1 1) (fin false 1 (pos 0))
    (round_mono f (m * up e * down d) (n * up d * down e) 1 1 (mul-pos (mul-pos p (up_pos d)) (down_pos e)) (omega arith) (let c = cross m e n d h in omega (arith, c)))
    (le_of_values (round f false 1 1) (fin false 1 (pos 0)) 1 1 1 1 (omega arith) (omega arith) (round_whole f false 1 (omega (arith, pow_pos (prec f)))) (refl, refl) (omega arith)))
