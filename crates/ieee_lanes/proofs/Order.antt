-- How sums, products, quotients, roots and differences of values that are not negative keep the order. Each is a fraction that is rounded once, so the
-- order of the fractions is that of the results (`round_mono`); an infinity above is at least everything. Assumes nothing.
use mathlib.Core.Path.{◌≡◌, refl, sym, ap, ◌∙◌, subst}
use Prim.Native.Nat.{ℕ, zero, suc, ◌+◌, ◌-◌, ◌*◌, ◌^◌, ◌≤◌, ◌<◌, zero-le}
use native.Mathlib.Nat.{le_trans, le_of_eq, mul-pos, mul_comm, mul_assoc, mul_left_comm, mul-mul-mul_comm, mul-le-mul_right, mul-le-mul_left, mul-sub}
use native.Mathlib.Omega.{arith}
use mathlib.Core.Bool.{Bool, true, false, not, cond, true≢false}
use lib.IntN.{ℤ, pos}
use lib.Dec.{T, ltb, eqb, ltb→lt, lt→ltb}
use borrow.Author.Tests.{ltb-true, ltb-false, le-ltb, ne_eqb}
use lib.Ieee.{Float, nan, inf, fin, Format, prec, emax, low, up, down, is_nan, lt, le, odd, units, round, sum, neg, add, sub, mul, div, binary64, of_bits}
use lib.Ieee.Fits.{up_pos, down_pos}
use lib.Ieee.Order.{round_mono}
use lib.Ieee.Positive.{positive}
use Rattle.lists.proofs.Bools.{never}
use Rattle.lists.specs.Lists.{zero64}
use Rattle.ieee.specs.Basic.{one64, abs_of, max_of, min_of, negative}
use Rattle.ieee_root.specs.Sqrt.{root_of, sqrt_of}
use Rattle.ieee.proofs.Order.{plus_zero, le_parts, parts-le, le_transitive, le-number, le_not_lt, inf-most}
use Rattle.ieee.proofs.Basic.{lt-left, lt-right}
use Rattle.ieee.proofs.Bounds.{not-lt-le, max-either, min-either, max-left, max-right, min-left, min-right, no_nan, grown}
use Rattle.ieee.proofs.Sign.{round-neg}

-- what is at most something is a number
pub number-left : (x y : Float) → T (le x y) → T (not (is_nan x))
unfolding le is_nan
number-left nan y h = absurd h
number-left (inf s) y h = tt
number-left (fin s m e) y h = tt

-- a number with no minus sign: +0, above zero, or the infinity above
pub record Plus (x : Float) : Type 0 where
  pub number : T (not (is_nan x))
  pub sign : negative x ≡ false

-- the same, with no infinity
pub record Finite (x : Float) : Type 0 where
  pub m : ℕ
  pub e : ℤ
  pub is : x ≡ fin false m e

pub finite-plus : (x : Float) → Finite x → Plus x
unfolding is_nan
finite-plus x h = subst Plus (sym h.is) (record { number = tt; sign = refl })

pub positive-finite : (x : Float) → T (positive x) → Finite x
positive-finite nan p = absurd p
positive-finite (inf s) p = absurd p
positive-finite (fin true m e) p = absurd p
positive-finite (fin false m e) p = record { m = m; e = e; is = refl }

-- ---- `lt` and `le`

pub lt_of_lt_of_le : (x y z : Float) → lt x y ≡ true → T (le y z) → lt x z ≡ true
lt_of_lt_of_le x y z h k = go (lt x z) refl
  where
    go : (b : Bool) → lt x z ≡ b → lt x z ≡ true
    go true e = e
    go false e = never h (le_not_lt y x (le_transitive y z x k (not-lt-le x z (no_nan x (lt-left x y h)) (le-number y z k) e)))

pub lt_of_le_of_lt : (x y z : Float) → T (le x y) → lt y z ≡ true → lt x z ≡ true
lt_of_le_of_lt x y z h k = go (lt x z) refl
  where
    go : (b : Bool) → lt x z ≡ b → lt x z ≡ true
    go true e = e
    go false e = never k (le_not_lt z y (le_transitive z x y (not-lt-le x z (number-left x y h) (no_nan z (lt-right y z k)) e) h))

-- what has no minus is at least +0
pub plus-above : (x : Float) → Plus x → T (le plus_zero x)
plus-above nan p = absurd (unfold is_nan in p.number)
plus-above (inf true) p = never refl p.sign
plus-above (inf false) p = unfold le in tt
plus-above (fin true m e) p = never refl p.sign
plus-above (fin false m e) p = parts-le false 0 (pos 0) false m e (record { up = omega arith; down = zero-le })

-- ---- what rounding gives has the sign that it is told, and is a number

odd_sign : (d : ℕ) (s : Bool) (q k l : ℕ) → negative (odd d s q k l) ≡ s
unfolding odd
odd_sign d s zero k l = refl
odd_sign d s (suc q) k l = refl

odd_number : (d : ℕ) (s : Bool) (q k l : ℕ) → T (not (is_nan (odd d s q k l)))
unfolding odd is_nan
odd_number d s zero k l = tt
odd_number d s (suc q) k l = tt

pub units-plus : (f : Format) (q k : ℕ) → Plus (units f false q k)
unfolding units is_nan
units-plus f q k = go (ltb (q * 2 ^ k) (2 ^ (low f + suc (emax f))))
  where
    go : (b : Bool) → Plus (cond b (odd (suc (prec f)) false q k (low f)) (inf false))
    go true = record { number = odd_number (suc (prec f)) false q k (low f); sign = odd_sign (suc (prec f)) false q k (low f) }
    go false = record { number = tt; sign = refl }

pub round-plus : (f : Format) (a c : ℕ) → Plus (round f false a c)
unfolding round
round-plus f a c = units-plus f _ _

-- ---- sums

pub add-plus : (f : Format) (x y : Float) → Plus x → Plus y → Plus (add f x y)
unfolding add sum is_nan
add-plus f nan y p q = absurd p.number
add-plus f (inf true) y p q = never refl p.sign
add-plus f (inf false) nan p q = absurd q.number
add-plus f (inf false) (inf true) p q = never refl q.sign
add-plus f (inf false) (inf false) p q = p
add-plus f (inf false) (fin t n d) p q = p
add-plus f (fin true m e) y p q = never refl p.sign
add-plus f (fin false m e) nan p q = absurd q.number
add-plus f (fin false m e) (inf t) p q = q
add-plus f (fin false m e) (fin true n d) p q = never refl q.sign
add-plus f (fin false m e) (fin false n d) p q = round-plus f (m * up e * down d + n * up d * down e) (down e * down d)

-- (X / x + Y / y) ≤ (X' / x' + Y' / y') for X / x ≤ X' / x' and Y / y ≤ Y' / y'
sums : (X x Y y X' x' Y' y' : ℕ) → X * x' ≤ X' * x → Y * y' ≤ Y' * y → (X * y + Y * x) * (x' * y') ≤ (X' * y' + Y' * x') * (x * y)
sums X x Y y X' x' Y' y' h k =
    let a : X * y * (x' * y') ≤ X' * y' * (x * y) =
    le_trans (le_of_eq (mul-mul-mul_comm X y x' y')) (le_trans (mul-le-mul_right (y * y') h) (le_of_eq (ap (λ (z : ℕ). X' * x * z) (mul_comm y y') ∙ mul-mul-mul_comm X' x y' y))) in
    let b : Y * x * (x' * y') ≤ Y' * x' * (x * y) =
    le_trans (le_of_eq (ap (λ (z : ℕ). Y * x * z) (mul_comm x' y') ∙ mul-mul-mul_comm Y x y' x')) (le_trans (mul-le-mul_right (x * x') k) (le_of_eq (ap (λ (z : ℕ). Y' * y * z) (mul_comm x x') ∙ mul-mul-mul_comm Y' y x' x ∙ ap (λ (z : ℕ). Y' * x' * z) (mul_comm y x)))) in
    omega (arith, a, b)

add-finite : (f : Format) (m : ℕ) (e : ℤ) (n : ℕ) (d : ℤ) (m' : ℕ) (e' : ℤ) (n' : ℕ) (d' : ℤ) → T (le (fin false m e) (fin false m' e')) → T (le (fin false n d) (fin false n' d'))
    → T (le (add f (fin false m e) (fin false n d)) (add f (fin false m' e') (fin false n' d')))
unfolding add sum
add-finite f m e n d m' e' n' d' h k =
    round_mono f (m * up e * down d + n * up d * down e) (down e * down d) (m' * up e' * down d' + n' * up d' * down e') (down e' * down d')
    (mul-pos (down_pos e) (down_pos d)) (mul-pos (down_pos e') (down_pos d'))
    (sums (m * up e) (down e) (n * up d) (down d) (m' * up e') (down e') (n' * up d') (down d') (le_parts false m e false m' e' h).up (le_parts false n d false n' d' k).up)

pub add-grows : (f : Format) (x y x' y' : Float) → Plus x → Plus y → Plus x' → Plus y' → T (le x x') → T (le y y') → T (le (add f x y) (add f x' y'))
add-grows f x y nan y' p q p' q' h k = absurd (unfold is_nan in p'.number)
add-grows f x y (inf true) y' p q p' q' h k = never refl p'.sign
add-grows f x y (inf false) nan p q p' q' h k = absurd (unfold is_nan in q'.number)
add-grows f x y (inf false) (inf true) p q p' q' h k = never refl q'.sign
add-grows f x y (inf false) (inf false) p q p' q' h k = unfold add in inf-most (add f x y) (add-plus f x y p q).number
add-grows f x y (inf false) (fin t n d) p q p' q' h k = unfold add in inf-most (add f x y) (add-plus f x y p q).number
add-grows f x y (fin true m' e') y' p q p' q' h k = never refl p'.sign
add-grows f x y (fin false m' e') nan p q p' q' h k = absurd (unfold is_nan in q'.number)
add-grows f x y (fin false m' e') (inf true) p q p' q' h k = never refl q'.sign
add-grows f x y (fin false m' e') (inf false) p q p' q' h k = unfold add in inf-most (add f x y) (add-plus f x y p q).number
add-grows f x y (fin false m' e') (fin true n' d') p q p' q' h k = never refl q'.sign
add-grows f nan y (fin false m' e') (fin false n' d') p q p' q' h k = absurd (unfold is_nan in p.number)
add-grows f (inf true) y (fin false m' e') (fin false n' d') p q p' q' h k = never refl p.sign
add-grows f (inf false) y (fin false m' e') (fin false n' d') p q p' q' h k = absurd (unfold le in h)
add-grows f (fin true m e) y (fin false m' e') (fin false n' d') p q p' q' h k = never refl p.sign
add-grows f (fin false m e) nan (fin false m' e') (fin false n' d') p q p' q' h k = absurd (unfold is_nan in q.number)
add-grows f (fin false m e) (inf true) (fin false m' e') (fin false n' d') p q p' q' h k = never refl q.sign
add-grows f (fin false m e) (inf false) (fin false m' e') (fin false n' d') p q p' q' h k = absurd (unfold le in k)
add-grows f (fin false m e) (fin true n d) (fin false m' e') (fin false n' d') p q p' q' h k = never refl q.sign
add-grows f (fin false m e) (fin false n d) (fin false m' e') (fin false n' d') p q p' q' h k = add-finite f m e n d m' e' n' d' h k

-- ---- products with a value that has no minus and is no infinity

pub mul-plus : (f : Format) (x y : Float) → Finite x → Finite y → Plus (mul f x y)
unfolding mul
mul-plus f x y p q = subst (λ (z : Float). Plus (mul f z y)) (sym p.is) (subst (λ (z : Float). Plus (mul f (fin false p.m p.e) z)) (sym q.is) (round-plus f _ _))

mul-finite : (f : Format) (m : ℕ) (e : ℤ) (n : ℕ) (d : ℤ) (n' : ℕ) (d' : ℤ) → T (le (fin false n d) (fin false n' d')) → T (le (mul f (fin false m e) (fin false n d)) (mul f (fin false m e) (fin false n' d')))
unfolding mul
mul-finite f m e n d n' d' h =
    round_mono f (m * up e * (n * up d)) (down e * down d) (m * up e * (n' * up d')) (down e * down d') (mul-pos (down_pos e) (down_pos d)) (mul-pos (down_pos e) (down_pos d'))
    (grown (m * up e) (down e) (n * up d) (down d) (n' * up d') (down d') (le_parts false n d false n' d' h).up)

pub mul-rises : (f : Format) (x y z : Float) → Finite x → Finite y → Finite z → T (le y z) → T (le (mul f x y) (mul f x z))
mul-rises f x y z p q r h =
    λ-free p.m p.e q.m q.e r.m r.e p.is q.is r.is h
  where
    λ-free : (m : ℕ) (e : ℤ) (n : ℕ) (d : ℤ) (n' : ℕ) (d' : ℤ) → x ≡ fin false m e → y ≡ fin false n d → z ≡ fin false n' d' → T (le y z) → T (le (mul f x y) (mul f x z))
    λ-free m e n d n' d' a b c h = rw (a, b, c) (mul-finite f m e n d n' d' (rw (b, c) at h))

-- ---- quotients: the larger the divisor, the smaller

quotients : (M u N n N' n' : ℕ) → N * n' ≤ N' * n → M * n' * (N * u) ≤ M * n * (N' * u)
quotients M u N n N' n' h =
    le_trans (le_of_eq (turn M n' N u)) (le_trans (mul-le-mul_left (M * u) h) (le_of_eq (sym (turn M n N' u))))
  where
    turn : (M n N u : ℕ) → M * n * (N * u) ≡ M * u * (N * n)
    turn M n N u = ap (λ (z : ℕ). M * n * z) (mul_comm N u) ∙ mul-mul-mul_comm M n u N ∙ ap (λ (z : ℕ). M * u * z) (mul_comm n N)

div_is : (f : Format) (m : ℕ) (e : ℤ) (n : ℕ) (d : ℤ) → 0 < n → div f (fin false m e) (fin false n d) ≡ round f false (m * up e * down d) (n * up d * down e)
unfolding div
div_is f m e n d h = ap (λ (b : Bool). cond b (cond (eqb m 0) nan (inf false)) (round f false (m * up e * down d) (n * up d * down e))) (ne_eqb n 0 (λ (z : n ≡ 0). omega arith))

pub div-plus : (f : Format) (x y : Float) → Finite x → T (positive y) → Plus (div f x y)
div-plus f x nan p q = absurd q
div-plus f x (inf s) p q = absurd q
div-plus f x (fin true n d) p q = absurd q
div-plus f x (fin false n d) p q =
    subst (λ (z : Float). Plus (div f z (fin false n d))) (sym p.is) (subst Plus (sym (div_is f p.m p.e n d (ltb→lt 0 n q))) (round-plus f _ _))

pub div-falls : (f : Format) (x y z : Float) → Finite x → T (positive y) → T (positive z) → T (le y z) → T (le (div f x z) (div f x y))
div-falls f x nan z p q r h = absurd q
div-falls f x (inf s) z p q r h = absurd q
div-falls f x (fin true n d) z p q r h = absurd q
div-falls f x (fin false n d) nan p q r h = absurd r
div-falls f x (fin false n d) (inf s) p q r h = absurd r
div-falls f x (fin false n d) (fin true n' d') p q r h = absurd r
div-falls f x (fin false n d) (fin false n' d') p q r h =
    let y = fin false n d in
    let z = fin false n' d' in
    let m = p.m in
    let e = p.e in
    let a = div_is f m e n d (ltb→lt 0 n q) in
    let b = div_is f m e n' d' (ltb→lt 0 n' r) in
    subst (λ (w : Float). T (le (div f w z) (div f w y))) (sym p.is)
    (subst (λ (w : Float). T (le w (div f (fin false m e) y))) (sym b)
    (subst (λ (w : Float). T (le (round f false (m * up e * down d') (n' * up d' * down e)) w)) (sym a)
    (round_mono f (m * up e * down d') (n' * up d' * down e) (m * up e * down d) (n * up d * down e)
    (mul-pos (mul-pos (ltb→lt 0 n' r) (up_pos d')) (down_pos e)) (mul-pos (mul-pos (ltb→lt 0 n q) (up_pos d)) (down_pos e))
    (quotients (m * up e) (down e) (n * up d) (down d) (n' * up d') (down d') (le_parts false n d false n' d' h).up))))

-- ---- roots

pub sqrt-plus : (f : Format) (x : Float) → Plus x → Plus (sqrt_of f x)
unfolding sqrt_of root_of is_nan
sqrt-plus f nan p = absurd p.number
sqrt-plus f (inf true) p = never refl p.sign
sqrt-plus f (inf false) p = p
sqrt-plus f (fin true m e) p = never refl p.sign
sqrt-plus f (fin false zero e) p = record { number = tt; sign = refl }
sqrt-plus f (fin false (suc m) e) p = units-plus f _ _

-- ---- a value raised to lo and lowered to hi

pub max-rises : (x y lo : Float) → T (le x y) → T (not (is_nan lo)) → T (le (max_of x lo) (max_of y lo))
max-rises x y lo h l = max-either (λ z. T (le z (max_of y lo))) x lo (le_transitive x y (max_of y lo) h (max-left y lo (le-number x y h))) (max-right y lo l)

pub min-rises : (x y hi : Float) → T (not (is_nan x)) → T (le x y) → T (not (is_nan hi)) → T (le (min_of x hi) (min_of y hi))
min-rises x y hi n h l = min-either (λ z. T (le (min_of x hi) z)) y hi (le_transitive (min_of x hi) x y (min-left x hi n) h) (min-right x hi l)

-- ---- how far a value is from t, on either side of it

-- |x - t|, by the fraction
abs-round : (f : Format) (a c : ℕ) → abs_of (round f true a c) ≡ round f false a c
abs-round f a c = ap abs_of (round-neg f false a c) ∙ undone (round f false a c) (round-plus f a c)
  where
    undone : (x : Float) → Plus x → abs_of (neg x) ≡ x
    undone nan p = absurd (unfold is_nan in p.number)
    undone (inf true) p = never refl p.sign
    undone (inf false) p = unfold abs_of neg in refl
    undone (fin true m e) p = never refl p.sign
    undone (fin false m e) p = unfold abs_of neg in refl

abs-plus : (x : Float) → Plus x → abs_of x ≡ x
abs-plus nan p = absurd (unfold is_nan in p.number)
abs-plus (inf true) p = never refl p.sign
abs-plus (inf false) p = unfold abs_of in refl
abs-plus (fin true m e) p = never refl p.sign
abs-plus (fin false m e) p = unfold abs_of in refl

sum_is : (f : Format) (a b c : ℕ) → sum f false a true b c ≡ cond (ltb a b) (round f true (b - a) c) (round f false (a - b) c)
unfolding sum
sum_is f a b c = refl

sum_over : (f : Format) (a b c : ℕ) → b ≤ a → abs_of (sum f false a true b c) ≡ round f false (a - b) c
sum_over f a b c h = ap abs_of (sum_is f a b c ∙ ap (λ (t : Bool). cond t (round f true (b - a) c) (round f false (a - b) c)) (le-ltb a b h)) ∙ abs-plus (round f false (a - b) c) (round-plus f (a - b) c)

sum-under : (f : Format) (a b c : ℕ) → a ≤ b → abs_of (sum f false a true b c) ≡ round f false (b - a) c
sum-under f a b c h = ap abs_of (sum_is f a b c) ∙ go (ltb a b) refl
  where
    none : (a b : ℕ) → a ≤ b → b ≤ a → a - b ≡ b - a
    none a b h k = omega arith

    go : (t : Bool) → ltb a b ≡ t → abs_of (cond t (round f true (b - a) c) (round f false (a - b) c)) ≡ round f false (b - a) c
    go true e = abs-round f (b - a) c
    go false e = abs-plus (round f false (a - b) c) (round-plus f (a - b) c) ∙ ap (λ (n : ℕ). round f false n c) (none a b h (ltb-false a b e))

sub_is : (f : Format) (m : ℕ) (e : ℤ) (n : ℕ) (d : ℤ) → sub f (fin false m e) (fin false n d) ≡ sum f false (m * up e * down d) true (n * up d * down e) (down e * down d)
unfolding sub add neg
sub_is f m e n d = refl

less : (p q r s : ℕ) → p ≤ r → s ≤ q → p - q ≤ r - s
less p q r s h k = omega arith

-- X / x - Y / y ≤ X' / x' - Y / y for X / x ≤ X' / x'
over : (X x X' x' Y y : ℕ) → X * x' ≤ X' * x → (X * y - Y * x) * (x' * y) ≤ (X' * y - Y * x') * (x * y)
over X x X' x' Y y h =
    let a : x' * y * (X * y) ≤ x * y * (X' * y) = simp (mul_assoc, mul_left_comm) (simp (mul_assoc, mul_comm) at (mul-le-mul_right (y * y) h)) in
    let b : x * y * (Y * x') ≡ x' * y * (Y * x) = simp (mul_assoc, mul_comm, mul_left_comm) in
    le_trans (le_of_eq (mul_comm (X * y - Y * x) (x' * y) ∙ mul-sub (x' * y) (X * y) (Y * x)))
    (le_trans (less (x' * y * (X * y)) (x' * y * (Y * x)) (x * y * (X' * y)) (x * y * (Y * x')) a (le_of_eq b))
    (le_of_eq (sym (mul_comm (X' * y - Y * x') (x * y) ∙ mul-sub (x * y) (X' * y) (Y * x')))))

-- Y / y - X / x ≤ Y / y - X' / x' for X' / x' ≤ X / x
under : (X x X' x' Y y : ℕ) → X' * x ≤ X * x' → (Y * x - X * y) * (x' * y) ≤ (Y * x' - X' * y) * (x * y)
under X x X' x' Y y h =
    let a : x * y * (X' * y) ≤ x' * y * (X * y) = simp (mul_assoc, mul_left_comm) (simp (mul_assoc, mul_comm) at (mul-le-mul_right (y * y) h)) in
    let b : x' * y * (Y * x) ≡ x * y * (Y * x') = simp (mul_assoc, mul_comm, mul_left_comm) in
    le_trans (le_of_eq (mul_comm (Y * x - X * y) (x' * y) ∙ mul-sub (x' * y) (Y * x) (X * y)))
    (le_trans (less (x' * y * (Y * x)) (x' * y * (X * y)) (x * y * (Y * x')) (x * y * (X' * y)) (le_of_eq b) a)
    (le_of_eq (sym (mul_comm (Y * x' - X' * y) (x * y) ∙ mul-sub (x * y) (Y * x') (X' * y)))))

module _ (f : Format) (n : ℕ) (d : ℤ) where
  abbrev t : Float
  t = fin false n d

  above-finite : (m : ℕ) (e : ℤ) (m' : ℕ) (e' : ℤ) → T (le t (fin false m e)) → T (le (fin false m e) (fin false m' e')) → T (le (abs_of (sub f (fin false m e) t)) (abs_of (sub f (fin false m' e') t)))
  above-finite m e m' e' h k =
      let x = fin false m e in
      let x' = fin false m' e' in
      let a : abs_of (sub f x t) ≡ round f false (m * up e * down d - n * up d * down e) (down e * down d) = ap abs_of (sub_is f m e n d) ∙ sum_over f _ _ _ (le_parts false n d false m e h).up in
      let b : abs_of (sub f x' t) ≡ round f false (m' * up e' * down d - n * up d * down e') (down e' * down d) = ap abs_of (sub_is f m' e' n d) ∙ sum_over f _ _ _ (le_parts false n d false m' e' (le_transitive t x x' h k)).up in
      rw (a, b) (round_mono f _ _ _ _ (mul-pos (down_pos e) (down_pos d)) (mul-pos (down_pos e') (down_pos d)) (over (m * up e) (down e) (m' * up e') (down e') (n * up d) (down d) (le_parts false m e false m' e' k).up))

  below-finite : (m : ℕ) (e : ℤ) (m' : ℕ) (e' : ℤ) → T (le (fin false m e) t) → T (le (fin false m' e') (fin false m e)) → T (le (abs_of (sub f (fin false m e) t)) (abs_of (sub f (fin false m' e') t)))
  below-finite m e m' e' h k =
      let x = fin false m e in
      let x' = fin false m' e' in
      let a : abs_of (sub f x t) ≡ round f false (n * up d * down e - m * up e * down d) (down e * down d) = ap abs_of (sub_is f m e n d) ∙ sum-under f _ _ _ (le_parts false m e false n d h).up in
      let b : abs_of (sub f x' t) ≡ round f false (n * up d * down e' - m' * up e' * down d) (down e' * down d) = ap abs_of (sub_is f m' e' n d) ∙ sum-under f _ _ _ (le_parts false m' e' false n d (le_transitive x' x t k h)).up in
      rw (a, b) (round_mono f _ _ _ _ (mul-pos (down_pos e) (down_pos d)) (mul-pos (down_pos e') (down_pos d)) (under (m * up e) (down e) (m' * up e') (down e') (n * up d) (down d) (le_parts false m' e' false m e k).up))

  finite_number : (m : ℕ) (e : ℤ) → T (not (is_nan (abs_of (sub f (fin false m e) t))))
  finite_number m e = go (ltb (m * up e * down d) (n * up d * down e)) refl
    where
      is : (a b c : ℕ) (v : Bool) → ltb a b ≡ v → Plus (abs_of (sum f false a true b c))
      is a b c true h = subst Plus (sym (sum-under f a b c (omega (arith, ltb-true a b h)))) (round-plus f (b - a) c)
      is a b c false h = subst Plus (sym (sum_over f a b c (ltb-false a b h))) (round-plus f (a - b) c)

      go : (v : Bool) → ltb (m * up e * down d) (n * up d * down e) ≡ v → T (not (is_nan (abs_of (sub f (fin false m e) t))))
      go v h = rw (sub_is f m e n d) (is _ _ _ v h).number

  -- above t, the larger is the farther
  pub farther-above : (x x' : Float) → Plus x → Plus x' → T (le t x) → T (le x x') → T (le (abs_of (sub f x t)) (abs_of (sub f x' t)))
  farther-above nan x' q p h k = absurd (unfold is_nan in q.number)
  farther-above (inf true) x' q p h k = never refl q.sign
  farther-above (inf false) nan q p h k = absurd (unfold is_nan in p.number)
  farther-above (inf false) (inf true) q p h k = never refl p.sign
  farther-above (inf false) (inf false) q p h k = unfold sub add neg abs_of le in tt
  farther-above (inf false) (fin s m' e') q p h k = absurd (unfold le in k)
  farther-above (fin true m e) x' q p h k = never refl q.sign
  farther-above (fin false m e) nan q p h k = absurd (unfold is_nan in p.number)
  farther-above (fin false m e) (inf true) q p h k = never refl p.sign
  farther-above (fin false m e) (inf false) q p h k = to-infinity (abs_of (sub f (fin false m e) t)) (finite_number m e)
    where
      to-infinity : (z : Float) → T (not (is_nan z)) → T (le z (abs_of (sub f (inf false) t)))
      to-infinity z h = unfold sub add neg abs_of in inf-most z h
  farther-above (fin false m e) (fin true m' e') q p h k = never refl p.sign
  farther-above (fin false m e) (fin false m' e') q p h k = above-finite m e m' e' h k

  -- and below t the smaller
  pub farther-below : (x x' : Float) → Plus x → Plus x' → T (le x t) → T (le x' x) → T (le (abs_of (sub f x t)) (abs_of (sub f x' t)))
  farther-below nan x' q p h k = absurd (unfold is_nan in q.number)
  farther-below (inf true) x' q p h k = never refl q.sign
  farther-below (inf false) x' q p h k = absurd (unfold le in h)
  farther-below (fin true m e) x' q p h k = never refl q.sign
  farther-below (fin false m e) nan q p h k = absurd (unfold is_nan in p.number)
  farther-below (fin false m e) (inf true) q p h k = never refl p.sign
  farther-below (fin false m e) (inf false) q p h k = absurd (unfold le in k)
  farther-below (fin false m e) (fin true m' e') q p h k = never refl p.sign
  farther-below (fin false m e) (fin false m' e') q p h k = below-finite m e m' e' h k

-- ---- values that tests find

-- 1 / v is above 0 only where v is +0 or above it, and no infinity
pub finite_of_inverse : (v : Float) → lt zero64 (div binary64 one64 v) ≡ true → Finite v
unfolding lt div of_bits
finite_of_inverse nan h = never h refl
finite_of_inverse (inf true) h = never h refl
finite_of_inverse (inf false) h = never h refl
finite_of_inverse (fin true n d) h = absurd (clash (eqb n 0) h)
  where
    minus : (a c : ℕ) → negative (round binary64 true a c) ≡ true
    minus a c = ap negative (round-neg binary64 false a c) ∙ turned (round binary64 false a c) (round-plus binary64 a c)
      where
        turned : (x : Float) → Plus x → negative (neg x) ≡ true
        turned nan p = absurd (unfold is_nan in p.number)
        turned (inf true) p = never refl p.sign
        turned (inf false) p = unfold neg in refl
        turned (fin true m e) p = never refl p.sign
        turned (fin false m e) p = unfold neg in refl

    not-above : (x : Float) → negative x ≡ true → lt zero64 x ≡ true → ⊥
    not-above nan e h = absurd (true≢false (sym e))
    not-above (inf true) e h = absurd (true≢false (sym h))
    not-above (inf false) e h = absurd (true≢false (sym e))
    not-above (fin true m e') e h = absurd (true≢false (sym h))
    not-above (fin false m e') e h = absurd (true≢false (sym e))

    clash : (b : Bool) → lt zero64 (cond b (inf true) (round binary64 true (1 * up (pos 0) * down d) (n * up d * down (pos 0)))) ≡ true → ⊥
    clash true h = absurd (true≢false (sym h))
    clash false h = not-above (round binary64 true (1 * up (pos 0) * down d) (n * up d * down (pos 0))) (minus (1 * up (pos 0) * down d) (n * up d * down (pos 0))) h
finite_of_inverse (fin false n d) h = record { m = n; e = d; is = refl }

-- above 0 and below the infinity
pub positive_of-tests : (x : Float) → lt zero64 x ≡ true → lt x (inf false) ≡ true → T (positive x)
unfolding lt of_bits
positive_of-tests nan h k = never h refl
positive_of-tests (inf true) h k = never h refl
positive_of-tests (inf false) h k = never k refl
positive_of-tests (fin true m e) h k = never h refl
positive_of-tests (fin false zero e) h k = absurd (omega (arith, ltb-true (0 * 1 * down e) (0 * up e * 1) h))
positive_of-tests (fin false (suc m) e) h k = lt→ltb 0 (suc m) (omega arith)
