-- Bounds that later proofs cite: of `max` and `min`, of a value raised and then lowered, of a sum, a difference and a product of values above
-- zero. Assumes nothing.
use mathlib.Core.Path.{◌≡◌, refl, sym, ap, ◌∙◌, subst}
use Prim.Native.Nat.{ℕ, zero, suc, ◌+◌, ◌-◌, ◌*◌, ◌^◌, ◌≤◌, ◌<◌, zero-le}
use native.Mathlib.Nat.{le_refl, le_trans, le_of_eq, le-add_right, sub-le, mul-pos, mul-le-mul_left, mul-le-mul_right, mul-mul-mul_comm, mul_assoc, mul_comm}
use native.Mathlib.Omega.{arith}
use mathlib.Core.Bool.{Bool, true, false, not, cond}
use lib.IntN.{ℤ, pos}
use lib.Dec.{T, ltb, ltb→lt}
use borrow.Author.Tests.{ltb-false, ne_eqb}
use lib.Ieee.{Float, nan, inf, fin, Format, prec, emax, low, up, down, below, is_nan, lt, le, fits, odd, units, round, sum, neg, add, sub, mul}
use lib.Ieee.Fits.{down_pos}
use lib.Ieee.Exact.{HasValue, round_exact}
use lib.Ieee.Order.{le_of_values, round_mono}
use lib.Ieee.Positive.{positive}
use Rattle.lists.specs.Lists.{choose}
use Rattle.lists.proofs.Bools.{never}
use Rattle.ieee.specs.Basic.{negative, max_of, min_of}
use Rattle.ieee.proofs.Comparing.{or_l}
use Rattle.ieee.proofs.Order.{Parts, le_parts, parts-le, le_reflexive, le_transitive, le-number, inf-most}
use Rattle.ieee.proofs.Basic.{holds}
use Rattle.ieee.proofs.Grid.{grid}

-- ---- `lt` and `le`

pub no_nan : (x : Float) → is_nan x ≡ false → T (not (is_nan x))
no_nan x e = subst (λ (b : Bool). T (not b)) (sym e) tt

pub lt-le : (x y : Float) → lt x y ≡ true → T (le x y)
unfolding le
lt-le x y h = or_l (lt x y) _ (holds (lt x y) h)

flipped : (s : Bool) (a : ℕ) (t : Bool) (b : ℕ) → below s a t b ≡ false → Parts t b s a
flipped false a false b h = record { up = ltb-false a b h; down = le_refl 0 }
flipped false a true b h = record { up = omega arith; down = omega arith }
flipped true a false b h =
    let z : a + b ≤ 0 = ltb-false 0 (a + b) h in
    record { up = omega arith; down = omega arith }
flipped true a true b h = record { up = le_refl 0; down = ltb-false b a h }

-- of two numbers, the one that is not below the other is at least it
pub not-lt-le : (x y : Float) → T (not (is_nan x)) → T (not (is_nan y)) → lt x y ≡ false → T (le y x)
unfolding lt le is_nan
not-lt-le nan y p q h = absurd p
not-lt-le (inf s) nan p q h = absurd q
not-lt-le (inf true) (inf true) p q h = tt
not-lt-le (inf true) (inf false) p q h = never refl h
not-lt-le (inf false) (inf t) p q h = inf-most (inf t) tt
not-lt-le (inf true) (fin t n d) p q h = never refl h
not-lt-le (inf false) (fin t n d) p q h = tt
not-lt-le (fin s m e) nan p q h = absurd q
not-lt-le (fin s m e) (inf true) p q h = tt
not-lt-le (fin s m e) (inf false) p q h = never refl h
not-lt-le (fin s m e) (fin t n d) p q h = parts-le t n d s m e (flipped s (m * up e * down d) t (n * up d * down e) h)

-- ---- `max` and `min`: each is one of its operands, so what holds of both holds of it

pub max-either : (P : Float → Type 0) (x y : Float) → P x → P y → P (max_of x y)
unfolding max_of choose
max-either P x y p q = go (is_nan x) (is_nan y) (lt x y)
  where
    go : (a b c : Bool) → P (choose a y (choose b x (choose c y x)))
    go true b c = q
    go false true c = p
    go false false true = q
    go false false false = p

pub min-either : (P : Float → Type 0) (x y : Float) → P x → P y → P (min_of x y)
unfolding min_of choose
min-either P x y p q = go (is_nan x) (is_nan y) (lt y x)
  where
    go : (a b c : Bool) → P (choose a y (choose b x (choose c y x)))
    go true b c = q
    go false true c = p
    go false false true = q
    go false false false = p

pub max-right : (x y : Float) → T (not (is_nan y)) → T (le y (max_of x y))
unfolding max_of choose
max-right x y q = go (is_nan x) (is_nan y) (lt x y) refl refl refl
  where
    go : (a b c : Bool) → is_nan x ≡ a → is_nan y ≡ b → lt x y ≡ c → T (le y (choose a y (choose b x (choose c y x))))
    go true b c ex ey el = le_reflexive y q
    go false true c ex ey el = absurd (subst (λ (t : Bool). T (not t)) ey q)
    go false false true ex ey el = le_reflexive y q
    go false false false ex ey el = not-lt-le x y (no_nan x ex) q el

pub max-left : (x y : Float) → T (not (is_nan x)) → T (le x (max_of x y))
unfolding max_of choose
max-left x y p = go (is_nan x) (is_nan y) (lt x y) refl refl refl
  where
    go : (a b c : Bool) → is_nan x ≡ a → is_nan y ≡ b → lt x y ≡ c → T (le x (choose a y (choose b x (choose c y x))))
    go true b c ex ey el = absurd (subst (λ (t : Bool). T (not t)) ex p)
    go false true c ex ey el = le_reflexive x p
    go false false true ex ey el = lt-le x y el
    go false false false ex ey el = le_reflexive x p

pub min-right : (x y : Float) → T (not (is_nan y)) → T (le (min_of x y) y)
unfolding min_of choose
min-right x y q = go (is_nan x) (is_nan y) (lt y x) refl refl refl
  where
    go : (a b c : Bool) → is_nan x ≡ a → is_nan y ≡ b → lt y x ≡ c → T (le (choose a y (choose b x (choose c y x))) y)
    go true b c ex ey el = le_reflexive y q
    go false true c ex ey el = absurd (subst (λ (t : Bool). T (not t)) ey q)
    go false false true ex ey el = le_reflexive y q
    go false false false ex ey el = not-lt-le y x q (no_nan x ex) el

pub min-left : (x y : Float) → T (not (is_nan x)) → T (le (min_of x y) x)
unfolding min_of choose
min-left x y p = go (is_nan x) (is_nan y) (lt y x) refl refl refl
  where
    go : (a b c : Bool) → is_nan x ≡ a → is_nan y ≡ b → lt y x ≡ c → T (le (choose a y (choose b x (choose c y x))) x)
    go true b c ex ey el = absurd (subst (λ (t : Bool). T (not t)) ex p)
    go false true c ex ey el = le_reflexive x p
    go false false true ex ey el = lt-le y x el
    go false false false ex ey el = le_reflexive x p

-- what is raised to lo and then lowered to hi lies between them, whatever it was: a not-a-number too
pub raised_lowered : (t lo hi : Float) → T (le lo hi) → T (not (is_nan lo)) → T (le lo (min_of (max_of t lo) hi)) × T (le (min_of (max_of t lo) hi) hi)
raised_lowered t lo hi h q = (min-either (λ z. T (le lo z)) (max_of t lo) hi (max-right t lo q) h, min-right (max_of t lo) hi (le-number lo hi h))

-- ---- a value that a format holds is rounded to itself

own : (f : Format) (m : ℕ) (e : ℤ) → T (fits f (fin false m e)) → HasValue (round f false (m * up e) (down e)) false (m * up e) (down e)
own f m e t =
    let g = grid f false m e t in
    round_exact f false (m * up e) (down e) g.m g.j (down_pos e) g.short g.under g.value.1

-- x is a / c, and rounds to itself
above-own : (f : Format) (m : ℕ) (e : ℤ) (a c : ℕ) → T (fits f (fin false m e)) → 0 < c → m * up e * c ≤ a * down e → T (le (fin false m e) (round f false a c))
above-own f m e a c t C h =
    le_transitive (fin false m e) (round f false (m * up e) (down e)) (round f false a c)
    (le_of_values (fin false m e) (round f false (m * up e) (down e)) (m * up e) (down e) (m * up e) (down e) (down_pos e) (down_pos e) (refl, refl) (own f m e t) (le_refl (m * up e * down e)))
    (round_mono f (m * up e) (down e) a c (down_pos e) C h)

below-own : (f : Format) (m : ℕ) (e : ℤ) (a c : ℕ) → T (fits f (fin false m e)) → 0 < c → a * down e ≤ m * up e * c → T (le (round f false a c) (fin false m e))
below-own f m e a c t C h =
    le_transitive (round f false a c) (round f false (m * up e) (down e)) (fin false m e)
    (round_mono f a c (m * up e) (down e) C (down_pos e) h)
    (le_of_values (round f false (m * up e) (down e)) (fin false m e) (m * up e) (down e) (m * up e) (down e) (down_pos e) (down_pos e) (own f m e t) (refl, refl) (le_refl (m * up e * down e)))

-- ---- sums and differences of values above zero

ring : (a x d : ℕ) → a * (x * d) ≡ a * d * x
ring a x d = ap (λ (k : ℕ). a * k) (mul_comm x d) ∙ sym (mul_assoc a d x)

-- a sum is at least each of its parts
pub add-above : (f : Format) (x y : Float) → T (fits f x) → T (positive x) → T (positive y) → T (le x (add f x y))
unfolding add sum
add-above f nan y t p q = absurd p
add-above f (inf s) y t p q = absurd p
add-above f (fin true m e) y t p q = absurd p
add-above f (fin false m e) nan t p q = absurd q
add-above f (fin false m e) (inf s) t p q = absurd q
add-above f (fin false m e) (fin true n d) t p q = absurd q
add-above f (fin false m e) (fin false n d) t p q =
    above-own f m e (m * up e * down d + n * up d * down e) (down e * down d) t (mul-pos (down_pos e) (down_pos d))
    (le_trans (le_of_eq (ring (m * up e) (down e) (down d))) (mul-le-mul_right (down e) (le-add_right (m * up e * down d) (n * up d * down e))))

-- what has a minus is at most what has none
minus-le : (q : ℕ) (d : ℤ) (m : ℕ) (e : ℤ) → T (le (fin true q d) (fin false m e))
minus-le q d m e = parts-le true q d false m e (record { up = zero-le; down = zero-le })

odd-minus : (c q k l m : ℕ) (e : ℤ) → T (le (odd c true q k l) (fin false m e))
unfolding odd
odd-minus c zero k l m e = minus-le zero (pos 0) m e
odd-minus c (suc q) k l m e = minus-le _ _ m e

units-minus : (f : Format) (q k m : ℕ) (e : ℤ) → T (le (units f true q k) (fin false m e))
unfolding units le
units-minus f q k m e = go (ltb (q * 2 ^ k) (2 ^ (low f + suc (emax f))))
  where
    go : (b : Bool) → T (le (cond b (odd (suc (prec f)) true q k (low f)) (inf true)) (fin false m e))
    go true = odd-minus (suc (prec f)) q k (low f) m e
    go false = tt

round-minus : (f : Format) (a c m : ℕ) (e : ℤ) → T (le (round f true a c) (fin false m e))
unfolding round
round-minus f a c m e = units-minus f _ _ m e

-- a difference is at most what it is taken from
pub sub-below : (f : Format) (x y : Float) → T (fits f x) → T (positive x) → T (positive y) → T (le (sub f x y) x)
unfolding sub add neg sum
sub-below f nan y t p q = absurd p
sub-below f (inf s) y t p q = absurd p
sub-below f (fin true m e) y t p q = absurd p
sub-below f (fin false m e) nan t p q = absurd q
sub-below f (fin false m e) (inf s) t p q = absurd q
sub-below f (fin false m e) (fin true n d) t p q = absurd q
sub-below f (fin false m e) (fin false n d) t p q = go (ltb (m * up e * down d) (n * up d * down e))
  where
    go : (b : Bool) → T (le (cond b (round f true (n * up d * down e - m * up e * down d) (down e * down d)) (round f false (m * up e * down d - n * up d * down e) (down e * down d))) (fin false m e))
    go true = round-minus f (n * up d * down e - m * up e * down d) (down e * down d) m e
    go false =
        below-own f m e (m * up e * down d - n * up d * down e) (down e * down d) t (mul-pos (down_pos e) (down_pos d))
        (le_trans (mul-le-mul_right (down e) (sub-le (m * up e * down d) (n * up d * down e))) (le_of_eq (sym (ring (m * up e) (down e) (down d)))))

-- ---- a product grows with its second factor, from +0 up to an infinity

rounded-number : (f : Format) (a c : ℕ) → 0 < c → T (not (is_nan (round f false a c)))
rounded-number f a c C = le-number (round f false a c) (round f false a c) (round_mono f a c a c C C (le_refl (a * c)))

pub grown : (a u n d n' d' : ℕ) → n * d' ≤ n' * d → a * n * (u * d') ≤ a * n' * (u * d)
grown a u n d n' d' h =
    le_trans (le_of_eq (mul-mul-mul_comm a n u d')) (le_trans (mul-le-mul_left (a * u) h) (le_of_eq (sym (mul-mul-mul_comm a n' u d))))

times-inf : (f : Format) (m : ℕ) (e : ℤ) → 0 < m → mul f (fin false m e) (inf false) ≡ inf false
unfolding mul
times-inf f m e h = ap (λ (t : Bool). cond t nan (inf false)) (ne_eqb m 0 (λ (z : m ≡ 0). omega arith))

pub mul-grows : (f : Format) (x y z : Float) → T (positive x) → negative y ≡ false → negative z ≡ false → T (le y z) → T (le (mul f x y) (mul f x z))
unfolding mul le
mul-grows f nan y z p a b h = absurd p
mul-grows f (inf s) y z p a b h = absurd p
mul-grows f (fin true m e) y z p a b h = absurd p
mul-grows f (fin false m e) nan z p a b h = absurd h
mul-grows f (fin false m e) (inf true) z p a b h = never refl a
mul-grows f (fin false m e) (inf false) nan p a b h = absurd h
mul-grows f (fin false m e) (inf false) (inf true) p a b h = never refl b
mul-grows f (fin false m e) (inf false) (inf false) p a b h = subst (λ (w : Float). T (le w w)) (sym (times-inf f m e (ltb→lt 0 m p))) tt
mul-grows f (fin false m e) (inf false) (fin t n d) p a b h = absurd h
mul-grows f (fin false m e) (fin true n d) z p a b h = never refl a
mul-grows f (fin false m e) (fin false n d) nan p a b h = absurd h
mul-grows f (fin false m e) (fin false n d) (inf true) p a b h = never refl b
mul-grows f (fin false m e) (fin false n d) (inf false) p a b h =
    subst (λ (w : Float). T (le (round f false (m * up e * (n * up d)) (down e * down d)) w)) (sym (times-inf f m e (ltb→lt 0 m p)))
    (inf-most (round f false (m * up e * (n * up d)) (down e * down d)) (rounded-number f (m * up e * (n * up d)) (down e * down d) (mul-pos (down_pos e) (down_pos d))))
mul-grows f (fin false m e) (fin false n d) (fin true o i) p a b h = never refl b
mul-grows f (fin false m e) (fin false n d) (fin false o i) p a b h =
    round_mono f (m * up e * (n * up d)) (down e * down d) (m * up e * (o * up i)) (down e * down i) (mul-pos (down_pos e) (down_pos d)) (mul-pos (down_pos e) (down_pos i))
    (grown (m * up e) (down e) (n * up d) (down d) (o * up i) (down i) (le_parts false n d false o i h).up)
