-- `le` on floats is an order on the values that are numbers. A finite value is its part above zero less its part below zero, and `le` compares both parts. Assumes nothing.
use mathlib.Core.Path.{◌≡◌, refl, sym, ap}
use mathlib.Core.Logic.{◌⊎◌, inl, inr}
use Prim.Native.Nat.{ℕ, ◌+◌, ◌*◌, ◌≤◌, ◌<◌, zero-le}
use native.Mathlib.Nat.{le_refl, le_of_eq, le_of_lt, eq-or-lt_of_le, eq-zero-or-pos, zero-mul}
use native.Mathlib.Omega.{arith}
use mathlib.Core.Bool.{Bool, true, false, not, ◌&&◌, ◌||◌, cond}
use lib.IntN.{ℤ, pos}
use lib.Dec.{T, ltb, eqb, eqb→eq, ltb→lt, lt→ltb}
use lib.Ieee.{Float, nan, inf, fin, up, down, below, level, is_nan, lt, le, binary64, of_bits}
use borrow.Author.Tests.{le-ltb}
use lib.Ieee.Fits.{and_l, and_r, and_i, eq→eqb, down_pos}
use lib.Ieee.Positive.{through}
use Rattle.ieee.proofs.Comparing.{or_l, or_r}

-- ---- Bool tests

or_split : (a b : Bool) → T (a || b) → T a ⊎ T b
or_split true b t = inl tt
or_split false b t = inr t

-- ---- the parts of ±a

abbrev above : Bool → ℕ → ℕ
above s a = cond s 0 a

abbrev beneath : Bool → ℕ → ℕ
beneath s a = cond s a 0

-- ±a ≤ ±b, by parts
pub record Parts (s : Bool) (a : ℕ) (t : Bool) (b : ℕ) : Type 0 where
  pub up : above s a ≤ above t b
  pub down : beneath t b ≤ beneath s a

parts_of : (s : Bool) (a : ℕ) (t : Bool) (b : ℕ) → T (below s a t b || level s a t b) → Parts s a t b
parts_of false a false b h = record { up = go (or_split (ltb a b) (eqb a b && true) h); down = le_refl 0 }
  where
    go : (T (ltb a b)) ⊎ (T (eqb a b && true)) → a ≤ b
    go (inl t) = le_of_lt (ltb→lt a b t)
    go (inr t) = le_of_eq (eqb→eq a b (and_l (eqb a b) true t))
parts_of false a true b h =
    let e : a ≡ b = eqb→eq a b (and_l (eqb a b) (eqb a 0) h) in
    let z : a ≡ 0 = eqb→eq a 0 (and_r (eqb a b) (eqb a 0) h) in
    record { up = omega arith; down = omega arith }
parts_of true a false b h = record { up = zero-le; down = zero-le }
parts_of true a true b h = record { up = le_refl 0; down = go (or_split (ltb b a) (eqb a b && true) h) }
  where
    go : (T (ltb b a)) ⊎ (T (eqb a b && true)) → b ≤ a
    go (inl t) = le_of_lt (ltb→lt b a t)
    go (inr t) = le_of_eq (sym (eqb→eq a b (and_l (eqb a b) true t)))

of_parts : (s : Bool) (a : ℕ) (t : Bool) (b : ℕ) → Parts s a t b → T (below s a t b || level s a t b)
of_parts false a false b p = elim (eq-or-lt_of_le p.up) [ inl e ↦ or_r (ltb a b) (eqb a b && true) (and_i (eqb a b) true (eq→eqb e) tt) | inr l ↦ or_l (ltb a b) (eqb a b && true) (lt→ltb a b l) ]
of_parts false a true b p = and_i (eqb a b) (eqb a 0) (eq→eqb {a = a} {b = b} (omega (arith, p.up, p.down))) (eq→eqb {a = a} {b = 0} (omega (arith, p.up)))
of_parts true a false b p =
    elim (eq-zero-or-pos (a + b)) [
      | inl e ↦ or_r (ltb 0 (a + b)) (eqb a b && eqb a 0) (and_i (eqb a b) (eqb a 0) (eq→eqb {a = a} {b = b} (omega arith)) (eq→eqb {a = a} {b = 0} (omega arith)))
      | inr l ↦ or_l (ltb 0 (a + b)) (eqb a b && eqb a 0) (lt→ltb 0 (a + b) l)
    ]
of_parts true a true b p = elim (eq-or-lt_of_le p.down) [ inl e ↦ or_r (ltb b a) (eqb a b && true) (and_i (eqb a b) true (eq→eqb (sym e)) tt) | inr l ↦ or_l (ltb b a) (eqb a b && true) (lt→ltb b a l) ]

-- ---- finite values

pub le_parts : (s : Bool) (m : ℕ) (e : ℤ) (t : Bool) (n : ℕ) (d : ℤ) → T (le (fin s m e) (fin t n d)) → Parts s (m * up e * down d) t (n * up d * down e)
unfolding le
le_parts s m e t n d h = parts_of s (m * up e * down d) t (n * up d * down e) h

pub parts-le : (s : Bool) (m : ℕ) (e : ℤ) (t : Bool) (n : ℕ) (d : ℤ) → Parts s (m * up e * down d) t (n * up d * down e) → T (le (fin s m e) (fin t n d))
unfolding le
parts-le s m e t n d p = of_parts s (m * up e * down d) t (n * up d * down e) p

-- three fractions with signs: ±a / p ≤ ±b / q ≤ ±c / r
parts_trans : (s t u : Bool) (a b c p q r : ℕ) → 0 < q → Parts s (a * q) t (b * p) → Parts t (b * r) u (c * q) → Parts s (a * r) u (c * p)
parts_trans s t u a b c p q r Q h k = record {
  up = put (above-mul s a r) (above-mul u c p) (through (above s a) (above t b) (above u c) p q r Q (get (above-mul s a q) (above-mul t b p) h.up) (get (above-mul t b r) (above-mul u c q) k.up));
  down = put (beneath-mul u c p) (beneath-mul s a r) (through (beneath u c) (beneath t b) (beneath s a) r q p Q (get (beneath-mul u c q) (beneath-mul t b r) k.down) (get (beneath-mul t b p) (beneath-mul s a q) h.down));
}
  where
    above-mul : (s : Bool) (a c : ℕ) → above s (a * c) ≡ above s a * c
    above-mul true a c = sym (zero-mul c)
    above-mul false a c = refl

    beneath-mul : (s : Bool) (a c : ℕ) → beneath s (a * c) ≡ beneath s a * c
    beneath-mul true a c = refl
    beneath-mul false a c = sym (zero-mul c)

    get : {x x' y y' : ℕ} → x ≡ x' → y ≡ y' → x ≤ y → x' ≤ y'
    get e g h = omega arith

    put : {x x' y y' : ℕ} → x ≡ x' → y ≡ y' → x' ≤ y' → x ≤ y
    put e g h = omega arith

-- ---- the laws

pub le_reflexive : (x : Float) → T (not (is_nan x)) → T (le x x)
unfolding le is_nan
le_reflexive nan h = absurd h
le_reflexive (inf true) h = tt
le_reflexive (inf false) h = tt
le_reflexive (fin s m e) h = of_parts s (m * up e * down e) s (m * up e * down e) (record { up = le_refl _; down = le_refl _ })

-- what is at least something is a number
pub le-number : (x y : Float) → T (le x y) → T (not (is_nan y))
unfolding le is_nan
le-number nan y h = absurd h
le-number (inf s) nan h = absurd h
le-number (inf s) (inf t) h = tt
le-number (inf s) (fin t n d) h = tt
le-number (fin s m e) nan h = absurd h
le-number (fin s m e) (inf t) h = tt
le-number (fin s m e) (fin t n d) h = tt

pub inf-least : (x : Float) → T (not (is_nan x)) → T (le (inf true) x)
unfolding le is_nan
inf-least nan h = absurd h
inf-least (inf true) h = tt
inf-least (inf false) h = tt
inf-least (fin s m e) h = tt

pub inf-most : (x : Float) → T (not (is_nan x)) → T (le x (inf false))
unfolding le is_nan
inf-most nan h = absurd h
inf-most (inf true) h = tt
inf-most (inf false) h = tt
inf-most (fin s m e) h = tt

pub le_transitive : (x y z : Float) → T (le x y) → T (le y z) → T (le x z)
unfolding le
le_transitive nan y z h k = absurd h
le_transitive (inf true) y z h k = inf-least z (le-number y z k)
le_transitive (inf false) nan z h k = absurd h
le_transitive (inf false) (inf true) z h k = absurd h
le_transitive (inf false) (inf false) z h k = k
le_transitive (inf false) (fin t n d) z h k = absurd h
le_transitive (fin s m e) nan z h k = absurd h
le_transitive (fin s m e) (inf true) z h k = absurd h
le_transitive (fin s m e) (inf false) nan h k = absurd k
le_transitive (fin s m e) (inf false) (inf true) h k = absurd k
le_transitive (fin s m e) (inf false) (inf false) h k = tt
le_transitive (fin s m e) (inf false) (fin u o i) h k = absurd k
le_transitive (fin s m e) (fin t n d) nan h k = absurd k
le_transitive (fin s m e) (fin t n d) (inf true) h k = absurd k
le_transitive (fin s m e) (fin t n d) (inf false) h k = tt
le_transitive (fin s m e) (fin t n d) (fin u o i) h k =
    parts-le s m e u o i
    (parts_trans s t u (m * up e) (n * up d) (o * up i) (down e) (down d) (down i) (down_pos d) (le_parts s m e t n d h) (le_parts t n d u o i k))

-- ---- the other comparison

not-above : (s : Bool) (a : ℕ) (t : Bool) (b : ℕ) → Parts s a t b → below t b s a ≡ false
not-above false a false b p = le-ltb b a p.up
not-above false a true b p = ap (λ (x : ℕ). ltb 0 x) (nothing b a p.down p.up)
  where
    nothing : (b a : ℕ) → b ≤ 0 → a ≤ 0 → b + a ≡ 0
    nothing b a h k = omega arith
not-above true a false b p = refl
not-above true a true b p = le-ltb a b p.down

pub le_not_lt : (x y : Float) → T (le x y) → lt y x ≡ false
unfolding lt le
le_not_lt nan y h = absurd h
le_not_lt (inf s) nan h = refl
le_not_lt (inf true) (inf true) h = refl
le_not_lt (inf true) (inf false) h = refl
le_not_lt (inf true) (fin t n d) h = refl
le_not_lt (inf false) (inf true) h = absurd h
le_not_lt (inf false) (inf false) h = refl
le_not_lt (inf false) (fin t n d) h = absurd h
le_not_lt (fin s m e) nan h = refl
le_not_lt (fin s m e) (inf true) h = absurd h
le_not_lt (fin s m e) (inf false) h = refl
le_not_lt (fin s m e) (fin t n d) h = not-above s (m * up e * down d) t (n * up d * down e) (le_parts s m e t n d h)

-- ---- zero

-- +0
abbrev pub plus_zero : Float
plus_zero = fin false 0 (pos 0)

pub zero_is : of_bits binary64 0 ≡ plus_zero
unfolding of_bits
zero_is = refl
