-- What comparisons of floats say of their fractions: m * 2 ^ e is m * up e / down e, and `HasValue x s a c` says that x is a / c in size. Assumes nothing.
use Prim.Native.Nat.{ℕ, suc, ◌*◌, ◌%◌, ◌^◌, ◌≤◌, ◌<◌}
use mathlib.Core.Path.{◌≡◌, refl, sym, ap, ◌∙◌, subst}
use mathlib.Core.Bool.{Bool, true, false, not, ◌&&◌, ◌||◌}
use mathlib.Core.Logic.{⊎_elim}
use native.Mathlib.Nat.{mul_right_comm, mul-one, mul-le-mul_right, mul-lt-mul_of_pos_right, eq-or-lt_of_le}
use native.Mathlib.Omega.{arith}
use lib.IntN.{ℤ}
use lib.Dec.{T, leb, ltb, eqb, ltb→lt, leb→le}
use lib.Ieee.{Float, nan, inf, fin, Format, prec, low, up, down, lt, le, eq, ne, is_nan, fits}
use lib.Ieee.Fits.{down_pos, and_l, and_r}
use lib.Ieee.Exact.{HasValue}
use borrow.Author.Tests.{ltb-true, ltb-false, leb-true, leb-false, lt-ltb, le-ltb, eq-eqb, ne_eqb}
use Rattle.lists.proofs.Bools.{never}

pub holds : {b : Bool} → b ≡ true → T b
holds e = subst T (sym e) tt

pub or_l : (a b : Bool) → T a → T (a || b)
or_l true b t = tt
or_l false b t = absurd t

pub or_r : (a b : Bool) → T b → T (a || b)
or_r true b t = tt
or_r false b t = t

-- what equals itself is a number
pub number : (x : Float) → ne x x ≡ false → T (not (is_nan x))
unfolding ne is_nan
number nan h = never refl h
number (inf s) h = tt
number (fin s m e) h = tt

le-tests : (a b : ℕ) → (ltb a b || eqb a b && true) ≡ leb a b
le-tests a b = go (leb a b) refl
  where
    go : (t : Bool) → leb a b ≡ t → (ltb a b || eqb a b && true) ≡ t
    go false f = let l : b < a = leb-false a b f in rw (le-ltb a b (omega arith), ne_eqb a b (λ (e : a ≡ b). omega arith))
    go true t =
        ⊎_elim
        (λ (e : a ≡ b). rw (le-ltb a b (omega arith), eq-eqb a b e))
        (λ (l : a < b). rw (lt-ltb a b l))
        (eq-or-lt_of_le (leb-true a b t))

pub le-positive : (m n : ℕ) (e d : ℤ) → le (fin false m e) (fin false n d) ≡ leb (m * up e * down d) (n * up d * down e)
unfolding le lt eq
le-positive m n e d = le-tests (m * up e * down d) (n * up d * down e)

-- a value of the format has less than `prec` digits, and its exponent is not below the format's lowest
pub digits : (f : Format) (s : Bool) (m : ℕ) (e : ℤ) → T (fits f (fin s (suc m) e)) → (suc m < 2 ^ prec f) × (down e ≤ 2 ^ low f)
unfolding fits
digits f s m e t =
    let odd = eqb (suc m % 2) 1 in
    let few = ltb (suc m) (2 ^ prec f) in
    let deep = leb (down e) (2 ^ low f) in
    let h : T (odd && few && deep) = and_l (odd && few && deep) _ t in
    (ltb→lt (suc m) (2 ^ prec f) (and_r odd few (and_l (odd && few) deep h)), leb→le (down e) (2 ^ low f) (and_r (odd && few) deep h))

-- a whole number's float, compared
pub lt-whole : (z : Float) (u m : ℕ) (e : ℤ) → HasValue z false u 1 → lt z (fin false m e) ≡ ltb (u * down e) (m * up e)
unfolding lt
lt-whole nan u m e h = absurd h
lt-whole (inf s) u m e h = absurd h
lt-whole (fin true n d) u m e h = never (sym h.0) refl
lt-whole (fin false n d) u m e h = rw same (scaled (ltb (u * down e) (m * up e)) refl)
  where
    same : n * up d * down e ≡ u * down e * down d
    same = ap (λ (k : ℕ). k * down e) (sym (mul-one (n * up d)) ∙ h.1) ∙ mul_right_comm u (down d) (down e)

    scaled : (t : Bool) → ltb (u * down e) (m * up e) ≡ t → ltb (u * down e * down d) (m * up e * down d) ≡ t
    scaled true l = lt-ltb _ _ (mul-lt-mul_of_pos_right (ltb-true _ _ l) (down_pos d))
    scaled false l = le-ltb _ _ (mul-le-mul_right (down d) (ltb-false _ _ l))
