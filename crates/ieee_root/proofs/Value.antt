-- A finite value is a whole number of the format's smallest values, 2 ^ -low: the root by that number. Assumes nothing.
use Rattle.std.proofs.Common.{◌≡◌, ℕ, zero, suc, ◌*◌, ◌/◌, ◌^◌, ◌<◌, ◌≤◌, Bool, true, false, T, ltb, ℤ, sym, refl, ap, ◌∙◌, subst, true≢false, le_refl, lt_of_le_of_lt, lt_irrefl, zero-mul, mul-div_cancel}
use native.Mathlib.Nat.{eq_of_mul-eq-mul_right}
use lib.Pow.{pow-lt}
use lib.Ieee.{Float, nan, inf, fin, Format, prec, low, up, down, odd, units, fits}
use lib.Ieee.Fits.{down_pos, cond-fits, inf-fits, odd-fits}
use lib.Ieee.Exact.{HasValue}
use lib.Ieee.Scale.{overflow}
use Rattle.ieee.proofs.Grid.{grid}
use Rattle.ieee_root.specs.Sqrt.{sqrt_of, root_of, Held}

-- ---- the number of smallest values is one number

one_value : (x : Float) (s : Bool) (a b c : ℕ) → HasValue x s a c → HasValue x s b c → a ≡ b
one_value nan s a b c h k = absurd h
one_value (inf t) s a b c h k = absurd h
one_value (fin t m e) s a b c h k = eq_of_mul-eq-mul_right (down e) (down_pos e) a b (sym h.1 ∙ k.1)

-- of a number that is known
pub record Number (f : Format) (a : ℕ) : Type 0 where
  pub m : ℕ
  pub j : ℕ
  pub is : a ≡ m * 2 ^ j
  pub short : m < 2 ^ prec f
  pub under : a < overflow f

pub number : (f : Format) (x : Float) (a : ℕ) → Held f x a → Number f a
number f nan a h = absurd h.value
number f (inf s) a h = absurd h.value
number f (fin s m e) a h =
    let g = grid f s m e h.fit in
    let is : a ≡ g.m * 2 ^ g.j = one_value (fin s m e) s a (g.m * 2 ^ g.j) (2 ^ low f) (refl, h.value.1) g.value in
    record { m = g.m; j = g.j; is = is; short = g.short; under = subst (λ (y : ℕ). y < overflow f) (sym is) g.under }

-- ---- what `units` makes fits

pub units-fits : (f : Format) (q k : ℕ) → q ≤ 2 ^ prec f → q * 2 ^ k < overflow f → T (fits f (units f false q k))
unfolding units
units-fits f q k short fine =
    cond-fits f (ltb (q * 2 ^ k) (overflow f)) (odd (suc (prec f)) false q k (low f)) (inf false)
    (odd-fits f (suc (prec f)) false q k (lt_of_le_of_lt short (pow-lt (le_refl (suc (prec f))))) short fine)
    (inf-fits f false)

-- ---- the root of a value with a sign and a number

pub in_units : (f : Format) (m : ℕ) (e : ℤ) (a : ℕ) → m * up e * 2 ^ low f ≡ a * down e → m * up e * 2 ^ low f / down e ≡ a
in_units f m e a h = ap (λ (x : ℕ). x / down e) h ∙ mul-div_cancel a (down_pos e)

no_more : (u l d a : ℕ) → 0 < d → 0 * u * l ≡ a * d → a ≡ 0
no_more u l d a D h = eq_of_mul-eq-mul_right d D a 0 (sym h ∙ ap (λ (x : ℕ). x * l) (zero-mul u) ∙ zero-mul l ∙ sym (zero-mul d))

no_zero : (f : Format) (e : ℤ) (a : ℕ) → 0 < a → 0 * up e * 2 ^ low f ≡ a * down e → ⊥
no_zero f e a p h = lt_irrefl 0 (subst (λ (y : ℕ). 0 < y) (no_more (up e) (2 ^ low f) (down e) a (down_pos e) h) p)

pub sqrt-has : (f : Format) (x : Float) (a : ℕ) → 0 < a → HasValue x false a (2 ^ low f) → sqrt_of f x ≡ root_of f (a * 2 ^ low f)
unfolding sqrt_of
sqrt-has f nan a p h = absurd h
sqrt-has f (inf s) a p h = absurd h
sqrt-has f (fin true m e) a p h = absurd (true≢false h.0)
sqrt-has f (fin false zero e) a p h = absurd (no_zero f e a p h.1)
sqrt-has f (fin false (suc m) e) a p h = ap (λ (n : ℕ). root_of f (n * 2 ^ low f)) (in_units f (suc m) e a h.1)

pub sqrt-minus : (f : Format) (x : Float) (a : ℕ) → 0 < a → HasValue x true a (2 ^ low f) → sqrt_of f x ≡ nan
unfolding sqrt_of
sqrt-minus f nan a p h = absurd h
sqrt-minus f (inf s) a p h = absurd h
sqrt-minus f (fin false m e) a p h = absurd (true≢false (sym h.0))
sqrt-minus f (fin true zero e) a p h = absurd (no_zero f e a p h.1)
sqrt-minus f (fin true (suc m) e) a p h = refl
