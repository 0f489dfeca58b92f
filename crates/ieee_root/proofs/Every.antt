-- The root of every value that the format holds, and no number of the format as near to it. Assumes nothing.
use Rattle.std.proofs.Common.{◌≡◌, ℕ, zero, suc, ◌+◌, ◌-◌, ◌*◌, ◌^◌, ◌<◌, false, T, ℤ, pos, sym, refl, ap, ◌∙◌, lt_of_le_of_lt, zero-lt-suc, mul-pos, zero-mul, arith, lt→ltb, pow_pos}
use lib.Ieee.{Float, fin, Format, low, up, down, fits}
use lib.Ieee.Positive.{value_pos}
use Rattle.ieee_root.specs.Sqrt.{sqrt_of, Held, Nearest, RootOf, SquareRoot}
use Rattle.ieee.proofs.Order.{plus_zero}
use Rattle.ieee_root.proofs.Integer.{sq-le}
use Rattle.ieee.proofs.Grid.{grid}
use Rattle.ieee_root.proofs.Nearest.{sqrt_nearest}

-- zero is farther than n, and so is what lies below zero
below-zero : (f : Format) (v : ℕ) (r : Float) (p : Nearest f v r) → 0 < v → (b : ℕ) → (p.n - b) * (p.n - b) < 4 * v
unfolding fits
below-zero f v r p h b = go p.n (λ (q : 0 < p.n). p.under plus_zero 0 (record { fit = tt; value = (refl, none) }) q)
  where
    none : 0 * up (pos 0) * 2 ^ low f ≡ 0 * down (pos 0)
    none = ap (λ (x : ℕ). x * 2 ^ low f) (zero-mul (up (pos 0))) ∙ zero-mul (2 ^ low f) ∙ sym (zero-mul (down (pos 0)))

    go : (n : ℕ) → (0 < n → (n + 0) * (n + 0) < 4 * v) → (n - b) * (n - b) < 4 * v
    go zero g = lt_of_le_of_lt (sq-le {a = 0 - b} {b = 0} (omega arith)) (omega arith)
    go (suc n) g = lt_of_le_of_lt (sq-le (omega arith)) (g (zero-lt-suc n))

-- IEEE 754's square_root: every case, and every competitor
pub sqrt_ieee : (f : Format) → SquareRoot f
unfolding sqrt_of
sqrt_ieee f = record {
  of_nan = refl;
  of-infinity = refl;
  of-minus-infinity = refl;
  of_zero = λ s e. refl;
  of_negative = λ m e. refl;
  of_positive = λ m e t. positive m e t;
  every = λ s m e t. let g = grid f s m e t in record { b = g.m * 2 ^ g.j; value = g.value };
}
  where
    positive : (m : ℕ) (e : ℤ) → T (fits f (fin false (suc m) e)) → RootOf f (fin false (suc m) e) (sqrt_of f (fin false (suc m) e))
    positive m e t =
        let x = fin false (suc m) e in
        let g = grid f false (suc m) e t in
        let a = g.m * 2 ^ g.j in
        let h : 0 < a = value_pos x a (2 ^ low f) (lt→ltb 0 (suc m) (zero-lt-suc m)) (pow_pos (low f)) g.value in
        let held : Held f x a = record { fit = t; value = g.value } in
        let root = sqrt_nearest f x a held h in
        record { a = a; some = h; held = held; root = root; opposite = λ b q. below-zero f (a * 2 ^ low f) (sqrt_of f x) root (mul-pos h (pow_pos (low f))) b }
