-- The root is monotone: of two roots in the wrong order the squared sum would be below four times the smaller square and above four times the larger. Assumes nothing.
use Rattle.std.proofs.Common.{◌≡◌, ℕ, zero, suc, ◌+◌, ◌*◌, ◌^◌, ◌<◌, ◌≤◌, Bool, true, false, not, T, ℤ, pos, refl, ap, ◌∙◌, true≢false, zero-le, mul-le-mul_right, zero-lt-suc, add_comm, mul-pos, lt_of_not-le, zero-mul, arith, lt→ltb, pow_pos}
use native.Mathlib.Decide.{dec_le}
use lib.Ieee.{Float, nan, inf, fin, Format, low, up, down, is_nan, le, fits}
use lib.Ieee.Exact.{HasValue}
use lib.Ieee.Fits.{up_pos, down_pos}
use lib.Ieee.Order.{le_of_values}
use lib.Ieee.Positive.{value_pos, values_of_le}
use Rattle.ieee_root.specs.Sqrt.{sqrt_of, Nearest}
use Rattle.ieee.proofs.Order.{plus_zero, Parts, le_parts, parts-le, inf-most, le_transitive, le-number}
use Rattle.ieee.proofs.Grid.{grid}
use Rattle.ieee_root.proofs.Nearest.{sqrt_nearest}

-- ---- two roots

module _ (f : Format) (v w : ℕ) (x y : Float) (p : Nearest f v x) (q : Nearest f w y) where
  nearest_mono : v ≤ w → T (le x y)
  nearest_mono h =
      le_of_values x y p.n (2 ^ low f) q.n (2 ^ low f) (pow_pos (low f)) (pow_pos (low f)) p.held.value q.held.value (mul-le-mul_right (2 ^ low f) (go (dec_le p.n q.n)))
    where
      clash : (a b c d : ℕ) → a < 4 * c → 4 * d < b → a ≡ b → c ≤ d → ⊥
      clash a b c d h k e l = omega arith

      go : Dec (p.n ≤ q.n) → p.n ≤ q.n
      go (yes l) = l
      go (no g) =
          let l : q.n < p.n = lt_of_not-le g in
          absurd
          (clash ((p.n + q.n) * (p.n + q.n)) ((q.n + p.n) * (q.n + p.n)) v w
          (p.under y q.n q.held l) (q.over x p.n p.held l) (ap (λ (z : ℕ). z * z) (add_comm p.n q.n)) h)

-- ---- a positive value's root, with the number of smallest values of the value

record Rooted (f : Format) (x : Float) : Type 0 where
  pub a : ℕ
  pub value : HasValue x false a (2 ^ low f)
  pub root : Nearest f (a * 2 ^ low f) (sqrt_of f x)

rooted : (f : Format) (m : ℕ) (e : ℤ) → T (fits f (fin false (suc m) e)) → Rooted f (fin false (suc m) e)
rooted f m e t =
    let x = fin false (suc m) e in
    let g = grid f false (suc m) e t in
    let a = g.m * 2 ^ g.j in
    record { a = a; value = g.value; root = sqrt_nearest f x a (record { fit = t; value = g.value }) (value_pos x a (2 ^ low f) (lt→ltb 0 (suc m) (zero-lt-suc m)) (pow_pos (low f)) g.value) }

-- ---- a finite value is at least -0 and +0

has-number : (x : Float) (a c : ℕ) → HasValue x false a c → T (not (is_nan x))
unfolding is_nan
has-number nan a c h = absurd h
has-number (inf s) a c h = absurd h
has-number (fin s m e) a c h = tt

nothing : (u d : ℕ) → 0 * u * d ≡ 0
nothing u d = ap (λ (x : ℕ). x * d) (zero-mul u) ∙ zero-mul d

zero-parts : (s : Bool) (z b : ℕ) → z ≡ 0 → Parts s z false b
zero-parts true z b e = record { up = zero-le; down = zero-le }
zero-parts false z b e = record { up = omega arith; down = zero-le }

zeros : (s t : Bool) (a b : ℕ) → a ≡ 0 → b ≡ 0 → Parts s a t b
zeros true true a b e g = record { up = zero-le; down = omega arith }
zeros true false a b e g = record { up = zero-le; down = zero-le }
zeros false true a b e g = record { up = omega arith; down = omega arith }
zeros false false a b e g = record { up = omega arith; down = zero-le }

zero-below : (s : Bool) (e : ℤ) (x : Float) (a c : ℕ) → HasValue x false a c → T (le (fin s 0 e) x)
zero-below s e nan a c h = absurd h
zero-below s e (inf t) a c h = absurd h
zero-below s e (fin true n d) a c h = absurd (true≢false h.0)
zero-below s e (fin false n d) a c h = parts-le s 0 e false n d (zero-parts s (0 * up e * down d) (n * up d * down e) (nothing (up e) (down d)))

-- ---- no negative value is at least a zero, and no zero or negative value is at least a positive one

some : (m u d : ℕ) → 0 < u → 0 < d → 0 < suc m * u * d
some m u d U D = mul-pos (mul-pos (zero-lt-suc m) U) D

no-negative : (s : Bool) (e : ℤ) (n : ℕ) (d : ℤ) → T (le (fin s 0 e) (fin true (suc n) d)) → ⊥
no-negative s e n d h = go s (0 * up e * down d) (suc n * up d * down e) (nothing (up e) (down d)) (some n (up d) (down e) (up_pos d) (down_pos e)) (le_parts s 0 e true (suc n) d h)
  where
    go : (s : Bool) (z b : ℕ) → z ≡ 0 → 0 < b → Parts s z true b → ⊥
    go true z b e l p = omega (arith, p.down)
    go false z b e l p = omega (arith, p.down)

no_fall : (m : ℕ) (e : ℤ) (n : ℕ) (d : ℤ) → T (le (fin false (suc m) e) (fin true n d)) → ⊥
no_fall m e n d h = go (suc m * up e * down d) (n * up d * down e) (some m (up e) (down d) (up_pos e) (down_pos d)) (le_parts false (suc m) e true n d h)
  where
    go : (a b : ℕ) → 0 < a → Parts false a true b → ⊥
    go a b l p = omega (arith, p.up)

no_zero : (m : ℕ) (e d : ℤ) → T (le (fin false (suc m) e) (fin false 0 d)) → ⊥
no_zero m e d h = go (suc m * up e * down d) (0 * up d * down e) (some m (up e) (down d) (up_pos e) (down_pos d)) (nothing (up d) (down e)) (le_parts false (suc m) e false 0 d h)
  where
    go : (a b : ℕ) → 0 < a → b ≡ 0 → Parts false a false b → ⊥
    go a b l e p = omega (arith, p.up)

-- ---- the laws

pub sqrt_mono : (f : Format) (x y : Float) → T (fits f x) → T (fits f y) → T (le plus_zero x) → T (le x y) → T (le (sqrt_of f x) (sqrt_of f y))
unfolding le sqrt_of
sqrt_mono f nan y t u z h = absurd z
sqrt_mono f (inf true) y t u z h = absurd z
sqrt_mono f (inf false) nan t u z h = absurd h
sqrt_mono f (inf false) (inf true) t u z h = absurd h
sqrt_mono f (inf false) (inf false) t u z h = tt
sqrt_mono f (inf false) (fin i n d) t u z h = absurd h
sqrt_mono f (fin s zero e) nan t u z h = absurd h
sqrt_mono f (fin s zero e) (inf true) t u z h = absurd h
sqrt_mono f (fin s zero e) (inf false) t u z h = tt
sqrt_mono f (fin s zero e) (fin i zero d) t u z h = h
sqrt_mono f (fin s zero e) (fin true (suc n) d) t u z h = absurd (no-negative s e n d h)
sqrt_mono f (fin s zero e) (fin false (suc n) d) t u z h = let r = (rooted f n d u).root in zero-below s e (sqrt_of f (fin false (suc n) d)) r.n (2 ^ low f) r.held.value
sqrt_mono f (fin true (suc m) e) y t u z h = absurd (no-negative false (pos 0) m e z)
sqrt_mono f (fin false (suc m) e) nan t u z h = absurd h
sqrt_mono f (fin false (suc m) e) (inf true) t u z h = absurd h
sqrt_mono f (fin false (suc m) e) (inf false) t u z h = let r = (rooted f m e t).root in inf-most (sqrt_of f (fin false (suc m) e)) (has-number (sqrt_of f (fin false (suc m) e)) r.n (2 ^ low f) r.held.value)
sqrt_mono f (fin false (suc m) e) (fin true n d) t u z h = absurd (no_fall m e n d h)
sqrt_mono f (fin false (suc m) e) (fin false zero d) t u z h = absurd (no_zero m e d h)
sqrt_mono f (fin false (suc m) e) (fin false (suc n) d) t u z h =
    let x = fin false (suc m) e in
    let y = fin false (suc n) d in
    let p = rooted f m e t in
    let q = rooted f n d u in
    nearest_mono f (p.a * 2 ^ low f) (q.a * 2 ^ low f) (sqrt_of f x) (sqrt_of f y) p.root q.root
    (values_of_le x y p.a (2 ^ low f) q.a (2 ^ low f) (lt→ltb 0 (suc m) (zero-lt-suc m)) (lt→ltb 0 (suc n) (zero-lt-suc n)) p.value q.value h)

-- only a number that is at least zero has a root
pub sqrt-number : (f : Format) (x : Float) → T (not (is_nan (sqrt_of f x))) → T (le plus_zero x)
unfolding sqrt_of is_nan
sqrt-number f nan h = absurd h
sqrt-number f (inf true) h = absurd h
sqrt-number f (inf false) h = unfold le in tt
sqrt-number f (fin s zero e) h = parts-le false 0 (pos 0) s 0 e (zeros false s (0 * up (pos 0) * down e) (0 * up e * down (pos 0)) (nothing (up (pos 0)) (down e)) (nothing (up e) (down (pos 0))))
sqrt-number f (fin true (suc m) e) h = absurd h
sqrt-number f (fin false (suc m) e) h = zero-below false (pos 0) (fin false (suc m) e) (suc m * up e) (down e) (refl, refl)

-- a root stays at least w as its number grows: what is tested of one number then holds of all above it, whatever their signs
pub sqrt-at-least : (f : Format) (w x y : Float) → T (fits f x) → T (fits f y) → T (le x y) → T (le w (sqrt_of f x)) → T (le w (sqrt_of f y))
sqrt-at-least f w x y t u h k = le_transitive w (sqrt_of f x) (sqrt_of f y) k (sqrt_mono f x y t u (sqrt-number f x (le-number w (sqrt_of f x) k)) h)
