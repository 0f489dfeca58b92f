-- IEEE 754's square_root on binary32 and binary64, document 01's "IEEE square root, the nearest value, stated by comparing integer squares". Definitions only.
-- The result is the exact root, rounded once to the nearest value.
-- A root that is not exact has more digits than a format keeps and is never half way between two values, so no tie arises.
-- A nan, and a number below zero, have the root nan; a zero is its own root, sign and all; and the infinity above is its own.
use Rattle.std.specs.Prelude.{◌≡◌, ℕ, zero, suc, ◌+◌, ◌-◌, ◌*◌, ◌/◌, ◌^◌, ◌<◌, Bool, true, false, cond, T, ℤ, nat_le, Float}
use Prim.Native.Nat.{compare}
use Rattle.std.specs.Float.{nan, inf, fin, Format}
use Rattle.std.specs.Float.Ieee.{prec, low, up, down, size, nearest, units, fits}
use Rattle.std.specs.Float.Ieee.Exact.{HasValue}

-- the largest r with r * r ≤ n, for an n of at most d digits to the base 4: the root of n / 4, doubled, is it or one less
unfoldable pub root_in : ℕ → ℕ → ℕ
root_in zero n = zero
root_in (suc d) n = let r = 2 * root_in d (n / 4) in cond (nat_le ((r + 1) * (r + 1)) n) (r + 1) r

-- the largest r with r * r ≤ n, for any n
unfoldable pub isqrt : ℕ → ℕ
unfolding root_in size
isqrt n = root_in (size n) n

-- The value of the format f nearest to the root of v, a number of f's smallest values squared. Of the root's whole part the format keeps the `prec` leading
-- digits, q, and drops k: the result is q * 2 ^ k smallest values, or the next one up where the root is above (q + 1/2) * 2 ^ k, which two squares compare.
unfoldable pub root_of : Format → ℕ → Float
unfolding isqrt size units
root_of f v =
    let k = size (isqrt v) - prec f in
    let q = isqrt v / 2 ^ k in
    units f false (nearest q (compare (4 * v) ((2 * q + 1) * (2 * q + 1) * (2 ^ k * 2 ^ k)))) k

-- The root of x. Its size m * 2 ^ e is n = m * 2 ^ e * 2 ^ low smallest values, and so n * 2 ^ low smallest values squared.
unfoldable pub sqrt_of : Format → Float → Float
unfolding root_of
sqrt_of f nan = nan
sqrt_of f (inf true) = nan
sqrt_of f (inf false) = inf false
sqrt_of f (fin s zero e) = fin s zero e
sqrt_of f (fin true (suc m) e) = nan
sqrt_of f (fin false (suc m) e) = root_of f (suc m * up e * 2 ^ low f / down e * 2 ^ low f)

-- ---- what "nearest" means, by integer squares: the law `sqrt_nearest` says this of `sqrt_of`

-- the format f holds y, which is b of its smallest values in size and has no minus sign
pub record Held (f : Format) (y : Float) (b : ℕ) : Type 0 where
  pub fit : T (fits f y)
  pub value : HasValue y false b (2 ^ low f)

-- y is a whole number of smallest values, with the sign s
pub record Measured (f : Format) (y : Float) (s : Bool) : Type 0 where
  pub b : ℕ
  pub value : HasValue y s b (2 ^ low f)

-- r is the value of f nearest to the root of v smallest values squared, and no other is as near. With r of n smallest values and y of b, r is the nearer where the root lies
-- on r's side of the middle (n + b) / 2: below it where y is above r, and above it where y is below r. The doubles' squares say so: 4 * v and (n + b) * (n + b).
-- Numbers below zero are in `RootOf`; an infinity is farther than any number, and nan is none.
pub record Nearest (f : Format) (v : ℕ) (r : Float) : Type 0 where
  pub n : ℕ
  pub held : Held f r n
  pub over : (y : Float) (b : ℕ) → Held f y b → n < b → 4 * v < (n + b) * (n + b)
  pub under : (y : Float) (b : ℕ) → Held f y b → b < n → (n + b) * (n + b) < 4 * v

-- x is a number above 0, of a smallest values, and r is nearer to its root than any other number of the format: those with no minus sign by `root`, and −b by `opposite`, since
-- |√v − n| < √v + b where n − b < 2·√v
pub record RootOf (f : Format) (x r : Float) : Type 0 where
  pub a : ℕ
  pub some : 0 < a
  pub held : Held f x a
  pub root : Nearest f (a * 2 ^ low f) r
  pub opposite : (b : ℕ) → 0 < b → (root.n - b) * (root.n - b) < 4 * (a * 2 ^ low f)

-- IEEE 754's square_root, for every value that the format holds: the law `sqrt_ieee` says this of `sqrt_of`
pub record SquareRoot (f : Format) : Type 0 where
  pub of_nan : sqrt_of f nan ≡ nan
  pub of-infinity : sqrt_of f (inf false) ≡ inf false
  pub of-minus-infinity : sqrt_of f (inf true) ≡ nan
  pub of_zero : (s : Bool) (e : ℤ) → sqrt_of f (fin s 0 e) ≡ fin s 0 e
  pub of_negative : (m : ℕ) (e : ℤ) → sqrt_of f (fin true (suc m) e) ≡ nan
  pub of_positive : (m : ℕ) (e : ℤ) → T (fits f (fin false (suc m) e)) → RootOf f (fin false (suc m) e) (sqrt_of f (fin false (suc m) e))
  -- no number of the format is left out of the comparison: each is a whole number of smallest values, with its sign
  pub every : (s : Bool) (m : ℕ) (e : ℤ) → T (fits f (fin s m e)) → Measured f (fin s m e) s
