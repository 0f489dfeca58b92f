-- Two rounded means with the same weights, brought into 0 to 1: they are no further apart than the exact means, but for 2 ^ -(prec - 2) for each weight. Assumes nothing.
use mathlib.Core.Path.{◌≡◌, refl, sym, ap, ◌∙◌, subst}
use mathlib.Core.Bool.{Bool, true, false, not}
use Prim.Native.Nat.{ℕ, suc, ◌+◌, ◌-◌, ◌*◌, ◌^◌, ◌≤◌, ◌<◌, min}
use native.Mathlib.Nat.{le_trans, le_of_eq, add-mul, mul-le-mul_right}
use native.Mathlib.Omega.{arith}
use native.Mathlib.Decide.{dec_le}
use lib.Dec.{T}
use lib.Pow.{pow_pos}
use lib.Ieee.{Float, nan, inf, fin, Format, prec, low, mul, lt, le, is_nan}
use lib.Ieee.Exact.{HasValue}
use Rattle.lists.specs.Lists.{choose, zero64}
use Rattle.ieee.specs.Basic.{one64, is_finite, clamp_of}
use Rattle.ieee_root.specs.Sqrt.{Held}
use Rattle.ieee.proofs.Bounds.{lt-le, not-lt-le}
use Rattle.ieee_exact.specs.Exact.{amount, total, apart}
use Rattle.ieee_exact.proofs.Rounding.{le-amount}
use Rattle.ieee_exact.proofs.Operations.{amount-is}
use Rattle.ieee_exact.proofs.Sums.{summed}
use Rattle.ieee_exact.proofs.Shares.{part, part-is}
use Rattle.ieee_exact.proofs.Means.{mean-near, weights-most, clear, part2, part2-is}

-- ---- `clamp` keeps what is from 0 to 1, and takes 1 for what is above

not-nan : (x : Float) (a l : ℕ) → HasValue x false a l → T (not (is_nan x))
unfolding is_nan
not-nan nan a l h = absurd h
not-nan (inf s) a l h = absurd h
not-nan (fin s m e) a l h = tt

module _ (l : ℕ) (L : 0 < l) (zero-value : HasValue zero64 false 0 l) (one_value : HasValue one64 false l l) (y : Float) (Y : ℕ) (h : HasValue y false Y l) where
  clamp-case : (b c : Bool) → lt y zero64 ≡ b → lt one64 y ≡ c → HasValue (choose b zero64 (choose c one64 y)) false (min Y l) l
  unfolding choose
  clamp-case true c p q =
      let z = le-amount y zero64 Y 0 l L h zero-value (lt-le y zero64 p) in
      let e : 0 ≡ min Y l = omega arith in
      subst (λ (x : ℕ). HasValue zero64 false x l) e zero-value
  clamp-case false true p q =
      let z = le-amount one64 y l Y l L one_value h (lt-le one64 y q) in
      let e : l ≡ min Y l = omega arith in
      subst (λ (x : ℕ). HasValue one64 false x l) e one_value
  clamp-case false false p q =
      let z = le-amount y one64 Y l l L h one_value (not-lt-le one64 y (not-nan one64 l l one_value) (not-nan y Y l h) q) in
      let e : Y ≡ min Y l = omega arith in
      subst (λ (x : ℕ). HasValue y false x l) e h

  pub clamp-value : HasValue (clamp_of y) false (min Y l) l
  unfolding clamp_of
  clamp-value = clamp-case (lt y zero64) (lt one64 y) refl refl

-- ---- how far apart

grown : (y z l B d : ℕ) → y + d ≡ z → z * l ≤ y * l + B → d * l ≤ B
grown y z l B d e h = let a : z * l ≡ y * l + d * l = ap (λ (x : ℕ). x * l) (sym e) ∙ add-mul y d l in omega arith

apart-most : (Y Z l B : ℕ) → Y * l ≤ Z * l + B → Z * l ≤ Y * l + B → apart Y Z * l ≤ B
apart-most Y Z l B h g = go (dec_le Y Z)
  where
    go : Dec (Y ≤ Z) → apart Y Z * l ≤ B
    go (yes le) = grown Y Z l B (apart Y Z) (omega arith) g
    go (no more) = grown Z Y l B (apart Y Z) (omega arith) h

clamped-apart : (Y Z l B : ℕ) → Y * l ≤ Z * l + B → Z * l ≤ Y * l + B → apart (min Y l) (min Z l) * l ≤ B
clamped-apart Y Z l B h g = le_trans (mul-le-mul_right l (nearer Y Z l)) (apart-most Y Z l B h g)
  where
    nearer : (Y Z l : ℕ) → apart (min Y l) (min Z l) ≤ apart Y Z
    nearer Y Z l = omega arith

-- ---- a clamped mean is a number

has-number : (z : Float) (a l : ℕ) → HasValue z false a l → T (is_finite z)
unfolding is_finite
has-number nan a l h = absurd h
has-number (inf s) a l h = absurd h
has-number (fin s m e) a l h = tt

module _ (f : Format) (zero-value : HasValue zero64 false 0 (2 ^ low f)) (one_value : HasValue one64 false (2 ^ low f) (2 ^ low f)) (w : ℕ → Float) (a : ℕ → ℕ) (n : ℕ)
    (hw : (k : ℕ) → k < n → Held f (w k) (a k)) (normal : (k : ℕ) → k < n → 2 ^ (prec f - 1) ≤ a k) (some : 0 < n) (few : 4 * n ≤ 2 ^ prec f) (one : total a n ≤ 2 ^ low f + n * part f)
    (x : ℕ → Float) (X : ℕ → ℕ) (hx : (k : ℕ) → k < n → Held f (x k) (X k)) (small : (k : ℕ) → k < n → X k ≤ 2 ^ low f) where
  number : (j : ℕ) → n ≡ suc j → T (is_finite (clamp_of (summed f (λ k. mul f (w k) (x k)) n)))
  number j e =
      let m = mean-near f w x a X n hw normal hx small few one j e in
      let y = summed f (λ k. mul f (w k) (x k)) n in
      has-number (clamp_of y) (min m.Y (2 ^ low f)) (2 ^ low f) (clamp-value (2 ^ low f) (pow_pos (low f)) zero-value one_value y m.Y m.held.value)

  pub mean-number : T (is_finite (clamp_of (summed f (λ k. mul f (w k) (x k)) n)))
  mean-number = number (n - 1) (omega arith)

-- ---- the law

module _ (f : Format) (zero-value : HasValue zero64 false 0 (2 ^ low f)) (one_value : HasValue one64 false (2 ^ low f) (2 ^ low f)) (w : ℕ → Float) (a : ℕ → ℕ) (n : ℕ)
    (hw : (k : ℕ) → k < n → Held f (w k) (a k)) (normal : (k : ℕ) → k < n → 2 ^ (prec f - 1) ≤ a k) (some : 0 < n) (few : 4 * n ≤ 2 ^ prec f) (one : total a n ≤ 2 ^ low f + n * part f)
    (x x' : ℕ → Float) (X X' : ℕ → ℕ) (hx : (k : ℕ) → k < n → Held f (x k) (X k)) (hx' : (k : ℕ) → k < n → Held f (x' k) (X' k))
    (small : (k : ℕ) → k < n → X k ≤ 2 ^ low f) (small' : (k : ℕ) → k < n → X' k ≤ 2 ^ low f)
    (W : ℕ) (over : total (λ k. a k * X k) n ≤ total (λ k. a k * X' k) n + W) (under : total (λ k. a k * X' k) n ≤ total (λ k. a k * X k) n + W) where
  moves : (j : ℕ) → n ≡ suc j
      → apart (amount f (clamp_of (summed f (λ k. mul f (w k) (x k)) n))) (amount f (clamp_of (summed f (λ k. mul f (w k) (x' k)) n))) * 2 ^ low f ≤ W + n * part2 f
  moves j e =
      let P = 2 ^ prec f in
      let l = 2 ^ low f in
      let p = pow_pos (prec f) in
      let L = pow_pos (low f) in
      let am = weights-most P l n (total a n) (part f) p few (part-is f) one in
      let m = mean-near f w x a X n hw normal hx small few one j e in
      let m' = mean-near f w x' a X' n hw normal hx' small' few one j e in
      let D = total (λ k. a k * X k) n in
      let D' = total (λ k. a k * X' k) n in
      let n1 : j + 1 ≡ n = omega arith in
      let c : m.Y * l ≤ m'.Y * l + (W + n * part2 f) = subst (λ (z : ℕ). m.Y * l ≤ m'.Y * l + (W + z * part2 f)) n1 (clear P l j D D' W (total a n) m.Y m'.Y (part2 f) p (part2-is f) am m.mean m'.mean over) in
      let c' : m'.Y * l ≤ m.Y * l + (W + n * part2 f) = subst (λ (z : ℕ). m'.Y * l ≤ m.Y * l + (W + z * part2 f)) n1 (clear P l j D' D W (total a n) m'.Y m.Y (part2 f) p (part2-is f) am m'.mean m.mean under) in
      let y = summed f (λ k. mul f (w k) (x k)) n in
      let y' = summed f (λ k. mul f (w k) (x' k)) n in
      let is : amount f (clamp_of y) ≡ min m.Y l = amount-is f (clamp_of y) (min m.Y l) (clamp-value l L zero-value one_value y m.Y m.held.value) in
      let is' : amount f (clamp_of y') ≡ min m'.Y l = amount-is f (clamp_of y') (min m'.Y l) (clamp-value l L zero-value one_value y' m'.Y m'.held.value) in
      le_trans (le_of_eq (ap (λ (u : ℕ). apart u (amount f (clamp_of y')) * l) is ∙ ap (λ (u : ℕ). apart (min m.Y l) u * l) is')) (clamped-apart m.Y m'.Y l (W + n * part2 f) c c')

  pub mean-moves : apart (amount f (clamp_of (summed f (λ k. mul f (w k) (x k)) n))) (amount f (clamp_of (summed f (λ k. mul f (w k) (x' k)) n))) * 2 ^ low f ≤ W + n * part2 f
  mean-moves = moves (n - 1) (omega arith)
