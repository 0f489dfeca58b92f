-- Numbers divided by their rounded sum, each quotient rounded: as exact fractions the quotients add up to 1, nearly. Assumes nothing.
use mathlib.Core.Path.{◌≡◌, refl, sym, ap, ◌∙◌, subst}
use Prim.Native.Nat.{ℕ, zero, suc, ◌+◌, ◌-◌, ◌*◌, ◌^◌, ◌≤◌, ◌<◌}
use native.Mathlib.Nat.{le_refl, le_trans, le_of_eq, mul_comm, mul_assoc, mul_left_comm, mul_right_comm, mul-add, add-mul, suc-mul, zero-mul, mul-zero, lt_of_lt_of_le, mul-le-mul_right, le_of_mul-le-mul_right, le_of_mul-le-mul_left}
use native.Mathlib.Omega.{arith}
use mathlib.Core.Bool.{false}
use lib.Dec.{T, lit≤}
use lib.Pow.{pow_pos, pow-add}
use lib.Ieee.{Float, nan, inf, fin, Format, binary32, binary64, prec, low, div, round, fits, le}
use lib.Ieee.Exact.{HasValue}
use lib.Ieee.Positive.{positive}
use lib.Ieee.Scale.{finite}
use Rattle.lists.specs.Lists.{fold_to}
use Rattle.ieee.specs.Basic.{is_finite}
use Rattle.ieee_root.specs.Sqrt.{Held}
use Rattle.ieee_exact.specs.Exact.{amount, total}
use Rattle.ieee_exact.proofs.Rounding.{rounded, Near, near-normal}
use Rattle.ieee_exact.proofs.Operations.{amount-is, held-from, div_is}
use Rattle.ieee_exact.proofs.Sums.{summed, Summed, Room, sum_near}

-- ---- the sum of the quotients: each a k is b k * l / s, nearly

module _ (P l s : ℕ) (b a : ℕ → ℕ) where
  shares-over : (n : ℕ) → ((k : ℕ) → k < n → Near P (b k * l) s (a k)) → P * (total b n * l) ≤ P * (total a n * s) + total a n * s
  unfolding total
  shares-over zero h = le_trans (le_of_eq (ap (λ (x : ℕ). P * x) (zero-mul l) ∙ mul-zero P)) (omega arith)
  shares-over (suc n) h =
      let r = shares-over n (λ k q. h k (omega arith)) in
      let m = (h n (le_refl (suc n))).over in
      let x = add-mul (total b n) (b n) l in
      let y = add-mul (total a n) (a n) s in
      let u : P * ((total b n + b n) * l) ≡ P * (total b n * l) + P * (b n * l) = ap (λ (z : ℕ). P * z) x ∙ mul-add P (total b n * l) (b n * l) in
      let v : P * ((total a n + a n) * s) ≡ P * (total a n * s) + P * (a n * s) = ap (λ (z : ℕ). P * z) y ∙ mul-add P (total a n * s) (a n * s) in
      omega arith

  shares-under : (n : ℕ) → ((k : ℕ) → k < n → Near P (b k * l) s (a k)) → P * (total a n * s) ≤ P * (total b n * l) + total a n * s
  unfolding total
  shares-under zero h = le_trans (le_of_eq (ap (λ (x : ℕ). P * x) (zero-mul s) ∙ mul-zero P)) (omega arith)
  shares-under (suc n) h =
      let r = shares-under n (λ k q. h k (omega arith)) in
      let m = (h n (le_refl (suc n))).under in
      let x = add-mul (total b n) (b n) l in
      let y = add-mul (total a n) (a n) s in
      let u : P * ((total b n + b n) * l) ≡ P * (total b n * l) + P * (b n * l) = ap (λ (z : ℕ). P * z) x ∙ mul-add P (total b n * l) (b n * l) in
      let v : P * ((total a n + a n) * s) ≡ P * (total a n * s) + P * (a n * s) = ap (λ (z : ℕ). P * z) y ∙ mul-add P (total a n * s) (a n * s) in
      omega arith

-- ---- the sum s of j + 1 numbers with the exact sum t, and the exact sum A of their shares, where 1 is l

module _ (P l s t A j : ℕ) (S : 0 < s) (many : 2 ≤ P) (ao : P * (t * l) ≤ P * (A * s) + A * s) (au : P * (A * s) ≤ P * (t * l) + A * s) (so : P * t ≤ P * s + j * s) (su : P * s ≤ P * t + j * s) where
  high : P * A ≤ P * l + j * l + A
  high =
      le_of_mul-le-mul_right
      (let a : (P * t) * l ≤ (P * s + j * s) * l = mul-le-mul_right l so in
      let b = add-mul (P * s) (j * s) l in
      let c = mul_assoc P t l in
      let d = mul_right_comm P s l in
      let e = mul_right_comm j s l in
      let g = mul_assoc P A s in
      let h = add-mul (P * l + j * l) A s in
      let i = add-mul (P * l) (j * l) s in
      omega arith)
      S

  low_side : P * l ≤ P * A + A + j * l
  low_side =
      le_of_mul-le-mul_right
      (let a : (P * s) * l ≤ (P * t + j * s) * l = mul-le-mul_right l su in
      let b = add-mul (P * t) (j * s) l in
      let c = mul_assoc P t l in
      let d = mul_right_comm P s l in
      let e = mul_right_comm j s l in
      let g = mul_assoc P A s in
      let h = add-mul (P * A + A) (j * l) s in
      let i = add-mul (P * A) A s in
      omega arith)
      S

  few : A ≤ (j + 2) * l
  few = go (P - 1) (omega arith)
    where
      go : (Q : ℕ) → P ≡ suc Q → A ≤ (j + 2) * l
      go Q e =
          let Q1 : 1 ≤ Q = omega arith in
          let a : P * A ≡ Q * A + A = ap (λ (x : ℕ). x * A) e ∙ suc-mul Q A in
          let b : P * l ≡ Q * l + l = ap (λ (x : ℕ). x * l) e ∙ suc-mul Q l in
          let c : (j + 2) * l ≡ j * l + 2 * l = add-mul j 2 l in
          let d : Q * ((j + 2) * l) ≡ Q * (j * l) + Q * (2 * l) = ap (λ (x : ℕ). Q * x) c ∙ mul-add Q (j * l) (2 * l) in
          let f : Q * (2 * l) ≡ 2 * (Q * l) = mul_left_comm Q 2 l in
          let g : 1 * (j * l) ≤ Q * (j * l) = mul-le-mul_right (j * l) Q1 in
          let h : 1 * l ≤ Q * l = mul-le-mul_right l Q1 in
          let i = high in
          le_of_mul-le-mul_left {k = Q} (omega arith) Q1

  above-one : P * A ≤ P * l + (j + 1) * (2 * l)
  above-one = let a = few in let b = high in let c = add-mul j 2 l in let d = add-mul j 1 (2 * l) in let e = mul_left_comm j 2 l in omega arith

  below_one : P * l ≤ P * A + (j + 1) * (2 * l)
  below_one = let a = few in let b = low_side in let c = add-mul j 2 l in let d = add-mul j 1 (2 * l) in let e = mul_left_comm j 2 l in omega arith

-- ---- 2 * 2 ^ low is 2 ^ prec times this

-- 2 ^ -(prec - 1) in smallest values: for f64 it is 2 ^ 1022
abbrev pub part : Format → ℕ
part f = 2 ^ (low f + 1 - prec f)

pub part-is : (f : Format) → 2 * 2 ^ low f ≡ 2 ^ prec f * part f
part-is f = mul_comm 2 (2 ^ low f) ∙ sym (pow-add 2 (low f) 1) ∙ ap (λ (x : ℕ). 2 ^ x) (whole f) ∙ pow-add 2 (prec f) (low f + 1 - prec f)
  where
    whole : (f : Format) → low f + 1 ≡ prec f + (low f + 1 - prec f)
    whole binary32 = refl
    whole binary64 = refl

cut-above : (P A l n E L2 : ℕ) → 0 < P → L2 ≡ P * E → P * A ≤ P * l + n * L2 → A ≤ l + n * E
cut-above P A l n E L2 p e h =
    le_of_mul-le-mul_left {k = P} (let a : n * L2 ≡ P * (n * E) = ap (λ (x : ℕ). n * x) e ∙ mul_left_comm n P E in let b = mul-add P l (n * E) in omega arith) p

-- ---- the theorem, for any format: lo is the least of its values in the normal range

-- x is held by the format, finite and at least lo
pub record AtLeast (f : Format) (lo x : Float) : Type 0 where
  pub fit : T (fits f x)
  pub finite : T (is_finite x)
  pub least : T (le lo x)

pub record LeastFull (f : Format) (lo : Float) : Type 0 where
  pub above : T (positive lo)
  pub value : HasValue lo false (2 ^ (prec f - 1)) (2 ^ low f)

-- A smallest values differ from 1 by at most n times 2 ^ -(prec - 1)
pub record NearOne (f : Format) (A n : ℕ) : Type 0 where
  pub above : A ≤ 2 ^ low f + n * part f
  pub below : 2 ^ low f ≤ A + n * part f

is-finite : (x : Float) → T (is_finite x) → T (finite x)
unfolding is_finite
is-finite nan h = absurd h
is-finite (inf s) h = absurd h
is-finite (fin s m e) h = tt

module _ (f : Format) (lo : Float) (L : LeastFull f lo) (g : ℕ → Float) (n : ℕ) (some : 0 < n)
    (products : (k : ℕ) → k < n → AtLeast f lo (g k)) (sums : (k : ℕ) → k < n → AtLeast f lo (summed f g (suc k)))
    (weights : (k : ℕ) → k < n → AtLeast f lo (div f (g k) (summed f g n))) where
  held_of : (x : Float) → AtLeast f lo x → Held f x (amount f x) × (2 ^ (prec f - 1) ≤ amount f x)
  held_of x p = held-from f lo (2 ^ (prec f - 1)) L.above L.value x p.fit p.finite p.least

  abbrev b : ℕ → ℕ
  b k = amount f (g k)

  abbrev a : ℕ → ℕ
  a k = amount f (div f (g k) (summed f g n))

  room : Room f g b n
  unfolding summed fold_to
  room j r l h u = is-finite (summed f g (suc (suc j))) (sums (suc j) l).finite

  last : (j : ℕ) → n ≡ suc j → Summed f j (total b n) (summed f g n)
  last j e = subst (λ (x : ℕ). Summed f j (total b x) (summed f g x)) (sym e) (sum_near f g b j n (omega arith) (λ k l. (held_of (g k) (products k l)).0) room)

  near : (s : ℕ) → 0 < s → Held f (summed f g n) s → (k : ℕ) → k < n → Near (2 ^ prec f) (b k * 2 ^ low f) s (a k)
  near s S h k l =
      let e = div_is f (g k) (summed f g n) (b k) s S (held_of (g k) (products k l)).0.value h.value in
      let w = held_of (div f (g k) (summed f g n)) (weights k l) in
      let t = subst (λ (z : Float). T (finite z)) e (is-finite (div f (g k) (summed f g n)) (weights k l).finite) in
      let R = rounded f (b k) s S t in
      let is : a k ≡ R.r = ap (amount f) e ∙ amount-is f (round f false (b k) s) R.r R.held.value in
      subst (λ (x : ℕ). Near (2 ^ prec f) (b k * 2 ^ low f) s x) (sym is)
      (near-normal f (b k * 2 ^ low f) s (round f false (b k) s) R (subst (λ (x : ℕ). 2 ^ (prec f - 1) ≤ x) is w.1))

  positive-sum : (j s : ℕ) → n ≡ suc j → Held f (summed f g n) s → 0 < s
  positive-sum j s e h =
      let p = subst (λ (x : ℕ). AtLeast f lo (summed f g x)) (sym e) (sums j (omega arith)) in
      let w = held_of (summed f g n) p in
      let is : amount f (summed f g n) ≡ s = amount-is f (summed f g n) s h.value in
      lt_of_lt_of_le (pow_pos (prec f - 1)) (le_trans w.1 (le_of_eq is))

  shares_sum : (j : ℕ) → n ≡ suc j → NearOne f (total a n) n
  shares_sum j e =
      let P = 2 ^ prec f in
      let l = 2 ^ low f in
      let S = last j e in
      let s = S.r in
      let sp = positive-sum j s e S.held in
      let nr = near s sp S.held in
      let ao = shares-over P l s b a n nr in
      let au = shares-under P l s b a n nr in
      let n1 : n ≡ j + 1 = omega arith in
      let hi = above-one P l s (total b n) (total a n) j sp (many f) ao au S.over S.under in
      let lo = below_one P l s (total b n) (total a n) j sp (many f) ao au S.over S.under in
      record {
        above = cut-above P (total a n) l n (part f) (2 * l) (pow_pos (prec f)) (part-is f) (subst (λ (x : ℕ). P * total a n ≤ P * l + x * (2 * l)) (sym n1) hi);
        below = cut-above P l (total a n) n (part f) (2 * l) (pow_pos (prec f)) (part-is f) (subst (λ (x : ℕ). P * l ≤ P * total a n + x * (2 * l)) (sym n1) lo);
      }
    where
      many : (f : Format) → 2 ≤ 2 ^ prec f
      many binary32 = lit≤ tt
      many binary64 = lit≤ tt

  pub shares-near : NearOne f (total a n) n
  shares-near = shares_sum (n - 1) (omega arith)
