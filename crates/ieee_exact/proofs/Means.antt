-- A rounded mean: weights a k that add up to 1, nearly, times numbers X k of at most 1, summed from the left, each product and each addition rounded. Assumes nothing.
use mathlib.Core.Path.{◌≡◌, refl, sym, ap, ◌∙◌, subst}
use mathlib.Core.Logic.{inl, inr}
use Prim.Native.Nat.{ℕ, zero, suc, ◌+◌, ◌-◌, ◌*◌, ◌^◌, ◌≤◌, ◌<◌}
use native.Mathlib.Nat.{le_refl, le_trans, le_of_eq, le-add_right, add-zero, add-suc, mul_comm, mul_assoc, mul_left_comm, mul_right_comm, mul-add, add-mul, zero-mul, mul-zero, one-mul, mul-one, mul-pos, eq-zero-or-pos, mul-le-mul_left, mul-le-mul_right, le_of_mul-le-mul_right, le_of_mul-le-mul_left}
use native.Mathlib.Omega.{arith}
use mathlib.Core.Bool.{Bool, true, false, cond}
use lib.Dec.{T, ltb, lit<}
use lib.Pow.{pow_pos, pow-add, pow-lt}
use lib.Ieee.{Float, nan, inf, fin, Format, binary32, binary64, prec, emax, low, odd, units, mul, round, le}
use lib.Ieee.Exact.{odd_sign}
use lib.Ieee.Fits.{two, two-le_pos}
use lib.Ieee.Order.{round_mono}
use lib.Ieee.Scale.{finite, overflow}
use Rattle.ieee_root.specs.Sqrt.{Held}
use Rattle.ieee_root.proofs.Value.{Number, number}
use Rattle.ieee_exact.specs.Exact.{amount, total}
use Rattle.ieee_exact.proofs.Rounding.{rounded, own, half}
use Rattle.ieee_exact.proofs.Operations.{amount-is, add_is, mul_is}
use Rattle.ieee_exact.proofs.Shares.{part, part-is}
use Rattle.ieee_exact.proofs.Sums.{finite_of, summed, Summed, Room, sum_near}

-- ---- what rounds to at most a finite value is finite

units-finite : (f : Format) (q k : ℕ) (y : Float) → T (finite y) → T (le (units f false q k) y) → T (finite (units f false q k))
unfolding units
units-finite f q k y t h = go (ltb (q * 2 ^ k) (overflow f)) y t h
  where
    go : (b : Bool) (y : Float) → T (finite y) → T (le (cond b (odd (suc (prec f)) false q k (low f)) (inf false)) y) → T (finite (cond b (odd (suc (prec f)) false q k (low f)) (inf false)))
    go true y t h = finite_of (odd (suc (prec f)) false q k (low f)) (q * 2 ^ k) (2 ^ low f) (odd_sign (suc (prec f)) false q k (low f))
    go false nan t h = absurd t
    go false (inf s) t h = absurd t
    go false (fin s m e) t h = absurd (unfold le in h)

finite-le : (f : Format) (a c : ℕ) (y : Float) → T (finite y) → T (le (round f false a c) y) → T (finite (round f false a c))
unfolding round
finite-le f a c y t h = units-finite f _ _ y t h

-- a / c is at most M smallest values, which is a value of the format
pub finite-under : (f : Format) (a c M : ℕ) → 0 < c → Number f M → a * 2 ^ low f ≤ M * c → T (finite (round f false a c))
finite-under f a c M C num h =
    finite-le f a c (round f false M (2 ^ low f)) (finite_of (round f false M (2 ^ low f)) M (2 ^ low f) (own f M num)) (round_mono f a c M (2 ^ low f) C (pow_pos (low f)) h)

-- ---- a product with a number of at most 1

-- Q is a * X / l, nearly: the error is at most 2 ^ -prec of a
pub record Weighted (P l a X Q : ℕ) : Type 0 where
  pub over : P * (a * X) ≤ P * (Q * l) + a * l
  pub under : P * (Q * l) ≤ P * (a * X) + a * l
  pub most : Q ≤ a

weigh-over : (P H l a X Q K : ℕ) → 0 < l → P ≡ 2 * H → 2 * (a * X * l) ≤ 2 * (Q * (l * l)) + l * l * K → H * K ≤ a → P * (a * X) ≤ P * (Q * l) + a * l
weigh-over P H l a X Q K l0 e h g =
    let h' : 2 * (a * X) * l ≤ (2 * (Q * l) + l * K) * l = (let x = mul_assoc 2 (a * X) l in let y = add-mul (2 * (Q * l)) (l * K) l in let z = mul_assoc 2 (Q * l) l in let w = mul_assoc Q l l in let v = mul_right_comm l K l in omega arith) in
    let c : 2 * (a * X) ≤ 2 * (Q * l) + l * K = le_of_mul-le-mul_right h' l0 in
    let d : H * (2 * (a * X)) ≤ H * (2 * (Q * l) + l * K) = mul-le-mul_left H c in
    let i = mul-add H (2 * (Q * l)) (l * K) in
    let j : H * (l * K) ≡ H * K * l = mul_left_comm H l K ∙ mul_comm l (H * K) in
    let k : H * K * l ≤ a * l = mul-le-mul_right l g in
    let m : P * (a * X) ≡ H * (2 * (a * X)) = ap (λ (x : ℕ). x * (a * X)) e ∙ mul_assoc 2 H (a * X) ∙ mul_left_comm 2 H (a * X) in
    let n : P * (Q * l) ≡ H * (2 * (Q * l)) = ap (λ (x : ℕ). x * (Q * l)) e ∙ mul_assoc 2 H (Q * l) ∙ mul_left_comm 2 H (Q * l) in
    omega arith

weigh-under : (P H l a X Q K : ℕ) → 0 < l → P ≡ 2 * H → 2 * (Q * (l * l)) ≤ 2 * (a * X * l) + l * l * K → H * K ≤ a → P * (Q * l) ≤ P * (a * X) + a * l
weigh-under P H l a X Q K l0 e h g =
    let h' : 2 * (Q * l) * l ≤ (2 * (a * X) + l * K) * l = (let x = mul_assoc 2 (a * X) l in let y = add-mul (2 * (a * X)) (l * K) l in let z = mul_assoc 2 (Q * l) l in let w = mul_assoc Q l l in let v = mul_right_comm l K l in omega arith) in
    let c : 2 * (Q * l) ≤ 2 * (a * X) + l * K = le_of_mul-le-mul_right h' l0 in
    let d : H * (2 * (Q * l)) ≤ H * (2 * (a * X) + l * K) = mul-le-mul_left H c in
    let i = mul-add H (2 * (a * X)) (l * K) in
    let j : H * (l * K) ≡ H * K * l = mul_left_comm H l K ∙ mul_comm l (H * K) in
    let k : H * K * l ≤ a * l = mul-le-mul_right l g in
    let m : P * (a * X) ≡ H * (2 * (a * X)) = ap (λ (x : ℕ). x * (a * X)) e ∙ mul_assoc 2 H (a * X) ∙ mul_left_comm 2 H (a * X) in
    let n : P * (Q * l) ≡ H * (2 * (Q * l)) = ap (λ (x : ℕ). x * (Q * l)) e ∙ mul_assoc 2 H (Q * l) ∙ mul_left_comm 2 H (Q * l) in
    omega arith

pub record Product (f : Format) (a X : ℕ) (z : Float) : Type 0 where
  pub Q : ℕ
  pub held : Held f z Q
  pub near : Weighted (2 ^ prec f) (2 ^ low f) a X Q

pub weighted : (f : Format) (w x : Float) (a X : ℕ) → Held f w a → Held f x X → 2 ^ (prec f - 1) ≤ a → X ≤ 2 ^ low f → Product f a X (mul f w x)
weighted f w x a X hw hx ha hX =
    let l = 2 ^ low f in
    let l0 = pow_pos (low f) in
    let C = mul-pos l0 l0 in
    let num = number f w a hw in
    let e = mul_is f w x a X hw.value hx.value in
    let under : a * X * l ≤ a * (l * l) = le_trans (le_of_eq (mul_assoc a X l)) (mul-le-mul_left a (mul-le-mul_right l hX)) in
    let R = rounded f (a * X) (l * l) C (finite-under f (a * X) (l * l) a C num under) in
    let most : R.r ≤ a = R.ceiling a num under in
    let used : 2 ^ (prec f - 1) * 2 ^ R.k ≤ a =
    elim (eq-zero-or-pos R.k) [
      | inl z ↦ le_trans (le_of_eq (ap (λ (y : ℕ). 2 ^ (prec f - 1) * 2 ^ y) z ∙ mul-one (2 ^ (prec f - 1)))) ha
      | inr K ↦ le_trans (R.full K) most
    ] in
    let hp = half (prec f) (two-le_pos (prec f) (two f)) in
    record {
      Q = R.r;
      held = subst (λ (z : Float). Held f z R.r) (sym e) R.held;
      near = record {
        over = weigh-over (2 ^ prec f) (2 ^ (prec f - 1)) l a X R.r (2 ^ R.k) l0 hp R.over used;
        under = weigh-under (2 ^ prec f) (2 ^ (prec f - 1)) l a X R.r (2 ^ R.k) l0 hp R.under used;
        most = most;
      };
    }

-- ---- sums without rounding

pub total_mono : (b : ℕ → ℕ) (m d : ℕ) → total b m ≤ total b (m + d)
total_mono b m zero = le_of_eq (ap (total b) (sym (add-zero m)))
total_mono b m (suc d) = le_trans (total_mono b m d) (le_trans (more (m + d)) (le_of_eq (ap (total b) (sym (add-suc m d)))))
  where
    more : (n : ℕ) → total b n ≤ total b (suc n)
    more n = unfold total in le-add_right (total b n) (b n)

pub total-le : (b : ℕ → ℕ) (m n : ℕ) → m ≤ n → total b m ≤ total b n
total-le b m n h = let e : m + (n - m) ≡ n = omega arith in le_trans (total_mono b m (n - m)) (le_of_eq (ap (total b) e))

total-term : (b : ℕ → ℕ) (k n : ℕ) → k < n → b k ≤ total b n
unfolding total
total-term b k n h = le_trans (here (total b k) (b k)) (total-le b (suc k) n h)
  where
    here : (t x : ℕ) → x ≤ t + x
    here t x = omega arith

module _ (P l : ℕ) (a X Q : ℕ → ℕ) where
  total-over : (n : ℕ) → ((k : ℕ) → k < n → Weighted P l (a k) (X k) (Q k)) → P * total (λ k. a k * X k) n ≤ P * (total Q n * l) + total a n * l
  unfolding total
  total-over zero h = le_trans (le_of_eq (mul-zero P)) (omega arith)
  total-over (suc n) h =
      let r = total-over n (λ k q. h k (omega arith)) in
      let m = (h n (le_refl (suc n))).over in
      let u = mul-add P (total (λ k. a k * X k) n) (a n * X n) in
      let v : P * ((total Q n + Q n) * l) ≡ P * (total Q n * l) + P * (Q n * l) = ap (λ (z : ℕ). P * z) (add-mul (total Q n) (Q n) l) ∙ mul-add P (total Q n * l) (Q n * l) in
      let w = add-mul (total a n) (a n) l in
      omega arith

  total-under : (n : ℕ) → ((k : ℕ) → k < n → Weighted P l (a k) (X k) (Q k)) → P * (total Q n * l) ≤ P * total (λ k. a k * X k) n + total a n * l
  unfolding total
  total-under zero h = le_trans (le_of_eq (ap (λ (x : ℕ). P * x) (zero-mul l) ∙ mul-zero P)) (omega arith)
  total-under (suc n) h =
      let r = total-under n (λ k q. h k (omega arith)) in
      let m = (h n (le_refl (suc n))).under in
      let u = mul-add P (total (λ k. a k * X k) n) (a n * X n) in
      let v : P * ((total Q n + Q n) * l) ≡ P * (total Q n * l) + P * (Q n * l) = ap (λ (z : ℕ). P * z) (add-mul (total Q n) (Q n) l) ∙ mul-add P (total Q n * l) (Q n * l) in
      let w = add-mul (total a n) (a n) l in
      omega arith

  total-most : (n : ℕ) → ((k : ℕ) → k < n → Weighted P l (a k) (X k) (Q k)) → total Q n ≤ total a n
  unfolding total
  total-most zero h = le_refl 0
  total-most (suc n) h = let r = total-most n (λ k q. h k (omega arith)) in let m = (h n (le_refl (suc n))).most in omega arith

-- ---- one mean, of j + 1 numbers: Y in smallest values, and D exactly, in units of smallest values squared

pub record Mean (P l j D A Y : ℕ) : Type 0 where
  pub over : P * D ≤ P * (Y * l) + (j * Y + A) * l
  pub under : P * (Y * l) ≤ P * D + (j * Y + A) * l
  pub most : Y ≤ 2 * l

module _ (P l j D A T Y : ℕ) (wo : P * D ≤ P * (T * l) + A * l) (wu : P * (T * l) ≤ P * D + A * l) (so : P * T ≤ P * Y + j * Y) (su : P * Y ≤ P * T + j * Y) where
  mean-over : P * D ≤ P * (Y * l) + (j * Y + A) * l
  mean-over =
      let a : (P * T) * l ≤ (P * Y + j * Y) * l = mul-le-mul_right l so in
      let b = add-mul (P * Y) (j * Y) l in
      let c = mul_assoc P T l in
      let d = mul_assoc P Y l in
      let g = add-mul (j * Y) A l in
      omega arith

  mean-under : P * (Y * l) ≤ P * D + (j * Y + A) * l
  mean-under =
      let a : (P * Y) * l ≤ (P * T + j * Y) * l = mul-le-mul_right l su in
      let b = add-mul (P * T) (j * Y) l in
      let c = mul_assoc P T l in
      let d = mul_assoc P Y l in
      let g = add-mul (j * Y) A l in
      omega arith

-- the weights' sum times P, in l
ones_over : (P l n A E : ℕ) → 2 * l ≡ P * E → A ≤ l + n * E → P * A ≤ P * l + n * (2 * l)
ones_over P l n A E e h =
    let a : P * A ≤ P * (l + n * E) = mul-le-mul_left P h in
    let b = mul-add P l (n * E) in
    let c : P * (n * E) ≡ n * (2 * l) = mul_left_comm P n E ∙ ap (λ (x : ℕ). n * x) (sym e) in
    omega arith

-- a sum of at most A, with at most i roundings: 4 * (i + 1) ≤ P
sum-most : (P l i n A E T r : ℕ) → 0 < P → 4 * n ≤ P → i < n → 2 * l ≡ P * E → A ≤ l + n * E → T ≤ A → P * r ≤ P * T + i * r → r ≤ 2 * l
sum-most P l i n A E T r p many il e one tm u =
    let a = ones_over P l n A E e one in
    let b : P * T ≤ P * A = mul-le-mul_left P tm in
    let c : 4 * n * l ≤ P * l = mul-le-mul_right l many in
    let d : 4 * i * r ≤ P * r = mul-le-mul_right r (le_trans (four i n il) many) in
    let g : n * (2 * l) ≡ 2 * (n * l) = mul_left_comm n 2 l in
    let h = mul_assoc 4 n l in
    let k = mul_assoc 4 i r in
    let m : P * (2 * l) ≡ 2 * (P * l) = mul_left_comm P 2 l in
    le_of_mul-le-mul_left {k = P} (omega arith) p
  where
    four : (i n : ℕ) → i < n → 4 * i ≤ 4 * n
    four i n h = omega arith

pub weights-most : (P l n A E : ℕ) → 0 < P → 4 * n ≤ P → 2 * l ≡ P * E → A ≤ l + n * E → A ≤ 2 * l
weights-most P l n A E p many e one =
    let a = ones_over P l n A E e one in
    let c : 4 * n * l ≤ P * l = mul-le-mul_right l many in
    let g : n * (2 * l) ≡ 2 * (n * l) = mul_left_comm n 2 l in
    let h = mul_assoc 4 n l in
    let m : P * (2 * l) ≡ 2 * (P * l) = mul_left_comm P 2 l in
    le_of_mul-le-mul_left {k = P} (omega arith) p

-- ---- two means that differ by W exactly

pub clear : (P l j D D' W A Y Y' F : ℕ) → 0 < P → 4 * (l * l) ≡ P * F → A ≤ 2 * l → Mean P l j D A Y → Mean P l j D' A Y' → D ≤ D' + W → Y * l ≤ Y' * l + (W + (j + 1) * F)
clear P l j D D' W A Y Y' F p e am m m' d =
    let a : P * D ≤ P * (D' + W) = mul-le-mul_left P d in
    let b = mul-add P D' W in
    let c : j * Y ≤ j * (2 * l) = mul-le-mul_left j m.most in
    let c' : j * Y' ≤ j * (2 * l) = mul-le-mul_left j m'.most in
    let s : (j * Y + A) + (j * Y' + A) ≤ (j + 1) * (4 * l) = (let x = add-mul j 1 (4 * l) in let y = mul_left_comm j 2 l in let z = mul_left_comm j 4 l in omega arith) in
    let t : ((j * Y + A) + (j * Y' + A)) * l ≤ (j + 1) * (4 * l) * l = mul-le-mul_right l s in
    let u = add-mul (j * Y + A) (j * Y' + A) l in
    let v : (j + 1) * (4 * l) * l ≡ P * ((j + 1) * F) = mul_assoc (j + 1) (4 * l) l ∙ ap (λ (x : ℕ). (j + 1) * x) (mul_assoc 4 l l ∙ e) ∙ mul_left_comm (j + 1) P F in
    let w = mul-add P (Y' * l) (W + (j + 1) * F) in
    let x = mul-add P W ((j + 1) * F) in
    let o = m.under in
    let o' = m'.over in
    le_of_mul-le-mul_left {k = P} (omega arith) p

-- 2 ^ -(prec - 2) in units of smallest values squared: for f64 it is 2 ^ 2097
abbrev pub part2 : Format → ℕ
part2 f = 2 ^ (low f + low f + 2 - prec f)

pub part2-is : (f : Format) → 4 * (2 ^ low f * 2 ^ low f) ≡ 2 ^ prec f * part2 f
part2-is f =
    mul_comm 4 (2 ^ low f * 2 ^ low f) ∙ ap (λ (x : ℕ). x * 4) (sym (pow-add 2 (low f) (low f))) ∙ sym (pow-add 2 (low f + low f) 2) ∙ ap (λ (x : ℕ). 2 ^ x) (whole f)
    ∙ pow-add 2 (prec f) (low f + low f + 2 - prec f)
  where
    whole : (f : Format) → low f + low f + 2 ≡ prec f + (low f + low f + 2 - prec f)
    whole binary32 = refl
    whole binary64 = refl

-- eight times 1 is a value of the format
eight : (f : Format) → Number f (8 * 2 ^ low f)
eight f =
    let is : 8 * 2 ^ low f ≡ 1 * 2 ^ (low f + 3) = mul_comm 8 (2 ^ low f) ∙ sym (pow-add 2 (low f) 3) ∙ sym (one-mul (2 ^ (low f + 3))) in
    record { m = 1; j = low f + 3; is = is; short = one-lt f; under = subst (λ (x : ℕ). x < overflow f) (sym (is ∙ one-mul (2 ^ (low f + 3)))) (pow-lt (room f)) }
  where
    one-lt : (f : Format) → 1 < 2 ^ prec f
    one-lt binary32 = lit< tt
    one-lt binary64 = lit< tt

    room : (f : Format) → low f + 3 < low f + suc (emax f)
    room binary32 = lit< tt
    room binary64 = lit< tt

-- ---- the mean of n numbers, as it is worked out

module _ (f : Format) (w x : ℕ → Float) (a X : ℕ → ℕ) (n : ℕ) (hw : (k : ℕ) → k < n → Held f (w k) (a k)) (normal : (k : ℕ) → k < n → 2 ^ (prec f - 1) ≤ a k)
    (hx : (k : ℕ) → k < n → Held f (x k) (X k)) (small : (k : ℕ) → k < n → X k ≤ 2 ^ low f) (few : 4 * n ≤ 2 ^ prec f) (one : total a n ≤ 2 ^ low f + n * part f) where
  abbrev q : ℕ → Float
  q k = mul f (w k) (x k)

  abbrev Q : ℕ → ℕ
  Q k = amount f (q k)

  term : (k : ℕ) → k < n → Held f (q k) (Q k) × Weighted (2 ^ prec f) (2 ^ low f) (a k) (X k) (Q k)
  term k h =
      let t = weighted f (w k) (x k) (a k) (X k) (hw k h) (hx k h) (normal k h) (small k h) in
      let is : Q k ≡ t.Q = amount-is f (q k) t.Q t.held.value in
      (subst (λ (z : ℕ). Held f (q k) z) (sym is) t.held, subst (λ (z : ℕ). Weighted (2 ^ prec f) (2 ^ low f) (a k) (X k) z) (sym is) t.near)

  all_most : total Q n ≤ total a n
  all_most = total-most (2 ^ prec f) (2 ^ low f) a X Q n (λ k h. (term k h).1)

  some-most : (i : ℕ) → i ≤ n → total Q i ≤ total a n
  some-most i h = le_trans (total-le Q i n h) all_most

  six : (r y l : ℕ) → r ≤ 2 * l → y ≤ 2 * l → r + y ≤ 8 * l
  six r y l h g = omega arith

  room : Room f q Q n
  room i r il h u =
      let P = 2 ^ prec f in
      let l = 2 ^ low f in
      let rm : r ≤ 2 * l = sum-most P l i n (total a n) (part f) (total Q (suc i)) r (pow_pos (prec f)) few (omega arith) (part-is f) one (some-most (suc i) (omega arith)) u in
      let ym : Q (suc i) ≤ 2 * l = le_trans (total-term Q (suc i) n il) (le_trans all_most (weights-most P l n (total a n) (part f) (pow_pos (prec f)) few (part-is f) one)) in
      subst (λ (z : Float). T (finite z)) (sym (add_is f (summed f q (suc i)) (q (suc i)) r (Q (suc i)) h.value (term (suc i) il).0.value))
      (finite-under f (r + Q (suc i)) l (8 * l) (pow_pos (low f)) (eight f) (mul-le-mul_right l (six r (Q (suc i)) l rm ym)))

  pub record MeanAt (j : ℕ) : Type 0 where
    pub Y : ℕ
    pub held : Held f (summed f (λ k. mul f (w k) (x k)) n) Y
    pub mean : Mean (2 ^ prec f) (2 ^ low f) j (total (λ k. a k * X k) n) (total a n) Y

  pub mean-near : (j : ℕ) → n ≡ suc j → MeanAt j
  mean-near j e =
      let P = 2 ^ prec f in
      let l = 2 ^ low f in
      let S : Summed f j (total Q n) (summed f q n) = subst (λ (m : ℕ). Summed f j (total Q m) (summed f q m)) (sym e) (sum_near f q Q j n (omega arith) (λ k h. (term k h).0) room) in
      let wo = total-over P l a X Q n (λ k h. (term k h).1) in
      let wu = total-under P l a X Q n (λ k h. (term k h).1) in
      let D = total (λ k. a k * X k) n in
      record {
        Y = S.r;
        held = S.held;
        mean = record {
          over = mean-over P l j D (total a n) (total Q n) S.r wo wu S.over S.under;
          under = mean-under P l j D (total a n) (total Q n) S.r wo wu S.over S.under;
          most = sum-most P l j n (total a n) (part f) (total Q n) S.r (pow_pos (prec f)) few (omega arith) (part-is f) one all_most S.under;
        };
      }
