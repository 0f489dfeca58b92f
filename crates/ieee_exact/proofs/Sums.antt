-- A sum from the left of values that are not below zero, each addition rounded: it differs from the exact sum by at most 2 ^ -prec of itself for each addition but the
-- first, which adds to 0. The partial sums rise, so no term of second order arises. Assumes nothing.
use mathlib.Core.Path.{◌≡◌, refl, sym, ap, ◌∙◌, subst}
use Prim.Native.Nat.{ℕ, zero, suc, ◌+◌, ◌*◌, ◌^◌, ◌≤◌, ◌<◌}
use native.Mathlib.Nat.{le_trans, le_of_eq, le_antisymm, mul-add, suc-mul, zero-mul, zero-add, le-add_right, mul-le-mul_left, mul-le-mul_right}
use native.Mathlib.Omega.{arith}
use mathlib.Core.Bool.{false}
use lib.IntN.{pos}
use lib.Dec.{T}
use lib.Pow.{pow_pos}
use lib.Ieee.{Float, nan, inf, fin, Format, prec, low, add, round}
use lib.Ieee.Exact.{HasValue}
use lib.Ieee.Scale.{finite}
use Rattle.lists.specs.Lists.{fold_to}
use Rattle.ieee_root.specs.Sqrt.{Held}
use Rattle.ieee_root.proofs.Value.{Number, number}
use Rattle.ieee_exact.specs.Exact.{total}
use Rattle.ieee_exact.proofs.Rounding.{rounded, own, Whole, near-whole}
use Rattle.ieee_exact.proofs.Operations.{add_is}

-- 0.0
abbrev pub nought : Float
nought = fin false 0 (pos 0)

nought-value : (f : Format) → HasValue nought false 0 (2 ^ low f)
nought-value f = (refl, zero-mul (2 ^ low f))

-- 0.0 + g 0 + g 1 .. + g (n - 1), from the left, each sum rounded
unfoldable pub summed : Format → (ℕ → Float) → ℕ → Float
unfolding fold_to
summed f g n = fold_to (λ k t. add f t (g k)) nought n

pub finite_of : (z : Float) (a c : ℕ) → HasValue z false a c → T (finite z)
finite_of nan a c h = absurd h
finite_of (inf s) a c h = absurd h
finite_of (fin s m e) a c h = tt

-- one addition
record Added (f : Format) (a b : ℕ) (z : Float) : Type 0 where
  pub r : ℕ
  pub held : Held f z r
  pub near : Whole (2 ^ prec f) (a + b) r
  pub floor : (c : ℕ) → Number f c → c ≤ a + b → c ≤ r
  pub ceiling : (c : ℕ) → Number f c → a + b ≤ c → r ≤ c

added : (f : Format) (a b : ℕ) (x y : Float) → HasValue x false a (2 ^ low f) → HasValue y false b (2 ^ low f) → T (finite (add f x y)) → Added f a b (add f x y)
added f a b x y p q t =
    let L = 2 ^ low f in
    let e = add_is f x y a b p q in
    let R = rounded f (a + b) L (pow_pos (low f)) (subst (λ (z : Float). T (finite z)) e t) in
    record {
      r = R.r;
      held = subst (λ (z : Float). Held f z R.r) (sym e) R.held;
      near = near-whole f (a + b) L (round f false (a + b) L) (pow_pos (low f)) R;
      floor = λ c n h. R.floor c n (mul-le-mul_right L h);
      ceiling = λ c n h. R.ceiling c n (mul-le-mul_right L h);
    }

-- ---- the step in whole numbers: r' is r + b rounded, and r was t within j roundings

step-over : (P t r b r' j : ℕ) → P * t ≤ P * r + j * r → P * (r + b) ≤ P * r' + r' → r ≤ r' → P * (t + b) ≤ P * r' + suc j * r'
step-over P t r b r' j h w m =
    let a = mul-add P t b in
    let c = mul-add P r b in
    let d : j * r ≤ j * r' = mul-le-mul_left j m in
    let e = suc-mul j r' in
    omega arith

step-under : (P t r b r' j : ℕ) → P * r ≤ P * t + j * r → P * r' ≤ P * (r + b) + r' → r ≤ r' → P * r' ≤ P * (t + b) + suc j * r'
step-under P t r b r' j h w m =
    let a = mul-add P t b in
    let c = mul-add P r b in
    let d : j * r ≤ j * r' = mul-le-mul_left j m in
    let e = suc-mul j r' in
    omega arith

-- z is the sum of j + 1 terms, of which t is the exact sum
pub record Summed (f : Format) (j t : ℕ) (z : Float) : Type 0 where
  pub r : ℕ
  pub held : Held f z r
  pub over : 2 ^ prec f * t ≤ 2 ^ prec f * r + j * r
  pub under : 2 ^ prec f * r ≤ 2 ^ prec f * t + j * r

module _ (f : Format) (g : ℕ → Float) (b : ℕ → ℕ) where
  summed-one : Held f (g 0) (b 0) → Summed f 0 (total b 1) (summed f g 1)
  unfolding summed fold_to total
  summed-one h =
      let L = 2 ^ low f in
      let num = number f (g 0) (b 0) (h) in
      let e = add_is f nought (g 0) 0 (b 0) (nought-value f) h.value in
      let t : T (finite (add f nought (g 0))) = subst (λ (z : Float). T (finite z)) (sym (e ∙ ap (λ (x : ℕ). round f false x L) (zero-add (b 0)))) (finite_of (round f false (b 0) L) (b 0) L (own f (b 0) num)) in
      let R = added f 0 (b 0) nought (g 0) (nought-value f) h.value t in
      let z = zero-add (b 0) in
      let is : R.r ≡ 0 + b 0 = le_antisymm (le_trans (R.ceiling (b 0) num (le_of_eq z)) (le_of_eq (sym z))) (le_trans (le_of_eq z) (R.floor (b 0) num (le_of_eq (sym z)))) in
      let same : 2 ^ prec f * R.r ≡ 2 ^ prec f * (0 + b 0) = ap (λ (x : ℕ). 2 ^ prec f * x) is in
      record { r = R.r; held = R.held; over = omega arith; under = omega arith }

  -- each partial sum is finite, as long as those before it are near their exact sums
  abbrev pub Room : ℕ → Type 0
  Room n = (j r : ℕ) → suc j < n → Held f (summed f g (suc j)) r → 2 ^ prec f * r ≤ 2 ^ prec f * total b (suc j) + j * r → T (finite (add f (summed f g (suc j)) (g (suc j))))

  pub sum_near : (j n : ℕ) → j < n → ((k : ℕ) → k < n → Held f (g k) (b k)) → Room n → Summed f j (total b (suc j)) (summed f g (suc j))
  unfolding summed fold_to total
  sum_near zero n l h room = summed-one (h 0 l)
  sum_near (suc j) n l h room =
      let s = sum_near j n (omega arith) h room in
      let R = added f s.r (b (suc j)) (summed f g (suc j)) (g (suc j)) s.held.value (h (suc j) l).value (room j s.r l s.held s.under) in
      let m : s.r ≤ R.r = R.floor s.r (number f (summed f g (suc j)) s.r s.held) (le-add_right s.r (b (suc j))) in
      record {
        r = R.r;
        held = R.held;
        over = step-over (2 ^ prec f) (total b (suc j)) s.r (b (suc j)) R.r j s.over R.near.over m;
        under = step-under (2 ^ prec f) (total b (suc j)) s.r (b (suc j)) R.r j s.under R.near.under m;
      }
