-- A sum, a product and a quotient of values that are not below zero, by their numbers of smallest values. Assumes nothing.
use mathlib.Core.Path.{◌≡◌, sym, ap, ◌∙◌, subst}
use Prim.Native.Nat.{ℕ, ◌+◌, ◌*◌, ◌^◌, ◌≤◌, ◌<◌}
use native.Mathlib.Nat.{lt_irrefl, mul_comm, mul_assoc, mul_left_comm, mul_right_comm, mul-mul-mul_comm, add-mul, zero-mul, mul-pos, eq_of_mul-eq-mul_right}
use native.Mathlib.Omega.{arith}
use mathlib.Core.Bool.{Bool, true, false, cond, true≢false}
use lib.IntN.{ℤ}
use lib.Dec.{T, eqb}
use lib.Pow.{pow_pos}
use borrow.Author.Tests.{ne_eqb}
use lib.Ieee.{Float, nan, inf, fin, Format, low, up, down, add, mul, div, sum, round, fits, le}
use lib.Ieee.Fits.{up_pos, down_pos}
use lib.Ieee.Exact.{HasValue}
use lib.Ieee.Positive.{positive, above, above_of_le}
use lib.Ieee.Scale.{round_same}
use Rattle.ieee.specs.Basic.{is_finite}
use Rattle.ieee_root.specs.Sqrt.{Held}
use Rattle.ieee.proofs.Grid.{grid}
use Rattle.ieee_root.proofs.Value.{in_units}
use Rattle.ieee_exact.specs.Exact.{amount}
use Rattle.ieee_exact.proofs.Rounding.{le-amount}

-- ---- a value's number

pub amount-is : (f : Format) (x : Float) (a : ℕ) → HasValue x false a (2 ^ low f) → amount f x ≡ a
unfolding amount
amount-is f nan a h = absurd h
amount-is f (inf s) a h = absurd h
amount-is f (fin s m e) a h = in_units f m e a h.1

-- of a value that the format holds no digit is lost
pub amount-exact : (f : Format) (s : Bool) (m : ℕ) (e : ℤ) → T (fits f (fin s m e)) → m * up e * 2 ^ low f ≡ amount f (fin s m e) * down e
unfolding amount
amount-exact f s m e t =
    let g = grid f s m e t in
    g.value.1 ∙ ap (λ (a : ℕ). a * down e) (sym (in_units f m e (g.m * 2 ^ g.j) g.value.1))

pub held-above : (f : Format) (x : Float) → T (fits f x) → T (is_finite x) → T (above x) → Held f x (amount f x)
unfolding is_finite
held-above f nan t fi p = absurd fi
held-above f (inf s) t fi p = absurd fi
held-above f (fin true m e) t fi p = absurd p
held-above f (fin false m e) t fi p =
    let g = grid f false m e t in
    record { fit = t; value = subst (λ (a : ℕ). HasValue (fin false m e) false a (2 ^ low f)) (sym (amount-is f (fin false m e) (g.m * 2 ^ g.j) g.value)) g.value }

-- x is at least lo, which is l smallest values
pub held-from : (f : Format) (lo : Float) (l : ℕ) → T (positive lo) → HasValue lo false l (2 ^ low f) → (x : Float) → T (fits f x) → T (is_finite x) → T (le lo x) → Held f x (amount f x) × (l ≤ amount f x)
held-from f lo l P L x t fi h =
    let e = held-above f x t fi (above_of_le lo x P h) in
    (e, le-amount lo x l (amount f x) (2 ^ low f) (pow_pos (low f)) L e.value h)

-- ---- the operations as roundings of fractions of these numbers

sum_same : (x y de dd a b l : ℕ) → x * l ≡ a * de → y * l ≡ b * dd → (x * dd + y * de) * l ≡ (a + b) * (de * dd)
sum_same x y de dd a b l p q =
    let u : x * dd * l ≡ a * (de * dd) = mul_right_comm x dd l ∙ ap (λ (z : ℕ). z * dd) p ∙ mul_assoc a de dd in
    let v : y * de * l ≡ b * (de * dd) = mul_right_comm y de l ∙ ap (λ (z : ℕ). z * de) q ∙ mul_assoc b dd de ∙ ap (λ (z : ℕ). b * z) (mul_comm dd de) in
    let s = add-mul (x * dd) (y * de) l in
    let t = add-mul a b (de * dd) in
    omega arith

pub add_is : (f : Format) (x y : Float) (a b : ℕ) → HasValue x false a (2 ^ low f) → HasValue y false b (2 ^ low f) → add f x y ≡ round f false (a + b) (2 ^ low f)
unfolding add sum
add_is f nan y a b p q = absurd p
add_is f (inf s) y a b p q = absurd p
add_is f (fin true m e) y a b p q = absurd (true≢false p.0)
add_is f (fin false m e) nan a b p q = absurd q
add_is f (fin false m e) (inf t) a b p q = absurd q
add_is f (fin false m e) (fin true n d) a b p q = absurd (true≢false q.0)
add_is f (fin false m e) (fin false n d) a b p q =
    round_same f false (m * up e * down d + n * up d * down e) (down e * down d) (a + b) (2 ^ low f) (mul-pos (down_pos e) (down_pos d)) (pow_pos (low f))
    (sum_same (m * up e) (n * up d) (down e) (down d) a b (2 ^ low f) p.1 q.1)

pub mul_is : (f : Format) (x y : Float) (a b : ℕ) → HasValue x false a (2 ^ low f) → HasValue y false b (2 ^ low f) → mul f x y ≡ round f false (a * b) (2 ^ low f * 2 ^ low f)
unfolding mul
mul_is f nan y a b p q = absurd p
mul_is f (inf s) y a b p q = absurd p
mul_is f (fin true m e) y a b p q = absurd (true≢false p.0)
mul_is f (fin false m e) nan a b p q = absurd q
mul_is f (fin false m e) (inf t) a b p q = absurd q
mul_is f (fin false m e) (fin true n d) a b p q = absurd (true≢false q.0)
mul_is f (fin false m e) (fin false n d) a b p q =
    round_same f false (m * up e * (n * up d)) (down e * down d) (a * b) (2 ^ low f * 2 ^ low f) (mul-pos (down_pos e) (down_pos d)) (mul-pos (pow_pos (low f)) (pow_pos (low f)))
    (mul-mul-mul_comm (m * up e) (n * up d) (2 ^ low f) (2 ^ low f) ∙ ap (λ (z : ℕ). z * (n * up d * 2 ^ low f)) p.1 ∙ ap (λ (z : ℕ). a * down e * z) q.1 ∙ mul-mul-mul_comm a (down e) b (down d))

part_same : (x y de dd a b l : ℕ) → 0 < l → x * l ≡ a * de → y * l ≡ b * dd → x * dd * b ≡ a * (y * de)
part_same x y de dd a b l L p q =
    eq_of_mul-eq-mul_right l L (x * dd * b) (a * (y * de))
    (mul_right_comm (x * dd) b l
    ∙ ap (λ (z : ℕ). z * b) (mul_right_comm x dd l ∙ ap (λ (z : ℕ). z * dd) p)
    ∙ mul_assoc (a * de) dd b
    ∙ ap (λ (z : ℕ). a * de * z) (mul_comm dd b ∙ sym q)
    ∙ mul_assoc a de (y * l)
    ∙ ap (λ (z : ℕ). a * z) (mul_left_comm de y l ∙ ap (λ (z : ℕ). y * z) (mul_comm de l) ∙ sym (mul_assoc y l de) ∙ mul_right_comm y l de)
    ∙ sym (mul_assoc a (y * de) l))

some : (n : ℕ) (u l b d : ℕ) → 0 < b → 0 < d → n * u * l ≡ b * d → n ≡ 0 → ⊥
some n u l b d B D h z =
    lt_irrefl 0 (subst (λ (y : ℕ). 0 < y) (sym h ∙ ap (λ (y : ℕ). y * u * l) z ∙ ap (λ (y : ℕ). y * l) (zero-mul u) ∙ zero-mul l) (mul-pos B D))

pub div_is : (f : Format) (x y : Float) (a b : ℕ) → 0 < b → HasValue x false a (2 ^ low f) → HasValue y false b (2 ^ low f) → div f x y ≡ round f false a b
unfolding div
div_is f nan y a b B p q = absurd p
div_is f (inf s) y a b B p q = absurd p
div_is f (fin true m e) y a b B p q = absurd (true≢false p.0)
div_is f (fin false m e) nan a b B p q = absurd q
div_is f (fin false m e) (inf t) a b B p q = absurd q
div_is f (fin false m e) (fin true n d) a b B p q = absurd (true≢false q.0)
div_is f (fin false m e) (fin false n d) a b B p q =
    let nz : n ≡ 0 → ⊥ = some n (up d) (2 ^ low f) b (down d) B (down_pos d) q.1 in
    ap (λ (t : Bool). cond t (cond (eqb m 0) nan (inf false)) (round f false (m * up e * down d) (n * up d * down e))) (ne_eqb n 0 nz)
    ∙ round_same f false (m * up e * down d) (n * up d * down e) a b (divisor_pos n nz) B
    (part_same (m * up e) (n * up d) (down e) (down d) a b (2 ^ low f) (pow_pos (low f)) p.1 q.1)
  where
    divisor_pos : (n : ℕ) → (n ≡ 0 → ⊥) → 0 < n * up d * down e
    divisor_pos n z = mul-pos (mul-pos (omega arith) (up_pos d)) (down_pos e)
