-- Two floats that are equal and no zeros are one: neither precedes the other in totalOrder, and a key of that order is one float's. Assumes nothing.
use mathlib.Core.Path.{◌≡◌, refl, sym, ◌∙◌}
use mathlib.Core.Bool.{Bool, true, false, not, ◌&&◌, ◌||◌, beq}
use Prim.Native.Nat.{ℕ, ◌*◌, ◌≤◌, ◌<◌}
use native.Mathlib.Nat.{le_of_eq, le_antisymm, eq-zero-or-pos, mul-pos}
use native.Mathlib.Omega.{arith}
use mathlib.Core.Logic.{⊎_elim}
use lib.IntN.{ℤ}
use lib.Dec.{T, eqb}
use borrow.Author.Tests.{ltb-false, le-ltb, eqb-true, eq-eqb}
use lib.Ieee.{Float, nan, inf, fin, binary64, up, down, lt, eq, ne, is_nan, fits, of_bits}
use lib.Ieee.Fits.{down_pos}
use Rattle.lists.specs.Lists.{zero64}
use Rattle.lists.proofs.Bools.{never}
use Rattle.lists.proofs.Laws.{both}
use Rattle.ieee_bits.specs.Bits.{precedes, total_key}
use Rattle.ieee_bits.proofs.TotalOrder.{precedes_key, key-same}

-- of one sign and size
module _ (m : ℕ) (e : ℤ) (n : ℕ) (d : ℤ) (h : m * up e * down d ≡ n * up d * down e) where
  level : (s : Bool) → precedes (fin s m e) (fin s n d) ≡ false
  unfolding precedes lt eq is_nan
  level true = le-ltb (n * up d * down e) (m * up e * down d) (le_of_eq h)
  level false = le-ltb (m * up e * down d) (n * up d * down e) (le_of_eq (sym h))

pub one_float : (s : Bool) (m : ℕ) (e : ℤ) (n : ℕ) (d : ℤ) → T (fits binary64 (fin s m e)) → T (fits binary64 (fin s n d)) → m * up e * down d ≡ n * up d * down e → fin s m e ≡ fin s n d
one_float s m e n d f g h =
    let x = fin s m e in
    let y = fin s n d in
    let a : total_key y ≤ total_key x = ltb-false (total_key x) (total_key y) (sym (precedes_key x y f g) ∙ level m e n d h s) in
    let b : total_key x ≤ total_key y = ltb-false (total_key y) (total_key x) (sym (precedes_key y x g f) ∙ level n d m e (sym h) s) in
    key-same x y f g (le_antisymm b a)

-- a size of nothing is a zero's
zero-size : (s : Bool) (m : ℕ) (e d : ℤ) → m * up e * down d ≡ 0 → ne (fin s m e) zero64 ≡ false
unfolding ne eq of_bits
zero-size s m e d h =
    let z : m * up e ≡ 0 = ⊎_elim (λ (q : m * up e ≡ 0). q) (λ (q : 0 < m * up e). absurd (omega (arith, mul-pos q (down_pos d)))) (eq-zero-or-pos (m * up e)) in
    go s (eqb (m * up e * 1) (0 * down e)) (eqb (m * up e * 1) 0) (eq-eqb (m * up e * 1) (0 * down e) (omega arith)) (eq-eqb (m * up e * 1) 0 (omega arith))
  where
    go : (s a b : Bool) → a ≡ true → b ≡ true → not (a && (beq s false || b)) ≡ false
    go true a b p q = rw (p, q)
    go false a b p q = rw p

pub eq-same : (x y : Float) → T (fits binary64 x) → T (fits binary64 y) → eq x y ≡ true → ne x zero64 ≡ true → x ≡ y
unfolding eq
eq-same nan y f g e z = never e refl
eq-same (inf s) nan f g e z = never e refl
eq-same (inf true) (inf true) f g e z = refl
eq-same (inf true) (inf false) f g e z = never e refl
eq-same (inf false) (inf true) f g e z = never e refl
eq-same (inf false) (inf false) f g e z = refl
eq-same (inf s) (fin t n d) f g e z = never e refl
eq-same (fin s m i) nan f g e z = never e refl
eq-same (fin s m i) (inf t) f g e z = never e refl
eq-same (fin true m i) (fin true n d) f g e z = one_float true m i n d f g (eqb-true _ _ (both (eqb (m * up i * down d) (n * up d * down i)) _ e).0)
eq-same (fin false m i) (fin false n d) f g e z = one_float false m i n d f g (eqb-true _ _ (both (eqb (m * up i * down d) (n * up d * down i)) _ e).0)
eq-same (fin true m i) (fin false n d) f g e z = never z (zero-size true m i d (eqb-true _ _ (both (eqb (m * up i * down d) (n * up d * down i)) (eqb (m * up i * down d) 0) e).1))
eq-same (fin false m i) (fin true n d) f g e z = never z (zero-size false m i d (eqb-true _ _ (both (eqb (m * up i * down d) (n * up d * down i)) (eqb (m * up i * down d) 0) e).1))
