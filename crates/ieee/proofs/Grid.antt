-- A value that fits is m * 2 ^ j of the format's smallest values, 2 ^ -low, with m of at most `prec` digits. Assumes nothing.
use mathlib.Core.Path.{◌≡◌, refl, sym, ap, ◌∙◌, subst}
use Prim.Native.Nat.{ℕ, zero, suc, ◌+◌, ◌-◌, ◌*◌, ◌%◌, ◌^◌, ◌≤◌, ◌<◌}
use native.Mathlib.Nat.{lt_of_lt_of_le, le_of_eq, le_of_suc-le-suc, lt_of_not-le, not-le_of_lt, lt_of_mul-lt-mul_right, zero-mul, mul-one, mul_assoc, mul_comm, mul-lt-mul_of_pos_right}
use mathlib.Core.Bool.{Bool, ◌&&◌}
use lib.IntN.{ℤ, pos, negsuc}
use lib.Dec.{T, leb, ltb, eqb, leb→le, ltb→lt}
use lib.Pow.{pow-add, pow_pos, pow-lt}
use lib.Ieee.{Float, fin, Format, prec, emax, low, up, down, fits}
use lib.Ieee.Digits.{back}
use lib.Ieee.Fits.{and_l, and_r}
use lib.Ieee.Exact.{HasValue}
use lib.Ieee.Scale.{overflow}

-- what `fits` says of an m above zero
record Fit (f : Format) (m : ℕ) (e : ℤ) : Type 0 where
  pub short : m < 2 ^ prec f
  pub fine : down e ≤ 2 ^ low f
  pub under : m * up e < 2 ^ suc (emax f) * down e

fit : (f : Format) (s : Bool) (m : ℕ) (e : ℤ) → T (fits f (fin s (suc m) e)) → Fit f (suc m) e
unfolding fits
fit f s m e t =
    let a : Bool = eqb (suc m % 2) 1 in
    let b : Bool = ltb (suc m) (2 ^ prec f) in
    let c : Bool = leb (down e) (2 ^ low f) in
    let d : Bool = ltb (suc m * up e) (2 ^ suc (emax f) * down e) in
    record {
      short = ltb→lt (suc m) (2 ^ prec f) (and_r a b (and_l (a && b) c (and_l (a && b && c) d t)));
      fine = leb→le (down e) (2 ^ low f) (and_r (a && b) c (and_l (a && b && c) d t));
      under = ltb→lt (suc m * up e) (2 ^ suc (emax f) * down e) (and_r (a && b && c) d t);
    }

-- 2 ^ e is 2 ^ (e + low) smallest values
abbrev shift : (f : Format) (e : ℤ) → ℕ
shift f (pos i) = i + low f
shift f (negsuc i) = low f - suc i

shifted : (f : Format) (m : ℕ) (e : ℤ) → down e ≤ 2 ^ low f → m * up e * 2 ^ low f ≡ m * 2 ^ shift f e * down e
shifted f m (pos i) h = mul_assoc m (2 ^ i) (2 ^ low f) ∙ ap (λ (x : ℕ). m * x) (sym (pow-add 2 i (low f))) ∙ sym (mul-one (m * 2 ^ (i + low f)))
shifted f m (negsuc i) h =
    let l : suc i ≤ low f = le_of_suc-le-suc (lt_of_not-le (λ (g : suc (low f) ≤ suc i). not-le_of_lt (pow-lt g) h)) in
    ap (λ (x : ℕ). x * 2 ^ low f) (mul-one m)
    ∙ ap (λ (x : ℕ). m * x) (ap (λ (x : ℕ). 2 ^ x) (sym (back (low f) (suc i) l)) ∙ pow-add 2 (low f - suc i) (suc i))
    ∙ sym (mul_assoc m (2 ^ (low f - suc i)) (2 ^ suc i))

pub record Grid (f : Format) (x : Float) (s : Bool) : Type 0 where
  pub m : ℕ
  pub j : ℕ
  pub short : m < 2 ^ prec f
  pub under : m * 2 ^ j < overflow f
  pub value : HasValue x s (m * 2 ^ j) (2 ^ low f)

pub grid : (f : Format) (s : Bool) (m : ℕ) (e : ℤ) → T (fits f (fin s m e)) → Grid f (fin s m e) s
grid f s zero e t = record {
  m = 0;
  j = 0;
  short = pow_pos (prec f);
  under = pow_pos (low f + suc (emax f));
  value = (refl, ap (λ (x : ℕ). x * 2 ^ low f) (zero-mul (up e)) ∙ zero-mul (2 ^ low f) ∙ sym (zero-mul (down e)));
}
grid f s (suc m) e t =
    let h = fit f s m e t in
    let j = shift f e in
    let is = shifted f (suc m) e h.fine in
    record {
      m = suc m;
      j = j;
      short = h.short;
      under =
          lt_of_mul-lt-mul_right (down e)
          (subst (λ (x : ℕ). x < overflow f * down e) is
          (lt_of_lt_of_le (mul-lt-mul_of_pos_right h.under (pow_pos (low f)))
          (le_of_eq
          (mul_comm (2 ^ suc (emax f) * down e) (2 ^ low f)
          ∙ sym (mul_assoc (2 ^ low f) (2 ^ suc (emax f)) (down e))
          ∙ ap (λ (x : ℕ). x * down e) (sym (pow-add 2 (low f) (suc (emax f))))))));
      value = (refl, is);
    }
