-- A sign goes through rounding, a product and a quotient unchanged in size. Assumes nothing.
use mathlib.Core.Path.{◌≡◌, refl, ap, ◌∙◌}
use Prim.Native.Nat.{ℕ, zero, suc, ◌+◌, ◌*◌, ◌^◌}
use mathlib.Core.Bool.{Bool, true, false, not, cond}
use lib.Dec.{ltb, eqb}
use lib.Ieee.{Float, nan, inf, fin, Format, prec, emax, low, up, down, unlike, odd, units, round, neg, mul, div}

unlike-left : (s t : Bool) → unlike (not s) t ≡ not (unlike s t)
unlike-left true true = refl
unlike-left true false = refl
unlike-left false true = refl
unlike-left false false = refl

unlike-both : (s t : Bool) → unlike (not s) (not t) ≡ unlike s t
unlike-both true true = refl
unlike-both true false = refl
unlike-both false true = refl
unlike-both false false = refl

odd-neg : (d : ℕ) (s : Bool) (q k l : ℕ) → odd d (not s) q k l ≡ neg (odd d s q k l)
unfolding odd neg
odd-neg d s zero k l = refl
odd-neg d s (suc q) k l = refl

cond-neg : (b : Bool) (x y x' y' : Float) → x' ≡ neg x → y' ≡ neg y → cond b x' y' ≡ neg (cond b x y)
cond-neg true x y x' y' p q = p
cond-neg false x y x' y' p q = q

units-neg : (f : Format) (s : Bool) (q k : ℕ) → units f (not s) q k ≡ neg (units f s q k)
unfolding units neg
units-neg f s q k =
    cond-neg (ltb (q * 2 ^ k) (2 ^ (low f + suc (emax f)))) (odd (suc (prec f)) s q k (low f)) (inf s) _ _ (odd-neg (suc (prec f)) s q k (low f)) refl

pub round-neg : (f : Format) (s : Bool) (a b : ℕ) → round f (not s) a b ≡ neg (round f s a b)
unfolding round
round-neg f s a b = units-neg f s _ _

pub mul-neg-neg : (f : Format) (x y : Float) → mul f (neg x) (neg y) ≡ mul f x y
unfolding mul neg
mul-neg-neg f nan y = refl
mul-neg-neg f (inf s) nan = refl
mul-neg-neg f (inf s) (inf t) = ap inf (unlike-both s t)
mul-neg-neg f (inf s) (fin t n d) = ap (λ (u : Bool). cond (eqb n 0) nan (inf u)) (unlike-both s t)
mul-neg-neg f (fin s m e) nan = refl
mul-neg-neg f (fin s m e) (inf t) = ap (λ (u : Bool). cond (eqb m 0) nan (inf u)) (unlike-both s t)
mul-neg-neg f (fin s m e) (fin t n d) = ap (λ (u : Bool). round f u (m * up e * (n * up d)) (down e * down d)) (unlike-both s t)

pub div-neg : (f : Format) (x y : Float) → div f (neg x) y ≡ neg (div f x y)
unfolding div neg
div-neg f nan y = refl
div-neg f (inf s) nan = refl
div-neg f (inf s) (inf t) = refl
div-neg f (inf s) (fin t n d) = ap inf (unlike-left s t)
div-neg f (fin s m e) nan = refl
div-neg f (fin s m e) (inf t) = rw (unlike-left s t)
div-neg f (fin s m e) (fin t n d) =
    cond-neg (eqb n 0) (cond (eqb m 0) nan (inf (unlike s t))) (round f (unlike s t) (m * up e * down d) (n * up d * down e)) _ _
    (cond-neg (eqb m 0) nan (inf (unlike s t)) _ _ refl (ap inf (unlike-left s t)))
    (ap (λ (u : Bool). round f u (m * up e * down d) (n * up d * down e)) (unlike-left s t) ∙ round-neg f (unlike s t) (m * up e * down d) (n * up d * down e))
