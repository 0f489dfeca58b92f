-- The cases of `specs/Basic.antt`, from the comparisons that the code makes. Assumes nothing.
use mathlib.Core.Path.{◌≡◌, refl, sym, ap, ◌∙◌, subst}
use mathlib.Core.Bool.{Bool, true, false, cond}
use lib.Dec.{T}
use lib.Ieee.{Float, nan, inf, fin, lt, ne, is_nan}
use lib.Ieee.Compare.{differs_from_itself, nan_differs}
use Rattle.lists.specs.Lists.{choose, zero64}
use Rattle.lists.proofs.Bools.{never}
use Rattle.lists.proofs.Laws.{choose-true, choose-false}
use Rattle.std.specs.Float.{float_with_sign, float_clamp, float_is_finite}
use Rattle.ieee.specs.Basic.{one64, abs_of, clamp_of, is_finite}

pub holds : (b : Bool) → b ≡ true → T b
holds b e = subst T (sym e) tt

-- ---- the library's abs, clamp and is_finite
pub size_same : (x : Float) → float_with_sign false x ≡ abs_of x
unfolding float_with_sign abs_of
size_same nan = refl
size_same (inf s) = refl
size_same (fin s m e) = refl

cond-choose : {A : Type 0} (t : Bool) (a b : A) → cond t a b ≡ choose t a b
unfolding choose
cond-choose true a b = refl
cond-choose false a b = refl

pub clamp_same : (x : Float) → float_clamp x zero64 one64 ≡ clamp_of x
unfolding clamp_of
clamp_same x = cond-choose (lt x zero64) zero64 _ ∙ ap (choose (lt x zero64) zero64) (cond-choose (lt one64 x) one64 x)

pub finite_same : (x : Float) → float_is_finite x ≡ is_finite x
unfolding float_is_finite is_finite
finite_same nan = refl
finite_same (inf s) = refl
finite_same (fin s m e) = refl

-- ---- a test for a not-a-number
pub is-nan : (x : Float) → ne x x ≡ true → x ≡ nan
is-nan x h = differs_from_itself x (holds _ h)

pub is_number : (x : Float) → ne x x ≡ false → is_nan x ≡ false
unfolding is_nan
is_number nan h = never nan_differs h
is_number (inf s) h = refl
is_number (fin s m e) h = refl

-- a comparison that holds is between numbers
pub lt-left : (x y : Float) → lt x y ≡ true → is_nan x ≡ false
unfolding lt is_nan
lt-left nan y h = never h refl
lt-left (inf s) y h = refl
lt-left (fin s m e) y h = refl

pub lt-right : (x y : Float) → lt x y ≡ true → is_nan y ≡ false
unfolding lt is_nan
lt-right nan nan h = never h refl
lt-right (inf s) nan h = never h refl
lt-right (fin s m e) nan h = never h refl
lt-right x (inf t) h = refl
lt-right x (fin t n d) h = refl

-- ---- max and min: one law, over the comparison that picks y
unfoldable pub other : Bool → Float → Float → Float
unfolding choose
other t x y = choose (is_nan x) y (choose (is_nan y) x (choose t y x))

pub other-taken : (t : Bool) (x y : Float) → is_nan x ≡ false → is_nan y ≡ false → t ≡ true → other t x y ≡ y
unfolding other
other-taken t x y a b h = choose-false (is_nan x) y _ a ∙ choose-false (is_nan y) x _ b ∙ choose-true t y x h

pub other-nan : (t : Bool) (x y : Float) → is_nan x ≡ true → other t x y ≡ y
unfolding other choose
other-nan t x y h = rw h

pub other-left : (t : Bool) (x y : Float) → is_nan x ≡ false → t ≡ false → other t x y ≡ x
unfolding other choose
other-left t x y a h = rw (a, h) (go (is_nan y))
  where
    go : (b : Bool) → choose b x x ≡ x
    go true = refl
    go false = refl
