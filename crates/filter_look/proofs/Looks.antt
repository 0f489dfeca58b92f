-- A look at one element: what its distance is, and what is left where it is met and where it is not. Assumes nothing.
use Rattle.std.proofs.Common.{◌≡◌, ◌∙◌, sym, ap, ℕ, Bool, true, false, get_or, set}
use lib.Dec.{T}
use lib.Ieee.{Float, nan, binary64, add, mul, fits, le, lt}
use lib.Ieee.Fits.{add-fits}
use Rattle.lists.proofs.Laws.{choose-true, choose-false}
use Rattle.ieee_root.specs.Sqrt.{sqrt_of}
use Rattle.geom.specs.Vectors.{less, dot, len2, len, dist}
use Rattle.geom.specs.declared.Vec3.{Vec3}
use Rattle.filter.specs.Steps.{Settles}
use Rattle.filter_look.specs.Steps.{marked, One, Looked}
use Rattle.filter_look.specs.declared.met.Met.{Met}

pub dist_is : (q p : Vec3) (d : Float) → d ≡ len2 (less q p) → sqrt_of binary64 d ≡ dist q p
unfolding dist len
dist_is q p d e = ap (sqrt_of binary64) e

len2-fits : (v : Vec3) → T (fits binary64 (len2 v))
unfolding len2 dot
len2-fits v = add-fits binary64 (add binary64 (mul binary64 v.x v.x) (mul binary64 v.y v.y)) (mul binary64 v.z v.z)

-- a squared distance from the limit on is not nearer than the radius
pub far : (radius limit : Float) (q p : Vec3) (d : Float) → Settles radius limit → d ≡ len2 (less q p) → le limit d ≡ true → lt (dist q p) radius ≡ false
far radius limit q p d s e h = rw (sym (dist_is q p d e)) (rw (sym e) at (s (len2 (less q p)) (len2-fits (less q p)) (rw e at h)))

module _ (seen : Bool) (i : ℕ) (w : Float) (m : Met) where
  pub looked_past : seen ≡ false → m.count ≡ marked m.stamp.now m.mark → Looked seen i w m m
  looked_past e h = record { stamps = sym (choose-false seen _ _ e); weights = sym (choose-false seen _ _ e); counted = h }

  pub looked_met : (v : Float) (m' : Met) → seen ≡ true → v ≡ w → One i v m m' → Looked seen i w m m'
  looked_met v m' e ev o =
      record {
        stamps = o.stamps ∙ sym (choose-true seen _ _ e);
        weights = o.weights ∙ ap (λ (x : Float). set m.weight.now i (add binary64 (get_or m.weight.now i nan) x)) ev ∙ sym (choose-true seen _ _ e);
        counted = o.counted;
      }
