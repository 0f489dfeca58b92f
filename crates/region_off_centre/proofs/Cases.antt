-- 01's proved cases of `off_centre`: "points at x = 0 and 1, plane x = 0: reaches 1 and 0, at 0.5 none"; and "No points: `off_centre` gives none". Assumes nothing.
use mathlib.Core.Path.{◌≡◌, refl}
use mathlib.Core.Bool.{false}
use mathlib.Core.List.{List, [], ◌∷◌}
use Rattle.std.proofs.Common.{Ok, Some, None}
use lib.Ieee.{Float, binary64, of_bits, neg, add, sub, mul, div, sum, round, units, le, is_nan}
use Rattle.lists.specs.Lists.{fold_to, any_to, choose, zero64}
use Rattle.ieee.specs.Basic.{one64, abs_of, min_of, max_of}
use Rattle.ieee_root.specs.Sqrt.{sqrt_of, root_of, isqrt, root_in}
use Rattle.geom.specs.Vectors.{vec, less, dot, len, len2}
use Rattle.geom.specs.declared.Mirror.{Mirror}
use Rattle.lent.specs.Domain.{plane_bad}
use Rattle.geom.specs.Points.{flat}
use Rattle.region_off_centre.specs.OffCentre.{reach_of, lowest, highest, balance_of, refusal_of, off_centre_of}

abbrev half64 : Float
half64 = of_bits binary64 0x3fe0_0000_0000_0000

-- the plane x = v
abbrev plane_at : Float → Mirror
plane_at v = record { point = vec v zero64 zero64; normal = vec one64 zero64 zero64 }

abbrev two : List (List Float)
two = (zero64 ∷ zero64 ∷ zero64 ∷ []) ∷ (one64 ∷ zero64 ∷ zero64 ∷ []) ∷ []

-- the second reach is −0, which is 0: both zeros count as one
pub reaches-one-and-none : off_centre_of two (plane_at zero64) ≡ Ok (Some (record { ahead = one64; behind = neg zero64 }))
unfolding off_centre_of refusal_of balance_of lowest highest reach_of plane_bad any_to fold_to choose less dot len len2 abs_of min_of max_of of_bits add sub mul div neg sum round units sqrt_of root_of isqrt root_in le is_nan
reaches-one-and-none = refl

pub even-at-half : off_centre_of two (plane_at half64) ≡ Ok None
unfolding off_centre_of refusal_of balance_of lowest highest reach_of plane_bad any_to fold_to choose less dot len len2 abs_of min_of max_of of_bits add sub mul div neg sum round units sqrt_of root_of isqrt root_in le is_nan
even-at-half = refl

-- for every plane that is not refused
pub none_of-none : (m : Mirror) → plane_bad (flat m) ≡ false → off_centre_of [] m ≡ Ok None
unfolding off_centre_of refusal_of balance_of lowest highest any_to fold_to choose le
none_of-none m h = rw h refl
