-- The numbers that stand for the cases of what `asymmetry` and `off_centre` answer: 01, "For an answer that is an enum, a definition gives this paper's
-- number and values for each case." Definitions only.
use Rattle.std.specs.Prelude.{ℕ, ◌≡◌, true, false, List, Option, Some, None, Result, Ok, Err, Float}
use Rattle.lists.specs.Lists.{zero64}
use Rattle.geom.specs.declared.Mirror.{Mirror}
use Rattle.region_asymmetry.specs.Asymmetry.{Lent, Measured}
use Rattle.region_off_centre.specs.declared.Reaches.{Reaches}
use Rattle.capi.specs.declared.regions.Asymmetry.{Asymmetry}
use Rattle.capi.specs.declared.regions.OffCentre.{OffCentre}

-- ---- `asymmetry`

abbrev pub distance_told : Result Float ℕ → Asymmetry
distance_told (Err number) = record { refused = number; distance = zero64 }
distance_told (Ok far) = record { refused = 0; distance = far }

-- the numbers are those of what `Measured` says of the call
pub record MeasuredAs (nodes : List (List Float)) (tris : List (List ℕ)) (m : Mirror) (l l' : Lent) (r : Asymmetry) : Type 0 where
  pub distance : Result Float ℕ
  pub numbers : r ≡ distance_told distance
  pub measured : Measured nodes tris m l l' distance

-- ---- `off_centre`

abbrev pub off_centre_told : Result (Option Reaches) ℕ → OffCentre
off_centre_told (Err number) = record { refused = number; off = false; ahead = zero64; behind = zero64 }
off_centre_told (Ok None) = record { refused = 0; off = false; ahead = zero64; behind = zero64 }
off_centre_told (Ok (Some r)) = record { refused = 0; off = true; ahead = r.ahead; behind = r.behind }
