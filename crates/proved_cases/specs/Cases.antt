-- 01, "Proved cases": all of them, in its order, over the definitions that the contracts cite. Definitions only.
use Rattle.std.specs.Prelude.{◌≡◌, false, List, [], ◌∷◌, ℕ, ◌<◌, get_or, Some, None, Ok, Float}
use Rattle.std.specs.Float.{nan, binary64}
use Rattle.std.specs.Float.Ieee.{neg, of_bits}
use Rattle.lists.specs.Lists.{zero64}
use Rattle.ieee.specs.Basic.{one64, whole64}
use Rattle.geom.specs.Vectors.{vec, two64, image}
use Rattle.geom.specs.declared.Vec3.{Vec3}
use Rattle.geom.specs.declared.Mirror.{Mirror}
use Rattle.faces.specs.Triangle.{dist2_to_triangle}
use Rattle.topo.specs.declared.Sharpening.TheVariants.{Off}
use Rattle.topo.specs.Levels.{level_of}
use Rattle.update_rates.specs.Rates.{half}
use Rattle.oc_project.specs.Project.{stages, projected}
use Rattle.update_value.specs.Value.{gain_of, next_of}
use Rattle.region_off_centre.specs.OffCentre.{off_centre_of}
use Rattle.run_plain.specs.Opening.{Opening, Kept, starts_of, near_of, coef_of, entry_of}
use Rattle.proved_cases.specs.Example.{WorkedExample, room}

-- points at x = 0 and 1
abbrev pub two_points : List (List Float)
two_points = (zero64 ∷ zero64 ∷ zero64 ∷ []) ∷ (one64 ∷ zero64 ∷ zero64 ∷ []) ∷ []

-- two elements of volume 1, nothing held, middles 1 apart, radius 1, and a share
abbrev pub two_free : Float → Opening
two_free share =
    record {
      volumes = one64 ∷ one64 ∷ [];
      centroids = two_points;
      passive = false ∷ false ∷ [];
      mirrors = [];
      goal = record { fraction = share; radius = one64; sharpen = Off; max_iterations = 1 };
      flag = false;
      lent = room (256 ∷ 256 ∷ 257 ∷ 256 ∷ 256 ∷ 256 ∷ 256 ∷ 1040 ∷ []);
    }

-- "each row only its own element", of two: the filter's three lists
pub record OwnRows (o : Opening) : Type 0 where
  pub starts : starts_of o ≡ 0 ∷ 1 ∷ 2 ∷ []
  pub near : near_of o ≡ 0 ∷ 1 ∷ []
  pub coef : coef_of o ≡ one64 ∷ one64 ∷ []

-- a distance to "triangle (0,0,0),(1,0,0),(0,1,0)", squared
abbrev pub to_triangle : Vec3 → Float
to_triangle p = dist2_to_triangle p (vec zero64 zero64 zero64) (vec one64 zero64 zero64) (vec zero64 one64 zero64)

-- the plane x = v
abbrev pub plane_at : Float → Mirror
plane_at v = record { point = vec v zero64 zero64; normal = vec one64 zero64 zero64 }

pub record ProvedCases : Type 0 where
  -- "this one"
  pub worked : WorkedExample
  -- "not-a-number slope at 0.5, move 0.2 gives 0.3": at any rate
  pub nan_slope : (rate : Float) → next_of false half (gain_of nan one64) (of_bits binary64 0x3fc9_9999_9999_999a) rate ≡ of_bits binary64 0x3fd3_3333_3333_3333
  -- "share 0.001, nothing held: 7"
  pub no_room : entry_of (two_free (of_bits binary64 0x3f50_624d_d2f1_a9fc)) ≡ Kept 7
  -- "middles 1 apart, radius 1: each row only its own element"
  pub own_rows : OwnRows (two_free half)
  -- "levels of 0.5, −3, 7: 500, 0, 1000"
  pub level_of_half : level_of half ≡ 500
  pub level_of_minus_three : level_of (neg (whole64 3)) ≡ 0
  pub level_of_seven : level_of (whole64 7) ≡ 1000
  -- "projection of 0 and 1 unchanged at all five steepnesses"
  pub projects_none : (k : ℕ) → k < 5 → projected (get_or stages k nan) zero64 ≡ zero64
  pub projects_all : (k : ℕ) → k < 5 → projected (get_or stages k nan) one64 ≡ one64
  -- "(0,0,2) and (0.25,0.25,1) to triangle (0,0,0),(1,0,0),(0,1,0): 4 and 1"
  pub above_corner : to_triangle (vec zero64 zero64 two64) ≡ of_bits binary64 0x4010_0000_0000_0000
  pub above_face : to_triangle (vec (of_bits binary64 0x3fd0_0000_0000_0000) (of_bits binary64 0x3fd0_0000_0000_0000) one64) ≡ one64
  -- "(2,0,0) in plane x = 0: (−2,0,0)"
  pub image_in_x : image (plane_at zero64) (vec two64 zero64 zero64) ≡ vec (neg two64) zero64 zero64
  -- "points at x = 0 and 1, plane x = 0: reaches 1 and 0, at 0.5 none": both zeros count as one
  pub reaches : off_centre_of two_points (plane_at zero64) ≡ Ok (Some (record { ahead = one64; behind = neg zero64 }))
  pub reaches_none : off_centre_of two_points (plane_at half) ≡ Ok None
