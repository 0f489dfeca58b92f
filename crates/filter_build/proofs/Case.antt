-- 01's proved case of filter.rs: "middles 1 apart, radius 1: each row only its own element". Three middles in a row, worked out by the definitions
-- that `Built` cites; and for any middles without planes, that a row has nothing at distance the radius or more. Assumes nothing.
use mathlib.Core.Path.{◌≡◌, refl}
use mathlib.Core.Bool.{true, not}
use mathlib.Core.List.{List, [], ◌∷◌}
use Prim.Native.Nat.{ℕ, ◌<◌}
use lib.ListN.{length, get_or}
use lib.Ieee.{Float, is_nan, of_bits, add, sub, mul, div, lt}
use Rattle.lists.specs.Lists.{tabulate, zero64}
use Rattle.lists.proofs.Laws.{both}
use Rattle.ieee.specs.Basic.{one64, min_of, max_of}
use Rattle.ieee_root.specs.Sqrt.{sqrt_of}
use Rattle.ieee_whole.specs.Whole.{floor_at}
use Rattle.geom.specs.Vectors.{two64, least, greatest, less, dot, len2, len, dist}
use Rattle.cells.specs.Cells.{cell_at, nearby, near_cell}
use Rattle.filter_group.specs.Group.{image_in}
use Rattle.filter.specs.Filter.{middle, outside, near_cubes, met, columns, start, neighbours, coefficients, lowest, highest}
use Rattle.filter_look.proofs.Chosen.{chosen-rising}

-- (0, 0, 0), (1, 0, 0) and (2, 0, 0), volumes 1
abbrev pub apart : List (List Float)
apart = (zero64 ∷ zero64 ∷ zero64 ∷ []) ∷ (one64 ∷ zero64 ∷ zero64 ∷ []) ∷ (two64 ∷ zero64 ∷ zero64 ∷ []) ∷ []

abbrev pub ones : List Float
ones = one64 ∷ one64 ∷ one64 ∷ []

pub only-its-own : neighbours apart one64 [] 3 ≡ 0 ∷ 1 ∷ 2 ∷ []
unfolding neighbours least greatest min_of max_of is_nan less dot len2 len dist sqrt_of nearby cell_at floor_at near_cell image_in of_bits add sub mul div lt
only-its-own = refl

pub one-place-each : tabulate (start apart one64 []) 4 ≡ 0 ∷ 1 ∷ 2 ∷ 3 ∷ []
unfolding tabulate start least greatest min_of max_of is_nan less dot len2 len dist sqrt_of nearby cell_at floor_at near_cell image_in of_bits add sub mul div lt
one-place-each = refl

pub whole-weight : coefficients apart one64 [] ones 3 ≡ ones
unfolding coefficients least greatest min_of max_of is_nan less dot len2 len dist sqrt_of nearby cell_at floor_at near_cell image_in of_bits add sub mul div lt
whole-weight = refl

-- "A neighbour counts only at distance strictly below the radius"
module _ (centroids : List (List Float)) (radius : Float) where
  near-enough : (e i : ℕ) → met centroids radius [] e i ≡ true → lt (dist (middle centroids e) (middle centroids i)) radius ≡ true
  unfolding met image_in
  near-enough e i h = (both (near_cubes centroids radius (middle centroids i) (middle centroids e)) _ (both (not (outside (lowest centroids) (highest centroids) radius (middle centroids e))) _ h).1).1

  pub not-at_the_radius : (e k : ℕ) → k < length (columns centroids radius [] e) → lt (dist (middle centroids e) (middle centroids (get_or (columns centroids radius [] e) k 0))) radius ≡ true
  unfolding columns
  not-at_the_radius e k h = near-enough e (get_or (columns centroids radius [] e) k 0) ((chosen-rising (met centroids radius [] e) (length centroids)).picked k h)
