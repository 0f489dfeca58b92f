-- filter.rs, `Filter::within`: which elements a row takes in and how much of each, by a plain scan over all elements. Definitions only.
use Rattle.std.specs.Prelude.{ℕ, zero, suc, Bool, ◌&&◌, ◌||◌, get_or, Float}
use Rattle.std.proofs.Math.Bool.{not}
use mathlib.Core.List.{List, [], ◌∷◌, ◌++◌, map}
use Rattle.std.proofs.Math.ListN.{length}
use Rattle.std.specs.Float.{nan}
use Rattle.std.specs.Float.Ieee.{binary64, add, sub, mul, div, lt}
use Rattle.lists.specs.Lists.{fold_to, fold_over, sum_to, any_to, choose, zero64}
use Rattle.geom.specs.Vectors.{least, greatest, dist}
use Rattle.geom.specs.declared.Vec3.{Vec3}
use Rattle.cells.specs.Cells.{cell_at, near_cell}
use Rattle.geom.specs.Points.{point}
use Rattle.filter_group.specs.Group.{mirrors, members, image_in}

-- the numbers below n that p picks, in rising order
unfoldable pub chosen : (ℕ → Bool) → ℕ → List ℕ
unfolding choose
chosen p zero = []
chosen p (suc n) = choose (p n) (chosen p n ++ (n ∷ [])) (chosen p n)

-- the lists f 0, f 1 .. f (n - 1), one after the other
unfoldable pub joined : {A : Type 0} → (ℕ → List A) → ℕ → List A
joined f zero = []
joined f (suc n) = joined f n ++ f n

-- the middle of element i
abbrev pub middle : List (List Float) → ℕ → Vec3
middle centroids i = point (get_or centroids i [])

-- the corners of "the middles' box": `reduce` by min and by max, from the first middle on
unfoldable pub lowest : List (List Float) → Vec3
unfolding fold_over
lowest centroids = fold_over (λ i v. least v (middle centroids i)) (middle centroids 0) 1 (length centroids)

unfoldable pub highest : List (List Float) → Vec3
unfolding fold_over
highest centroids = fold_over (λ i v. greatest v (middle centroids i)) (middle centroids 0) 1 (length centroids)

-- not "within one radius of the middles' box", whose corners are lo and hi
unfoldable pub outside : Vec3 → Vec3 → Float → Vec3 → Bool
outside lo hi radius q =
    lt q.x (sub binary64 lo.x radius) || lt q.y (sub binary64 lo.y radius) || lt q.z (sub binary64 lo.z radius)
    || lt (add binary64 hi.x radius) q.x || lt (add binary64 hi.y radius) q.y || lt (add binary64 hi.z radius) q.z

module _ (centroids : List (List Float)) (radius : Float) where
  -- "A candidate's cube must be within one of the image's cube on each axis": a cube is as wide as the radius and counted from the box's lower corner
  unfoldable pub near_cubes : Vec3 → Vec3 → Bool
  unfolding cell_at near_cell lowest
  near_cubes p q =
      let lo = lowest centroids in
      near_cell
      (cell_at p.x lo.x radius) (cell_at p.y lo.y radius) (cell_at p.z lo.z radius)
      (cell_at q.x lo.x radius) (cell_at q.y lo.y radius) (cell_at q.z lo.z radius)

  -- whether element i counts for the image q: "and the image within one radius of the middles' box"; "only at distance strictly below the radius"
  unfoldable pub counts : Vec3 → ℕ → Bool
  unfolding outside near_cubes dist lowest highest
  counts q i = not (outside (lowest centroids) (highest centroids) radius q) && (near_cubes (middle centroids i) q && lt (dist q (middle centroids i)) radius)

  -- how much: what is left of the radius
  abbrev pub share : Vec3 → ℕ → Float
  share q i = sub binary64 radius (dist q (middle centroids i))

  module _ (planes : List (List Float)) where
    -- the middle of element e under member g of the group
    abbrev pub seen : ℕ → ℕ → Vec3
    seen e g = image_in (mirrors planes) g (middle centroids e)

    -- whether row e has an entry for element i: "met under" some reflection
    unfoldable pub met : ℕ → ℕ → Bool
    unfolding any_to counts
    met e i = any_to (λ g. counts (seen e g) i) (members planes)

    -- "its weights added in the order of `mirror_group`"
    unfoldable pub weight : ℕ → ℕ → Float
    unfolding fold_to counts choose
    weight e i = fold_to (λ g w. choose (counts (seen e g) i) (add binary64 w (share (seen e g) i)) w) zero64 (members planes)

    -- the elements that row e takes in, in rising order
    unfoldable pub columns : ℕ → List ℕ
    unfolding chosen met
    columns e = chosen (met e) (length centroids)

    -- the rows below e, one after the other: row e starts where they end
    unfoldable pub neighbours : ℕ → List ℕ
    unfolding joined columns
    neighbours e = joined columns e

    unfoldable pub start : ℕ → ℕ
    unfolding neighbours
    start e = length (neighbours e)

    module _ (volumes : List Float) where
      -- what element i comes to in row e: its weight by its volume
      unfoldable pub product : ℕ → ℕ → Float
      unfolding weight
      product e i = mul binary64 (weight e i) (get_or volumes i nan)

      -- the sum of a row, from the left
      unfoldable pub row_sum : ℕ → Float
      unfolding sum_to product columns
      row_sum e = sum_to (λ k. product e (get_or (columns e) k 0)) (length (columns e))

      -- the share of element i in row e
      abbrev pub coefficient : ℕ → ℕ → Float
      coefficient e i = div binary64 (product e i) (row_sum e)

      unfoldable pub coefficients : ℕ → List Float
      unfolding joined columns product row_sum
      coefficients e = joined (λ j. map (coefficient j) (columns j)) e
