-- 02, CR 9: how near the weights of a filter row come to a sum of one. Definitions only.
use Rattle.std.specs.Prelude.{ℕ, ◌+◌, ◌-◌, ◌*◌, ◌^◌, ◌≤◌, ◌<◌, List, T, length, get_or, Float}
use Rattle.std.specs.Float.{nan, binary64}
use Rattle.std.specs.Float.Ieee.{le, of_bits}
use Rattle.lists.specs.Lists.{tabulate, choose, sum_to}
use Rattle.ieee.specs.Basic.{is_finite}
use Rattle.ieee_exact.specs.Exact.{amount, total}
use Rattle.filter_group.specs.Group.{members}
use Rattle.filter.specs.Filter.{counts, seen, columns, start, product, row_sum, coefficient, coefficients}
use Rattle.filter.specs.Build.{Lent, Built}

-- 2 to the power −1022
abbrev pub least64 : Float
least64 = of_bits binary64 0x0010_0000_0000_0000

-- "finite and at least 2 to the power −1022"
pub record Ordinary (x : Float) : Type 0 where
  pub finite : T (is_finite x)
  pub least : T (le least64 x)

module _ (centroids : List (List Float)) (radius : Float) (planes : List (List Float)) (e : ℕ) where
  -- k: "Where the row is made from k products, one for each reflection in which a neighbour is met"
  unfoldable pub meetings : ℕ
  unfolding total choose
  meetings = total (λ i. total (λ g. choose (counts centroids radius (seen centroids radius planes e g) i) 1 0) (members planes)) (length centroids)

  -- how many neighbours row e has, and which is the j-th, from 0
  abbrev pub entries : ℕ
  entries = length (columns centroids radius planes e)

  abbrev pub entry : ℕ → ℕ
  entry j = get_or (columns centroids radius planes e) j 0

  module _ (volumes : List Float) where
    -- the row's products and weights
    abbrev pub product_at : ℕ → Float
    product_at j = product centroids radius planes volumes e (entry j)

    abbrev pub weight_at : ℕ → Float
    weight_at j = coefficient centroids radius planes volumes e (entry j)

    -- "all its products, partial sums and weights are finite and at least 2 to the power −1022"
    pub record OrdinaryRow : Type 0 where
      pub products : (j : ℕ) → j < entries → Ordinary (product_at j)
      pub sums : (j : ℕ) → j < entries → Ordinary (sum_to product_at (j + 1))
      pub sum : Ordinary (row_sum centroids radius planes volumes e)
      pub weights : (j : ℕ) → j < entries → Ordinary (weight_at j)

-- "Take the weights of a row as exact fractions.": their sum as they stand in a table's lists, in units of 2 to the power −1074
unfoldable pub weight_sum : List ℕ → List Float → ℕ → ℕ
unfolding total amount
weight_sum starts coef e = total (λ k. amount binary64 (get_or coef (get_or starts e 0 + k) nan)) (get_or starts (e + 1) 0 - get_or starts e 0)

-- 2 to the power −52 in these units
abbrev pub share52 : ℕ
share52 = 2 ^ 1022

-- "their sum differs from 1 by at most k·2 to the power −52": "The bound is over whole numbers, so no real arithmetic enters."
pub record NearOne (k sum : ℕ) : Type 0 where
  pub above : sum ≤ 2 ^ 1074 + k * share52
  pub below : 2 ^ 1074 ≤ sum + k * share52

module _ (centroids : List (List Float)) (radius : Float) (planes : List (List Float)) (volumes : List Float) where
  -- "Row weights add to one, nearly.", of the rows of the table that stands in these lists
  pub record RowsNearOne (starts : List ℕ) (coef : List Float) : Type 0 where
    pub by-meetings : (e : ℕ) → e < length centroids → OrdinaryRow centroids radius planes e volumes → NearOne (meetings centroids radius planes e) (weight_sum starts coef e)
    -- the code makes one product for each neighbour, so that fewer are enough
    pub by-neighbours : (e : ℕ) → e < length centroids → OrdinaryRow centroids radius planes e volumes → NearOne (entries centroids radius planes e) (weight_sum starts coef e)
    pub fewer : (e : ℕ) → entries centroids radius planes e ≤ meetings centroids radius planes e

  -- of the table that the definitions give
  abbrev pub DefinedNearOne : Type 0
  DefinedNearOne = RowsNearOne (tabulate (start centroids radius planes) (length centroids + 1)) (coefficients centroids radius planes volumes (length centroids))

  -- of what an accepted build leaves in its lists
  abbrev pub BuiltNearOne : Type 0
  BuiltNearOne = (l l' : Lent) → Built centroids volumes radius planes l 0 l' → RowsNearOne l'.starts l'.coef
