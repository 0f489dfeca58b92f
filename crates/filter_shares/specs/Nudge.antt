-- 02, CR 10: how far a filtered density moves where one design value is changed. Definitions only.
use Rattle.std.specs.Prelude.{ℕ, ◌+◌, ◌*◌, ◌^◌, ◌≤◌, ◌<◌, ◌≡◌, false, List, T, length, get_or, set, Float}
use Rattle.std.specs.Float.{nan, binary64}
use Rattle.std.specs.Float.Ieee.{le, fits}
use Rattle.lists.specs.Lists.{tabulate, choose, zero64}
use Rattle.ieee.specs.Basic.{one64, is_finite, clamp_of}
use Rattle.ieee_exact.specs.Exact.{amount, apart}
use Rattle.lent.specs.Domain.{thousandth64}
use Rattle.filter.specs.Filter.{met, neighbours, start, coefficient, coefficients}
use Rattle.filter.specs.Build.{Lent, Built}
use Rattle.filter_table.specs.Table.{applied}
use Rattle.filter_shares.specs.Weights.{meetings, OrdinaryRow}

-- an f64 "from 0.001 to 1"
pub record InRange (v : Float) : Type 0 where
  pub fit : T (fits binary64 v)
  pub least : T (le thousandth64 v)
  pub most : T (le v one64)

-- "change one design value, old and new from 0.001 to 1, the rest equal and in that range": element i of the n that the design x has gets the value v
pub record Nudge (n : ℕ) (x : List Float) (i : ℕ) (v : Float) : Type 0 where
  pub long : n ≤ length x
  pub old : (k : ℕ) → k < n → InRange (get_or x k nan)
  pub new : InRange v
  pub place : i < n

-- "Each clamped filtered density": that of row e of a table of n rows
abbrev pub clamped_at : List ℕ → List ℕ → List Float → ℕ → List Float → ℕ → Float
clamped_at starts near coef n x e = clamp_of (get_or (applied starts near coef x n) e nan)

-- 2 to the power −51 in units of 2 to the power −2148, which a product of two amounts has
abbrev pub share51 : ℕ
share51 = 2 ^ 2097

module _ (centroids : List (List Float)) (radius : Float) (planes : List (List Float)) (volumes : List Float) where
  -- row e's "weight for that element": none where the row is without it
  unfoldable pub weight_for : ℕ → ℕ → Float
  weight_for e i = choose (met centroids radius planes e i) (coefficient centroids radius planes volumes e i) zero64

  -- the rows of the table that stands in these lists, where element i of the design x gets the value v
  pub record RowsMove (starts near : List ℕ) (coef : List Float) : Type 0 where
    -- "Under the condition of the row weights above": "moves by at most its weight for that element times the change, plus k·2 to the power −51, all taken as exact fractions."
    pub within : (x : List Float) (i : ℕ) (v : Float) → Nudge (length centroids) x i v → (e : ℕ) → e < length centroids → OrdinaryRow centroids radius planes e volumes
        → apart (amount binary64 (clamped_at starts near coef (length centroids) x e)) (amount binary64 (clamped_at starts near coef (length centroids) (set x i v) e)) * 2 ^ 1074
        ≤ amount binary64 (weight_for e i) * apart (amount binary64 (get_or x i nan)) (amount binary64 v) + meetings centroids radius planes e * share51
    -- both are numbers, which `amount` alone does not say
    pub numbers : (x : List Float) (i : ℕ) (v : Float) → Nudge (length centroids) x i v → (e : ℕ) → e < length centroids → OrdinaryRow centroids radius planes e volumes
        → T (is_finite (clamped_at starts near coef (length centroids) x e)) × T (is_finite (clamped_at starts near coef (length centroids) (set x i v) e))
    -- "A row without that element gives equal bits.", whatever the design and the new value are
    pub without : (x : List Float) (i : ℕ) (v : Float) (e : ℕ) → e < length centroids → met centroids radius planes e i ≡ false
        → get_or (applied starts near coef (set x i v) (length centroids)) e nan ≡ get_or (applied starts near coef x (length centroids)) e nan

  -- "What one nudged element can do.", of the table that the definitions give
  abbrev pub DefinedMove : Type 0
  DefinedMove = length centroids ≤ 65535
      → RowsMove (tabulate (start centroids radius planes) (length centroids + 1)) (neighbours centroids radius planes (length centroids)) (coefficients centroids radius planes volumes (length centroids))

  -- of what an accepted build leaves in its lists
  abbrev pub BuiltMove : Type 0
  BuiltMove = (l l' : Lent) → Built centroids volumes radius planes l 0 l' → RowsMove l'.starts l'.near l'.coef
