-- The three thirds, by computing. Assumes nothing.
use mathlib.Core.Path.{◌≡◌, refl}
use mathlib.Core.Bool.{true}
use Prim.Native.Nat.{ℕ, zero, suc, ◌+◌, ◌-◌, ◌^◌, ◌<◌}
use native.Mathlib.Omega.{arith}
use lib.ListN.{get_or}
use lib.Ieee as Ieee
use Rattle.lists.specs.Lists as Lists
use Rattle.ieee.specs.Basic as Basic
use Rattle.ieee.specs.Basic.{one64}
use Rattle.ieee_root.specs.Sqrt as Sqrt
use Rattle.ieee_whole.specs.Whole as Whole
use Rattle.geom.specs.Vectors as Vectors
use Rattle.cells.specs.Cells as Cells
use Rattle.lent.specs.Domain.{thousandth64}
use Rattle.filter_group.specs.Group as Group
use Rattle.filter.specs.Filter as Filter
use Rattle.filter_shares.specs.Weights as Weights
use Rattle.filter_shares.specs.Weights.{Ordinary, OrdinaryRow, product_at, weight_at, entries, meetings, weight_sum}
use Rattle.filter_shares.specs.Nudge.{InRange, Nudge}
use Rattle.filter_shares_case.specs.Thirds.{Thirds, middles, planes, volumes}

three : entries middles one64 planes 0 ≡ 3
unfolding Ieee.of_bits Filter.columns Ieee.lt Group.image_in Group.unit Vectors.normalized Vectors.image Ieee.sub Ieee.add Vectors.least Basic.min_of Ieee.is_nan Vectors.greatest Basic.max_of Cells.nearby Whole.floor_at Ieee.div Vectors.len Sqrt.sqrt_of Vectors.len2 Vectors.dot Ieee.mul Vectors.less Vectors.scaled
three = refl

six : meetings middles one64 planes 0 ≡ 6
unfolding Ieee.of_bits Filter.columns Ieee.lt Group.image_in Group.unit Vectors.normalized Vectors.image Ieee.sub Ieee.add Vectors.least Basic.min_of Ieee.is_nan Vectors.greatest Basic.max_of Cells.nearby Whole.floor_at Ieee.div Vectors.len Sqrt.sqrt_of Vectors.len2 Vectors.dot Ieee.mul Vectors.less Vectors.scaled Weights.meetings
six = refl

each : (P : ℕ → Type 0) → P 0 → P 1 → P 2 → (j : ℕ) → j < entries middles one64 planes 0 → P j
each P a b c zero h = a
each P a b c (suc zero) h = b
each P a b c (suc (suc zero)) h = c
each P a b c (suc (suc (suc j))) h = absurd (let e = three in omega arith)

ordinary : OrdinaryRow middles one64 planes 0 volumes
unfolding Ieee.of_bits Filter.columns Ieee.lt Group.image_in Group.unit Vectors.normalized Vectors.image Ieee.sub Ieee.add Vectors.least Basic.min_of Ieee.is_nan Vectors.greatest Basic.max_of Cells.nearby Whole.floor_at Ieee.div Vectors.len Sqrt.sqrt_of Vectors.len2 Vectors.dot Ieee.mul Vectors.less Vectors.scaled Filter.product Filter.row_sum Ieee.le Basic.is_finite Lists.sum_to
ordinary =
    record {
      products = each (λ j. Ordinary (product_at middles one64 planes 0 volumes j)) (record { finite = tt; least = tt }) (record { finite = tt; least = tt }) (record { finite = tt; least = tt });
      sums = each (λ j. Ordinary (Lists.sum_to (product_at middles one64 planes 0 volumes) (j + 1))) (record { finite = tt; least = tt }) (record { finite = tt; least = tt }) (record { finite = tt; least = tt });
      sum = record { finite = tt; least = tt };
      weights = each (λ j. Ordinary (weight_at middles one64 planes 0 volumes j)) (record { finite = tt; least = tt }) (record { finite = tt; least = tt }) (record { finite = tt; least = tt });
    }

weights-sum : weight_sum (Lists.tabulate (Filter.start middles one64 planes) 4) (Filter.coefficients middles one64 planes volumes 3) 0 ≡ 2 ^ 1074 - 2 ^ 1020
unfolding Ieee.of_bits Filter.columns Ieee.lt Group.image_in Group.unit Vectors.normalized Vectors.image Ieee.sub Ieee.add Vectors.least Basic.min_of Ieee.is_nan Vectors.greatest Basic.max_of Cells.nearby Whole.floor_at Ieee.div Vectors.len Sqrt.sqrt_of Vectors.len2 Vectors.dot Ieee.mul Vectors.less Vectors.scaled Filter.product Filter.row_sum Ieee.le Basic.is_finite Lists.sum_to Lists.tabulate Filter.start Filter.neighbours Filter.coefficients Weights.weight_sum
weights-sum = refl

in-range : InRange one64 × InRange thousandth64
unfolding Ieee.of_bits Ieee.le Ieee.fits
in-range = (record { fit = tt; least = tt; most = tt }, record { fit = tt; least = tt; most = tt })

nudged : Nudge 3 volumes 0 thousandth64
nudged = record { long = omega arith; old = solid; new = in-range.1; place = omega arith }
  where
    solid : (k : ℕ) → k < 3 → InRange (get_or volumes k Ieee.nan)
    solid zero h = in-range.0
    solid (suc zero) h = in-range.0
    solid (suc (suc zero)) h = in-range.0
    solid (suc (suc (suc k))) h = absurd (omega arith)

hit : Filter.met middles one64 planes 0 0 ≡ true
unfolding Ieee.of_bits Filter.met Ieee.lt Group.image_in Group.unit Vectors.normalized Vectors.image Ieee.sub Ieee.add Vectors.least Basic.min_of Ieee.is_nan Vectors.greatest Basic.max_of Cells.nearby Whole.floor_at Ieee.div Vectors.len Sqrt.sqrt_of Vectors.len2 Vectors.dot Ieee.mul Vectors.less Vectors.scaled
hit = refl

pub thirds : Thirds
thirds = record { holds = ordinary; neighbours = three; meets = six; sum = weights-sum; nudge = nudged; meets_it = hit }
