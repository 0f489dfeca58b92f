-- A row whose weights do not add up to one: three elements at one place on a plane of symmetry, each met twice. Each weight is 1/3, rounded. The volumes are 1, and stand
-- for a solid design too. Definitions only.
use Rattle.std.specs.Prelude.{◌≡◌, true, List, [], ◌∷◌, ◌-◌, ◌^◌, Float}
use Rattle.lists.specs.Lists.{tabulate, zero64}
use Rattle.ieee.specs.Basic.{one64}
use Rattle.lent.specs.Domain.{thousandth64}
use Rattle.filter.specs.Filter.{met, start, coefficients}
use Rattle.filter_shares.specs.Weights.{meetings, entries, weight_sum, OrdinaryRow}
use Rattle.filter_shares.specs.Nudge.{Nudge}

abbrev pub middles : List (List Float)
middles = (zero64 ∷ zero64 ∷ zero64 ∷ []) ∷ (zero64 ∷ zero64 ∷ zero64 ∷ []) ∷ (zero64 ∷ zero64 ∷ zero64 ∷ []) ∷ []

-- the plane x = 0
abbrev pub planes : List (List Float)
planes = (zero64 ∷ zero64 ∷ zero64 ∷ one64 ∷ zero64 ∷ zero64 ∷ []) ∷ []

abbrev pub volumes : List Float
volumes = one64 ∷ one64 ∷ one64 ∷ []

-- the condition holds, k is 6 and not 3, and the sum is 2 to the power −54 below 1; the first of three solid elements may be nudged to 0.001, and the row has it
pub record Thirds : Type 0 where
  pub holds : OrdinaryRow middles one64 planes 0 volumes
  pub neighbours : entries middles one64 planes 0 ≡ 3
  pub meets : meetings middles one64 planes 0 ≡ 6
  pub sum : weight_sum (tabulate (start middles one64 planes) 4) (coefficients middles one64 planes volumes 3) 0 ≡ 2 ^ 1074 - 2 ^ 1020
  pub nudge : Nudge 3 volumes 0 thousandth64
  pub meets_it : met middles one64 planes 0 0 ≡ true
