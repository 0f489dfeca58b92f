-- The rates that an update tries and the volumes that it evaluates, one a rate, with no count kept. Definitions only.
use Rattle.std.specs.Prelude.{Bool, true, false, List, [], ◌∷◌, ◌++◌, map, ℕ, zero, suc, ◌-◌, ◌≤◌, Float}
use Rattle.std.specs.Float.{binary64}
use Rattle.std.specs.Float.Ieee.{mul}
use Rattle.oc_record.specs.Record.{two64}
use Rattle.update_rates.specs.Rates.{Given, Search, trial, reckoned, first_rate, first, raises, raised, middle, halves, halved, passes_allowed, raised_all}

-- what r says of each state that `while_to` goes on from
unfoldable pub turns_to : {A B : Type 0} → (A → Bool) → (A → A) → (A → B) → ℕ → A → List B
turns_to p f r zero s = []
turns_to p f r (suc n) s = elim (p s) [ true ↦ r s ∷ turns_to p f r n (f s) | false ↦ [] ]

module _ (g : Given) where
  -- "first rate, doubling, halving"
  unfoldable pub tried : List Float
  tried = first_rate g ∷ turns_to (raises g) (raised g) (λ s. mul binary64 two64 s.high) (passes_allowed - 1) (first g) ++ turns_to (halves g) (halved g) (middle g) (passes_allowed - (raised_all g).passes) (raised_all g)

  -- "each kept volume that the plain run's update evaluates is one reckoning made"
  unfoldable pub reckonings : List Float
  reckonings = map (λ (rate : Float). reckoned g (trial g rate)) tried

-- "at most 200 reckonings": the law `passes-at-most` says of an update that they are from 1 to 200
pub record Between (least most : ℕ) (s : Search) : Type 0 where
  pub from : least ≤ s.passes
  pub to : s.passes ≤ most
