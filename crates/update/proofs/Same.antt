-- The filter and the volumes serve sharpening alone. Assumes nothing.
use mathlib.Core.Path.{◌≡◌, refl}
use mathlib.Core.Bool.{Bool}
use mathlib.Core.List.{List, []}
use Prim.Native.Nat.{ℕ}
use lib.Ieee.{Float}
use Rattle.oc_kept.specs.declared.Rule.TheVariants.{Straight}
use Rattle.oc_kept.specs.Kept.{kept_of}
use Rattle.update_rates.specs.Rates.{given, trial, reckoned, first_rate, first, raises, raised, middle, halves, halved, raised_all, updated}

module _ (x gain dv : List Float) (passive : List Bool) (m target tolerance solid : Float) (starts near : List ℕ) (coef volumes : List Float) where
  pub first-same : first_rate (given x gain dv passive m target tolerance (Straight solid) starts near coef volumes) ≡ first_rate (given x gain dv passive m target tolerance (Straight solid) [] [] [] [])
  unfolding first_rate
  first-same = refl

  pub updated-same : updated (given x gain dv passive m target tolerance (Straight solid) [] [] [] []) ≡ updated (given x gain dv passive m target tolerance (Straight solid) starts near coef volumes)
  unfolding updated raised_all first first_rate raises raised middle halves halved trial reckoned kept_of
  updated-same = refl
