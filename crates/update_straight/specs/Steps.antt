-- What the steps of the code promise each other. Definitions only.
use Rattle.std.specs.Prelude.{◌≡◌, Bool, true, false, not, ◌&&◌, List, length, get_or, Float}
use Rattle.std.specs.Float.{nan, binary64}
use Rattle.std.specs.Float.Ieee.{div, lt, le}
use Rattle.lists.specs.Lists.{any_to, zero64}
use Rattle.ieee.specs.Basic.{one64}
use Rattle.oc_goal.specs.Goal.{xMin}
use Rattle.update_rates.specs.Rates.{Given}
use Rattle.update_rates.specs.Steps.{lowest, more, off}
use Rattle.update_rates.specs.declared.Bracket.{Bracket}

-- 1.0 / 0.0
abbrev pub infinity : Float
infinity = div binary64 one64 zero64

-- an element's old value, gain and slope of the volume as a run has them: 1 / dv is above 0 only where dv is +0 or above and no infinity
unfoldable pub usual : Float → Float → Float → Bool
usual x gain dv = le lowest x && le x one64 && lt gain infinity && lt zero64 (div binary64 one64 dv)

-- the same of all, with the move, the volume held solid and the target
unfoldable pub orderly : List Float → List Float → List Float → Float → Float → Float → Bool
orderly x gain dv move solid target =
    not (any_to (λ k. not (usual (get_or x k nan) (get_or gain k nan) (get_or dv k nan))) (length x)) && (le xMin move && le move one64) && (lt zero64 (div binary64 one64 solid) && lt zero64 (div binary64 one64 target))

-- all rates up to `below` keep too much, and all from `above` on too little
pub record Knows (g : Given) (k : Bracket) : Type 0 where
  pub low : (rate : Float) → lt zero64 rate ≡ true → le rate k.low ≡ true → (more g rate ≡ true) × (off g rate ≡ true)
  pub high : (rate : Float) → le k.high rate ≡ true → lt rate infinity ≡ true → (more g rate ≡ false) × (off g rate ≡ true)
