-- The numbers that stand for the cases of an enum: 01, "For an answer that is an enum, a definition gives this paper's number and values for each case."
-- Definitions only.
use Rattle.std.specs.Prelude.{Bool, ℕ, Option, Some, None, eqb, Float}
use Rattle.lists.specs.Lists.{choose, zero64}
use Rattle.oc_kept.specs.declared.Rule.{Rule}
use Rattle.oc_kept.specs.declared.Rule.TheVariants.{Straight, Sharpened}
use Rattle.update_rates.specs.Rates.{Given, updated}
use Rattle.update.specs.declared.Updated.{Updated}
use Rattle.update_rates.specs.Ending.{ending_of}
use Rattle.capi.specs.declared.rounds.Start.{Start}
use Rattle.capi.specs.declared.rounds.Kept.{Kept}

-- beta counts where the densities are sharpened
abbrev pub sharpness_of : Bool → Float → Option Float
sharpness_of sharpen beta = choose sharpen (Some beta) None

-- 0: the volume goes straight with the design, and value is the volume held solid. Any other number: sharpened, at the steepness value
abbrev pub rule_of : ℕ → Float → Rule
rule_of number value = choose (eqb number 0) (Straight value) (Sharpened value)

-- what `update` answers
unfoldable pub answer_of : Given → Updated
answer_of g = let s = updated g in record { ending = ending_of g.target g.tolerance s.low s.high s.kept s.passes; passes = s.passes }

-- refusals that go with zeros
abbrev pub start_refused : ℕ → Start
start_refused number = record { refused = number; total = zero64; solid = zero64; target = zero64; tolerance = zero64; density = zero64 }

abbrev pub kept_refused : ℕ → Kept
kept_refused number = record { refused = number; volume = zero64 }
