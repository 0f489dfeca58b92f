-- What a search with sharpening goes by, and what it keeps from one rate to the next. Definitions only.
use Rattle.std.specs.Prelude.{◌≡◌, List, Float}
use Rattle.oc_kept.specs.declared.Rule.TheVariants.{Sharpened}
use Rattle.update_rates.specs.Rates.{Given, trial, reckoned}
use Rattle.update_rates.specs.Steps.{given_of}
use Rattle.update_sharpened.specs.declared.sharp.Ahead.{Ahead}
use Rattle.update_sharpened.specs.declared.sharp.Sharp.{Sharp}

-- what the update is given
abbrev pub sharp_of : Sharp → Given
sharp_of s = given_of s.problem (Sharpened s.reckoning.at.beta) s.reckoning.formed.table s.reckoning.volumes.now

-- the volumes of the two designs at hand, of which the second is that of the rate reckoned ahead
pub record IsAhead (g : Given) (a : Ahead) (design work : List Float) : Type 0 where
  pub one : a.keep.a ≡ reckoned g design
  pub two : a.keep.b ≡ reckoned g work
  pub next : work ≡ trial g a.next
