-- Which updates keep to the bounds of `Bounds`: all from values and with a move that a run can have, whatever the slopes, the rates and the volumes.
-- Definitions only.
use Rattle.std.specs.Prelude.{◌≡◌, false, List, ℕ, ◌<◌, T, length, get_or, Float}
use Rattle.std.specs.Float.{nan, binary64}
use Rattle.std.specs.Float.Ieee.{le, fits}
use Rattle.ieee.specs.Basic.{one64, negative}
use Rattle.oc_goal.specs.Goal.{xMin}
use Rattle.update_rates.specs.Rates.{Given, updated}
use Rattle.update_rates.specs.Bounds.{UpdatedBy}

-- a value from 0 to 1, with no minus
pub record Range (x : Float) : Type 0 where
  pub fit : T (fits binary64 x)
  pub sign : negative x ≡ false
  pub most : T (le x one64)

abbrev pub AllRange : List Float → Type 0
AllRange x = (k : ℕ) → k < length x → Range (get_or x k nan)

-- a move from 0.001 to 1
pub record Move (m : Float) : Type 0 where
  pub fit : T (fits binary64 m)
  pub least : T (le xMin m)
  pub most : T (le m one64)

-- the bounds are kept, and the values are such again
pub record Keeps (g : Given) : Type 0 where
  pub bounds : UpdatedBy g.passive g.move g.x (updated g).design
  pub range : AllRange (updated g).design

abbrev pub EveryUpdate : Type 0
EveryUpdate = (g : Given) → AllRange g.x → Move g.move → Keeps g
