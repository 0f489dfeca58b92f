-- Demand 3: "After each update held elements are 1 and free ones lie from 0.001 to 1, within the round's move as 01 rounds it." Here of one update.
-- Definitions only.
use Rattle.std.specs.Prelude.{◌≡◌, Bool, true, false, List, ℕ, ◌<◌, T, length, get_or, Float}
use Rattle.std.specs.Float.{nan, binary64}
use Rattle.std.specs.Float.Ieee.{add, sub, le}
use Rattle.ieee.specs.Basic.{one64}
use Rattle.oc_goal.specs.Goal.{xMin}

-- a free element's value v after an update, and its old one: sum and difference are rounded
pub record Bounded (old move v : Float) : Type 0 where
  pub least : T (le xMin v)
  pub most : T (le v one64)
  pub down : T (le (sub binary64 old move) v)
  pub up : T (le v (add binary64 old move))

-- the design x before an update, and y after it
pub record UpdatedBy (passive : List Bool) (move : Float) (x y : List Float) : Type 0 where
  pub long : length y ≡ length x
  pub held : (k : ℕ) → k < length x → get_or passive k false ≡ true → get_or y k nan ≡ one64
  pub free : (k : ℕ) → k < length x → get_or passive k false ≡ false → Bounded (get_or x k nan) move (get_or y k nan)
