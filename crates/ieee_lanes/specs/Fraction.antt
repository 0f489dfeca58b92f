-- The continued fraction of 01's tanh by the square of its argument, and bounds of it: for the steps of the code alone. Definitions only.
use Rattle.std.specs.Prelude.{ℕ, ◌-◌, ◌*◌, Bool, ◌&&◌, T, Float}
use Rattle.std.specs.Float.{binary64}
use Rattle.std.specs.Float.Ieee.{add, div, lt, le, fits, of_bits}
use Rattle.lists.specs.Lists.{fold_to, zero64}
use Rattle.ieee.specs.Basic.{one64, whole64}

-- `lambert` of the root of q
unfoldable pub fraction : Float → ℕ → Float
unfolding fold_to
fraction q n = fold_to (λ i r. add binary64 (whole64 (61 - 2 * i)) (div binary64 q r)) (whole64 63) n

-- above 0 and at most 1
unfoldable pub small_of : Float → Bool
small_of q = lt zero64 q && le q one64 && le (div binary64 q one64) one64

-- 64.0
abbrev pub sixty_four : Float
sixty_four = of_bits binary64 0x4050_0000_0000_0000

-- 1 ≤ low ≤ r ≤ high ≤ 64
pub record Between (r low high : Float) : Type 0 where
  pub least : T (le one64 low)
  pub below : T (le low r)
  pub above : T (le r high)
  pub most : T (le high sixty_four)
  pub fit : T (fits binary64 low)
