-- What the functions of this crate promise its users in the build of the table. A caller must believe `Build` alone. Definitions only.
use Rattle.std.specs.Prelude.{◌≡◌, true, false, ◌||◌, ℕ, ◌+◌, ◌*◌, T, ltb, Float}
use Rattle.std.specs.Float.{binary64}
use Rattle.std.specs.Float.Ieee.{fits, le, lt}
use Rattle.lists.specs.Lists.{choose}
use Rattle.ieee_root.specs.Sqrt.{sqrt_of}

-- from limit on, a squared distance has a root that is not below the radius
abbrev pub Settles : Float → Float → Type 0
Settles radius limit = (d : Float) → T (fits binary64 d) → le limit d ≡ true → lt (sqrt_of binary64 d) radius ≡ false

-- 13 and 14 of row e, which ends at `end`, of lists of so many places
abbrev pub room_refusal : ℕ → ℕ → ℕ → ℕ → ℕ
room_refusal e end nears coefs = choose (ltb 536870912 (4 * (e + 2) + 12 * end)) 13 (choose (ltb nears end || ltb coefs end) 14 0)
