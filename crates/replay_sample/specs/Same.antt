-- 01, "Domain and stand-ins": "Bits are compared with both zeros as one and all not-a-numbers as one." Definitions only.
use Rattle.std.specs.Prelude.{Bool, ◌&&◌, ◌||◌, Float}
use Rattle.std.specs.Float.Ieee.{eq, ne}

-- a not-a-number alone differs from itself
abbrev pub alike : Float → Float → Bool
alike x y = eq x y || (ne x x && ne y y)
