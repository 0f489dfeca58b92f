-- What a call refuses its lists for. Definitions only.
use Rattle.std.specs.Prelude.{Bool, ℕ}
use Rattle.lists.specs.Lists.{choose}

-- 01's 1, "differ in count", and 14, "a lent list shorter than needed"; 0 where neither is so
abbrev pub refusal_of : Bool → Bool → ℕ
refusal_of differ short = choose differ 1 (choose short 14 0)
