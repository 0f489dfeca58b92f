-- 01, "The rounds": how an update ends. Definitions only.
use Rattle.std.specs.Prelude.{Bool, not, ◌&&◌, ℕ, eqb, Float}
use Rattle.std.specs.Float.{binary64}
use Rattle.std.specs.Float.Ieee.{sub, le, is_nan}
use Rattle.lists.specs.Lists.{choose}
use Rattle.ieee.specs.Basic.{abs_of}
use Rattle.topo.specs.declared.Ending.{Ending}
use Rattle.topo.specs.declared.Ending.TheVariants.{Met, Cramped, Spent}
use Rattle.update_rates.specs.Rates.{passes_allowed}

-- "Met: the kept volume is a number and differs from share·total by at most 1e-10·total." No comparison holds of what is no number
unfoldable pub met : Float → Float → Float → Bool
met target tolerance kept = le (abs_of (sub binary64 kept target)) tolerance

-- "Spent: it is a number, not met, and 200 reckonings are made."
unfoldable pub spent : Float → ℕ → Bool
spent kept passes = not (is_nan kept) && eqb passes passes_allowed

-- "met with the kept volume, cramped with both rates of its bracket, or spent with the kept volume"
unfoldable pub ending_of : Float → Float → Float → Float → Float → ℕ → Ending
ending_of target tolerance low high kept passes = choose (met target tolerance kept) (Met kept) (choose (spent kept passes) (Spent kept) (Cramped low high))
