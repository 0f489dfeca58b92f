-- 01, "The rounds": "Start, filter row, projection, slopes and grey are `optimize`'s formulas, in its operation order." Here the start. Definitions only.
use Rattle.std.specs.Prelude.{min, Bool, false, List, length, get_or, Float}
use Rattle.std.specs.Float.{nan, binary64}
use Rattle.std.specs.Float.Ieee.{add}
use Rattle.lists.specs.Lists.{tabulate, fold_to, choose, zero64}
use Rattle.ieee.specs.Basic.{one64}

-- the volumes of the elements held solid, added in order
unfoldable pub solid_volume : List Float → List Bool → Float
solid_volume volumes passive =
    fold_to (λ k t. choose (get_or passive k false) (add binary64 t (get_or volumes k nan)) t) zero64 (min (length volumes) (length passive))

-- `if *p { 0.0 } else { *v }`
unfoldable pub free_volumes : List Float → List Bool → List Float
free_volumes volumes passive = tabulate (λ k. choose (get_or passive k false) zero64 (get_or volumes k nan)) (length volumes)

-- `if *p { 1.0 } else { start }`
unfoldable pub start_design : List Bool → Float → List Float
start_design passive start = tabulate (λ k. choose (get_or passive k false) one64 start) (length passive)
