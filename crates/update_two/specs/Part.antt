-- What one element adds to the volume that a design keeps, sharpened: for the steps of the code alone. Definitions only.
use Rattle.std.specs.Prelude.{ℕ, ◌+◌, Bool, false, Some, List, get_or, Float}
use Rattle.std.specs.Float.{nan, binary64}
use Rattle.std.specs.Float.Ieee.{sub, mul}
use Rattle.ieee.specs.Basic.{clamp_of}
use Rattle.filter_table.specs.Table.{row_sum}
use Rattle.oc_project.specs.Project.{project_at}
use Rattle.oc_seen.specs.Seen.{element_density}

-- what `project` takes the tanh of, from a filtered value
unfoldable pub bent : Float → Float → Float
bent beta v = mul binary64 beta (sub binary64 (clamp_of v) project_at)

unfoldable pub part : Float → List ℕ → List ℕ → List Float → List Float → List Bool → List Float → ℕ → Float
part beta starts near coef volumes passive y e =
    mul binary64 (get_or volumes e nan) (element_density (Some beta) (get_or passive e false) (row_sum near coef y (get_or starts e 0) (get_or starts (e + 1) 0)))
