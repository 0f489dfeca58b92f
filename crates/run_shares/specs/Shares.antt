-- 02, CR 9 and CR 10, of the table that an opened run reads. Definitions only.
use Rattle.std.specs.Prelude.{◌≤◌, length}
use Rattle.filter_shares.specs.Weights.{RowsNearOne}
use Rattle.filter_shares.specs.Nudge.{RowsMove}
use Rattle.run_plain.specs.Opening.{Opening, starts_of, near_of, coef_of}

-- "Row weights add to one, nearly.": the plain run's own
abbrev pub RunNearOne : Opening → Type 0
RunNearOne o = RowsNearOne o.centroids o.goal.radius o.mirrors o.volumes (starts_of o) (coef_of o)

-- "What one nudged element can do." in it; 3 refuses more elements
abbrev pub RunMove : Opening → Type 0
RunMove o = length o.centroids ≤ 65535 → RowsMove o.centroids o.goal.radius o.mirrors o.volumes (starts_of o) (near_of o) (coef_of o)
