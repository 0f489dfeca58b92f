-- `region_cells::cells_of` meets its contract. The invariant: the cells of the middles passed are written. Assumes nothing.
use Rattle.geom.specs.Points.{point}
use Rattle.lists.specs.Lists.{overwrite}
use Rattle.region_cells.proofs.cells_of.Given as goal
use Rattle.region_cells.specs.Steps.{cell_about}
use lib.ListN.{get_or}
use mathlib.Core.List.{[]}
use mathlib.Core.Path.{◌≡◌}

abbrev pub invariant-loop-i : goal.invariant-loop-i
invariant-loop-i l = l.cells ≡ overwrite (λ j. cell_about l.size (point (get_or l.centroids j []))) l.i l.initial.cells
