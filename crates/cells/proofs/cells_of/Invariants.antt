-- `cells::cells_of` meets its contract. The invariant: the cubes of the points passed are written. Assumes nothing.
use Rattle.cells.proofs.cells_of.Given as goal
use Rattle.cells.specs.Cells.{cell_of}
use Rattle.lists.specs.Lists.{overwrite}
use lib.ListN.{get_or}
use mathlib.Core.List.{[]}
use mathlib.Core.Path.{◌≡◌}

abbrev pub invariant-loop-i : goal.invariant-loop-i
invariant-loop-i l = l.cells ≡ overwrite (λ j. cell_of (get_or l.points j []) l.from l.size) l.i l.initial.cells
