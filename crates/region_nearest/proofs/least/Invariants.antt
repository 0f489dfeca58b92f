-- `region_nearest::least` meets its contract. The loop's invariant: the least so far, lowered by the triangles to come, is the least of all. Assumes nothing.
use Rattle.region_nearest.proofs.least.Given as goal
use Rattle.region_nearest.specs.Nearest.{least_of}
use lib.ListN.{drop}
use mathlib.Core.Path.{◌≡◌}

abbrev pub invariant-loop-i : goal.invariant-loop-i
invariant-loop-i l = least_of l.faces l.p l.b (drop l.i-index l.order) ≡ least_of l.faces l.p l.best l.order
