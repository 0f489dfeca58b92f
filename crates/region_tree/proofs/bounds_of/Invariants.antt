-- `region_tree::bounds_of` meets its contract. The loop's invariant: the box so far, widened by the triangles to come, is the whole box. Assumes nothing.
use Rattle.region_tree.proofs.bounds_of.Given as goal
use Rattle.region_tree.specs.Tree.{bounds_from, bounds_of}
use lib.ListN.{drop}
use mathlib.Core.Path.{◌≡◌}

abbrev pub invariant-loop-i : goal.invariant-loop-i
invariant-loop-i l = bounds_from l.faces l.b (drop l.i-index l.order) ≡ bounds_of l.faces l.order
