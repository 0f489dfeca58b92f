-- `far::farthest` meets its contract. The loop's invariant: the farthest of the nodes passed. Assumes nothing.
use Rattle.region_farthest.proofs.far.farthest.Given as goal
use Rattle.region_farthest.specs.Steps.{farthest_in}
use Rattle.region_tree.specs.Steps.{tree_in}
use mathlib.Core.Path.{◌≡◌}

abbrev pub invariant-loop-k : goal.invariant-loop-k
invariant-loop-k l = l.worst ≡ farthest_in l.nodes l.mirror l.tree.faces.now (tree_in l.tree.order.now l.tree.boxes.now) l.seen l.k
