-- `column` of `region_by_depth::walk::Search` meets its contract. The invariant: the positions passed are looked at, which is the walk of `cells`. Assumes nothing.
use Rattle.std.proofs.Common.{◌+◌, true}
use Rattle.cells.proofs.Walks.{Walked}
use Rattle.region_by_depth.proofs.walk.SearchWalker.column.Given as goal
use Rattle.region_cells.specs.Steps.{box_near}

abbrev pub invariant-loop-k : goal.invariant-loop-k
invariant-loop-k l = let q = l.middles in
    Walked q.cells.now q.order.now q.first.now q.buckets (box_near l.t l.limit q.centroids.now q.cells.now l.c.x (l.c.x + 1) l.c.y (l.c.y + 1) l.c.z0 (l.c.z1 + 1)) (λ _ _. true) l.initial.marks l.initial.k l.k l.marks
