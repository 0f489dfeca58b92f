-- `cells_walk::walk` meets its contract. The invariant: the planes passed are visited. Assumes nothing.
use Rattle.std.proofs.Common.{◌+◌}
use Rattle.cells_walk.proofs.walk.Given as goal

abbrev pub invariant-loop-x : goal.invariant-loop-x
invariant-loop-x g l = record { ready : g.W.Walker.Ready l.walker; done : g.W.Walker.Done l.initial.walker l.b.x0 l.x l.b.y0 (l.b.y1 + 1) l.b.z0 (l.b.z1 + 1) l.walker }
