-- `cells_walk::plane` meets its contract. The invariant: the columns passed are visited. Assumes nothing.
use Rattle.std.proofs.Common.{◌+◌}
use Rattle.cells_walk.proofs.plane.Given as goal

abbrev pub invariant-loop-y : goal.invariant-loop-y
invariant-loop-y g l = record { ready : g.W.Walker.Ready l.walker; done : g.W.Walker.Done l.initial.walker l.x (l.x + 1) l.y0 l.y l.z0 (l.z1 + 1) l.walker }
