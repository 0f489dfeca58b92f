-- `SmallGrid::store_corners` meets its contract. The loop's invariant: the corners passed are stored, and the rest is as lent. Assumes nothing.
use Rattle.std.proofs.Common.{◌≡◌, []}
use Rattle.lists.specs.Lists.{overwrite}
use Rattle.mesh_lattice.proofs.SmallGrid.store_corners.Given as goal
use Rattle.mesh_lattice.specs.Lattice.{node_with}

abbrev pub invariant-loop-k : goal.invariant-loop-k
invariant-loop-k l = l.nodes ≡ overwrite (node_with l.self.grid []) l.k l.initial.nodes
