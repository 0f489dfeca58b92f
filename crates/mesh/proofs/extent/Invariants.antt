-- `mesh::extent` meets its contract. The loop's invariant: the least and the greatest coordinates of the nodes passed. Assumes nothing.
use Rattle.mesh.proofs.extent.Given as goal
use Rattle.mesh.specs.Mesh.{lowest, highest}
use Rattle.std.proofs.Common.{◌≡◌}

abbrev pub invariant-loop-node : goal.invariant-loop-node
invariant-loop-node l = (l.lo ≡ lowest l.nodes l.node-index) × (l.hi ≡ highest l.nodes l.node-index)
