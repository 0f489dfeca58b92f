-- `SmallGrid::join` meets its contract: the loop's invariant is `Joins`, over the same lists. Assumes nothing.
use Rattle.mesh_lattice.proofs.Joins.{Joins}
use Rattle.mesh_lattice.proofs.SmallGrid.join.Given as goal
use Rattle.mesh_lattice.specs.Filing.{filing, SameLists}

abbrev pub invariant-loop-e : goal.invariant-loop-e
invariant-loop-e l = record {
  joins : Joins l.self.grid l.initial.filer.nodes.now l.initial.tets l.initial.filer.edges.now l.e l.tets (filing l.filer);
  same : SameLists l.initial.filer l.filer;
}
