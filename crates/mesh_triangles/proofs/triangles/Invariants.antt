-- `mesh_triangles::triangles` meets its contract. The loop's invariant: the triangles of the tetrahedra passed are stored (`Placed`). Assumes nothing.
use Rattle.mesh_triangles.proofs.Placed.{Placed}
use Rattle.mesh_triangles.proofs.triangles.Given as goal
use Rattle.mesh_triangles.specs.Steps.{placing, SameLists}
use Rattle.mesh_triangles.specs.Triangles.{triangles_to}

abbrev pub invariant-loop-e : goal.invariant-loop-e
invariant-loop-e l = record {
  placed : Placed l.initial.placer.surfaces.now l.initial.placer.tris.now (triangles_to l.g.grid l.e) (placing l.placer);
  same : SameLists l.initial.placer l.placer;
}
