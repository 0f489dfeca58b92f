-- `mesh_triangles::count` meets its contract. The loop's invariant: the count of the triangles of the tetrahedra passed. Assumes nothing.
use Rattle.std.proofs.Common.{◌≡◌, ◌*◌, ◌≤◌, length}
use Rattle.mesh_triangles.proofs.count.Given as goal
use Rattle.mesh_triangles.specs.Triangles.{triangles_to}

abbrev pub invariant-loop-e : goal.invariant-loop-e
invariant-loop-e l = record { counted : l.t ≡ length (triangles_to l.g.grid l.e); few : l.t ≤ 4 * l.e }
