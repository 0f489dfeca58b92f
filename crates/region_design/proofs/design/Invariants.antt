-- `region_design::design` meets its contract. The loop's invariant: the places of the tetrahedra passed are written, and the rest is as lent. Assumes nothing.
use Rattle.std.proofs.Common.{◌≡◌, get_or, []}
use Rattle.geom.specs.Points.{stored}
use Rattle.lists.specs.Lists.{overwrite}
use Rattle.mesh.specs.Mesh.{volume_of, centroid_of}
use Rattle.region_design.proofs.design.Given as goal

abbrev pub invariant-loop-i : goal.invariant-loop-i
invariant-loop-i l = (l.volumes ≡ overwrite (λ k. volume_of l.nodes (get_or l.tets k [])) l.i l.initial.volumes) × (l.centroids ≡ overwrite (λ k. stored (centroid_of l.nodes (get_or l.tets k []))) l.i l.initial.centroids)
