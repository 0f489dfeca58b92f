-- `region_passive::stages::centroids_of` meets its contract. The invariant: the middles of the elements passed are written. Assumes nothing.
use Rattle.geom.specs.Points.{stored}
use Rattle.lists.specs.Lists.{overwrite}
use Rattle.mesh.specs.Mesh.{centroid_of}
use Rattle.region_passive.proofs.stages.centroids_of.Given as goal
use lib.ListN.{get_or}
use mathlib.Core.List.{[]}
use mathlib.Core.Path.{◌≡◌}

abbrev pub invariant-loop-e : goal.invariant-loop-e
invariant-loop-e l = l.centroids ≡ overwrite (λ i. stored (centroid_of l.nodes (get_or l.tets i []))) l.e l.initial.centroids
