-- In each list the places passed are overwritten.
use Rattle.std.proofs.Common.{◌≡◌, ◌+◌, ◌*◌}
use Rattle.lists.specs.Lists.{overwrite}
use Rattle.strip.specs.Strip.{number_at, point_at, flag_at}
use Rattle.strip_read.proofs.fill.elements.Given as goal

abbrev pub invariant-loop-e : goal.invariant-loop-e
invariant-loop-e l = record {
  volumes : l.volumes ≡ overwrite (λ j. number_at l.bytes (l.first + 16 * j)) l.e l.initial.volumes;
  centroids : l.centroids ≡ overwrite (λ j. point_at l.bytes (l.first + 16 * j + 3)) l.e l.initial.centroids;
  weights : l.weights ≡ overwrite (λ j. number_at l.bytes (l.first + 16 * j + 12)) l.e l.initial.weights;
  passive : l.passive ≡ overwrite (λ j. flag_at l.bytes (l.first + 16 * j + 15)) l.e l.initial.passive;
}
