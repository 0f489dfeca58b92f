-- `filter::grid::Extent::of` meets its contract. The invariant: the corners of the middles passed. Assumes nothing.
use Rattle.std.proofs.Common.{◌≡◌}
use Rattle.lists.specs.Lists.{fold_over}
use Rattle.geom.specs.Vectors.{least, greatest}
use Rattle.filter.specs.Filter.{middle}
use Rattle.filter.proofs.grid.Extent.of.Given as goal

abbrev pub invariant-loop-i : goal.invariant-loop-i
invariant-loop-i l = record {
  lo : l.lo ≡ fold_over (λ k v. least v (middle l.centroids k)) (middle l.centroids 0) 1 l.i;
  hi : l.hi ≡ fold_over (λ k v. greatest v (middle l.centroids k)) (middle l.centroids 0) 1 l.i;
}
