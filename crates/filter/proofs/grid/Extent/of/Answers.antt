-- `filter::grid::Extent::of` meets its contract. The invariant: the corners of the middles passed. Assumes nothing.
use Rattle.std.proofs.Common.{◌≡◌, ◌∙◌, sym, ap, length, arith}
use Rattle.lists.proofs.Laws.{fold_over-none, fold_over-more}
use Rattle.lists.specs.Lists.{fold_over}
use Rattle.geom.specs.Vectors.{least, greatest}
use Rattle.filter.specs.Filter.{middle, lowest, highest}
use Rattle.filter.proofs.grid.Extent.of.Goals as goal

pub loop-i-init : goal.loop-i-init
loop-i-init c = record { lo = c.from-lo.ensures ∙ sym (fold_over-none _ _ 1 1 (omega arith)); hi = c.from-lo.ensures ∙ sym (fold_over-none _ _ 1 1 (omega arith)) }

pub loop-i-preserved : goal.loop-i-preserved
loop-i-preserved c = let a = c.args.centroids.now in
    let i = c.loop-i.i in record {
      lo = c.min-lo.ensures ∙ rw (c.from-p.ensures, c.loop-i.invariant.lo) (fold_over-more (λ k v. least v (middle a k)) (middle a 0) 1 i (omega arith));
      hi = c.max-hi.ensures ∙ rw (c.from-p.ensures, c.loop-i.invariant.hi) (fold_over-more (λ k v. greatest v (middle a k)) (middle a 0) 1 i (omega arith));
    }

pub returns-clause-lo : goal.returns-clause-lo
unfolding lowest
returns-clause-lo c = let a = c.args.centroids.now in
    let e : c.loop-i.i ≡ length a = omega arith in
    c.loop-i.invariant.lo ∙ ap (fold_over (λ k v. least v (middle a k)) (middle a 0) 1) e

pub returns-clause-hi : goal.returns-clause-hi
unfolding highest
returns-clause-hi c = let a = c.args.centroids.now in
    let e : c.loop-i.i ≡ length a = omega arith in
    c.loop-i.invariant.hi ∙ ap (fold_over (λ k v. greatest v (middle a k)) (middle a 0) 1) e
