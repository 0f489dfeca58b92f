use Rattle.std.proofs.Common.{◌<◌, length, get_or, arith}
use Rattle.std.specs.Float.{nan}
use Rattle.lists.specs.Lists.{zero64}
use Rattle.lists.proofs.Laws.{sum_over-more, get_or_any}
use Rattle.filter_table.specs.Table.{product}
use Rattle.update_two.proofs.Reckoning.row.Goals as goal

-- the numbers read are there, whatever is read past the end
pub loop-k-preserved : goal.loop-k-preserved
unfolding product
loop-k-preserved c = let l = c.loop-k in
    let a = c.args in
    let h : get_or a.near.now l.k 0 < length a.x.now = c.requires.0.inside l.k (omega arith) in (
      rw (l.invariant.0, get_or_any a.x.now (get_or a.near.now l.k 0) nan zero64 h) (sum_over-more _ _ _ (omega arith)),
      rw (l.invariant.1, get_or_any a.y.now (get_or a.near.now l.k 0) nan zero64 (omega (arith, h, c.requires.1))) (sum_over-more _ _ _ (omega arith)),
    )
