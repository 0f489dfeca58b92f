use Rattle.std.proofs.Common.{get_or, arith}
use Rattle.std.specs.Float.{nan}
use Rattle.lists.specs.Lists.{zero64}
use Rattle.lists.proofs.Laws.{sum_over-more, get_or_any}
use Rattle.filter_table.specs.Table.{product}
use Rattle.filter_table.proofs.formed.WellFormed.row.Goals as goal

-- the number read is there, whatever is read past the end
pub loop-k-preserved : goal.loop-k-preserved
unfolding product
loop-k-preserved c = let l = c.loop-k in
    let a = c.args in
    rw (l.invariant, get_or_any a.x.now (get_or a.near.now l.k 0) nan zero64 (c.requires.inside l.k (omega arith))) (sum_over-more _ _ _ (omega arith))
