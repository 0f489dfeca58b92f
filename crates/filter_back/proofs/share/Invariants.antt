use Rattle.std.proofs.Common.{◌≡◌, ◌+◌, ◌*◌}
use Rattle.lists.specs.Lists.{fold_over}
use Rattle.filter_table.specs.Table.{add_to}
use Rattle.filter_back.proofs.share.Given as goal

abbrev pub invariant-loop-i : goal.invariant-loop-i
invariant-loop-i l = l.out ≡ fold_over (add_to l.fn.table.near.now l.fn.table.coef.now l.fn.v) l.fn.out l.start (l.start + 4 * l.i)

abbrev pub invariant-loop-k : goal.invariant-loop-k
invariant-loop-k l = l.out ≡ fold_over (add_to l.fn.table.near.now l.fn.table.coef.now l.fn.v) l.fn.out l.start l.k
