use Rattle.std.proofs.Common.{◌≡◌}
use Rattle.lists.specs.Lists.{sum_over}
use Rattle.filter_table.specs.Table.{product}
use Rattle.filter_table.proofs.formed.WellFormed.row.Given as goal

abbrev pub invariant-loop-k : goal.invariant-loop-k
invariant-loop-k l = l.t ≡ sum_over (product l.near l.coef l.x) l.from l.k
