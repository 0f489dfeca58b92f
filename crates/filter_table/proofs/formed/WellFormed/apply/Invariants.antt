use Rattle.std.proofs.Common.{◌≡◌, ◌+◌, get_or}
use Rattle.lists.specs.Lists.{overwrite}
use Rattle.filter_table.specs.Table.{row_sum}
use Rattle.filter_table.proofs.formed.WellFormed.apply.Given as goal

abbrev pub invariant-loop-e : goal.invariant-loop-e
invariant-loop-e l = l.out ≡ overwrite (λ e. row_sum l.near l.coef l.x (get_or l.starts e 0) (get_or l.starts (e + 1) 0)) l.e l.initial.out
