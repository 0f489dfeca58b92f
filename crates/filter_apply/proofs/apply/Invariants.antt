use Rattle.std.proofs.Common.{◌≡◌}
use Rattle.lists.specs.Lists.{overwrite}
use Rattle.filter_table.specs.Lent.{seen_at}
use Rattle.filter_apply.proofs.apply.Given as goal

abbrev pub invariant-loop-e : goal.invariant-loop-e
invariant-loop-e l = l.out ≡ overwrite (seen_at l.fn.table l.fn.x) l.e l.initial.out
