use Rattle.std.proofs.Common.{◌≡◌, get_or}
use Rattle.lists.specs.Lists.{fold_to, zero64}
use Rattle.filter_table.specs.Lent.{with_share}
use Rattle.filter_back.proofs.back.Given as goal

abbrev pub invariant-loop-e : goal.invariant-loop-e
invariant-loop-e l = l.out ≡ fold_to (λ e. with_share l.fn.table (get_or l.fn.g e zero64) e) l.initial.out l.e
