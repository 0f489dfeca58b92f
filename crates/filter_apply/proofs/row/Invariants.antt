use Rattle.std.proofs.Common.{◌≡◌, ◌-◌, ◌≤◌}
use Rattle.lists.specs.Lists.{zero64, fold_over}
use Rattle.filter_apply.specs.Steps.{plus_product}
use Rattle.filter_apply.proofs.row.Given as goal

abbrev pub invariant-loop-k : goal.invariant-loop-k
invariant-loop-k l = (l.start ≤ l.k) × (l.k ≤ l.end) × (l.t ≡ fold_over (plus_product l.fn.table.near.now l.fn.table.coef.now l.fn.x) zero64 l.start l.k)

abbrev pub decreases-loop-k : goal.decreases-loop-k
decreases-loop-k l = l.end - l.k

abbrev pub invariant-loop-j : goal.invariant-loop-j
invariant-loop-j l = l.t ≡ fold_over (plus_product l.fn.table.near.now l.fn.table.coef.now l.fn.x) zero64 l.start l.j
