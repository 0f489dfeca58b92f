use Rattle.std.proofs.Common.{◌≡◌, ◌+◌, get_or, ltb}
use Rattle.lists.specs.Lists.{any_to}
use Rattle.filter_table.proofs.test.falls.Given as goal

abbrev pub invariant-loop-e : goal.invariant-loop-e
invariant-loop-e l = l.t ≡ any_to (λ e. ltb (get_or l.starts (e + 1) 0) (get_or l.starts e 0)) l.e
