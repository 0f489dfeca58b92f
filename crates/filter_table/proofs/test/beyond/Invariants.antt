use Rattle.std.proofs.Common.{◌≡◌, get_or, leb}
use Rattle.lists.specs.Lists.{any_to}
use Rattle.filter_table.proofs.test.beyond.Given as goal

abbrev pub invariant-loop-k : goal.invariant-loop-k
invariant-loop-k l = l.t ≡ any_to (λ k. leb l.m (get_or l.near k 0)) l.k
