use Rattle.std.proofs.Common.{get_or, leb, sym, arith}
use Rattle.filter_table.proofs.Laws.{any_fails}
use Rattle.filter_table.proofs.test.beyond.Goals as goal
use borrow.Author.Tests.{lt-leb}

pub returns-else-m-lt4294967296 : goal.returns-else-m-lt4294967296
returns-else-m-lt4294967296 c = let a = c.args in
    sym (any_fails (λ k. leb a.m (get_or a.near.now k 0)) a.end (λ k _. lt-leb a.m (get_or a.near.now k 0) (omega (arith, c.type_inv.near k))))
