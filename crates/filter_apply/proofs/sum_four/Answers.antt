use Rattle.std.proofs.Common.{ℕ, ◌<◌, ◌≡◌, length, get_or}
use Rattle.std.specs.Float.{nan}
use Rattle.lists.specs.Lists.{zero64}
use Rattle.lists.proofs.Laws.{both, get_or_any}
use Rattle.filter_table.specs.Table.{product}
use Rattle.filter_apply.proofs.sum_four.Goals as goal
use borrow.Author.Tests.{ltb-true}

-- what is there is read, whatever is read past the end
pub returns-then-a-n : goal.returns-then-a-n
unfolding product
returns-then-a-n c =
    let x = c.args.x.now in
    let abc-d = both _ _ c.if-a-n.true in
    let ab-c = both _ _ abc-d.0 in
    let a-b = both _ _ ab-c.0 in
    let read : (j : ℕ) → j < length x → get_or x j nan ≡ get_or x j zero64 = λ j h. get_or_any x j nan zero64 h in
    rw (read _ (ltb-true _ _ a-b.0), read _ (ltb-true _ _ a-b.1), read _ (ltb-true _ _ ab-c.1), read _ (ltb-true _ _ abc-d.1))

pub returns-else-a-n : goal.returns-else-a-n
unfolding product
returns-else-a-n c = rw (c.at.ensures, c.at-else-a-n.ensures, c.at-else-a-n-2.ensures, c.at-else-a-n-3.ensures)
