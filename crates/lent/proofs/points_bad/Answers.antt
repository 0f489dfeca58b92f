-- `lent::points_bad` meets its contract: the chain's test of each element is the definition's by index. Assumes nothing.
use Rattle.std.proofs.Common.{rules, tests, ◌∙◌, [], length, refl}
use Rattle.std.proofs.lemmas.Iterator.{YieldsList-from_slice}
use Rattle.std.proofs.lemmas.Iterator.Search.{any_from_yields_List}
use Rattle.lists.proofs.Any.{any_of}
use Rattle.lent.specs.Domain.{point_bad}
use Rattle.lent.proofs.points_bad.Goals as goal

pub returns : goal.returns
returns c =
    let points = c.args.points.now in
    any_from_yields_List point_bad _ _ _ c.any.ensures.ran (YieldsList-from_slice points cc) (λ x b q k. search (rules, tests))
    ∙ any_of point_bad points [] (length points) refl
