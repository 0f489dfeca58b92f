-- `filter_group::any_bad` meets its contract: the chain's test of each element is the definition's by index. Assumes nothing.
use Rattle.std.proofs.Common.{rules, tests, ◌∙◌, [], length, refl}
use Rattle.std.proofs.lemmas.Iterator.{YieldsList-from_slice}
use Rattle.std.proofs.lemmas.Iterator.Search.{any_from_yields_List}
use Rattle.lists.proofs.Any.{any_of}
use Rattle.lent.specs.Domain.{plane_bad}
use Rattle.filter_group.specs.Group.{planes_bad}
use Rattle.filter_group.proofs.any_bad.Goals as goal

pub returns : goal.returns
unfolding planes_bad
returns c =
    let planes = c.args.planes.now in
    any_from_yields_List plane_bad _ _ _ c.any.ensures.ran (YieldsList-from_slice planes cc) (λ x b q k. search (rules, tests))
    ∙ any_of plane_bad planes [] (length planes) refl
