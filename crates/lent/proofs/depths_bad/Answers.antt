-- `lent::depths_bad` meets its contract: the chain's test of each element is the definition's by index. Assumes nothing.
use Rattle.std.proofs.Common.{rules, tests, ◌∙◌, length, refl}
use Rattle.std.proofs.lemmas.Iterator.{YieldsList-from_slice}
use Rattle.std.proofs.lemmas.Iterator.Search.{any_from_yields_List}
use Rattle.std.specs.Float.{nan}
use Rattle.lists.proofs.Any.{any_of}
use Rattle.lent.specs.Domain.{depth_bad, depths_bad}
use Rattle.lent.proofs.depths_bad.Goals as goal

pub returns : goal.returns
unfolding depths_bad
returns c =
    let depths = c.args.depths.now in
    any_from_yields_List depth_bad _ _ _ c.any.ensures.ran (YieldsList-from_slice depths cc) (λ x b q k. search (rules, tests))
    ∙ any_of depth_bad depths nan (length depths) refl
