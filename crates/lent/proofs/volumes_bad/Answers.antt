-- `lent::volumes_bad` meets its contract: the chain's test of each element is the definition's by index. Assumes nothing.
use Rattle.std.proofs.Common.{rules, tests, ◌∙◌, length, refl}
use Rattle.std.proofs.lemmas.Iterator.{YieldsList-from_slice}
use Rattle.std.proofs.lemmas.Iterator.Search.{any_from_yields_List}
use Rattle.std.specs.Float.{nan}
use Rattle.lists.proofs.Any.{any_of}
use Rattle.lent.specs.Domain.{volume_bad}
use Rattle.lent.proofs.volumes_bad.Goals as goal

pub returns : goal.returns
returns c =
    let volumes = c.args.volumes.now in
    any_from_yields_List volume_bad _ _ _ c.any.ensures.ran (YieldsList-from_slice volumes cc) (λ x b q k. search (rules, tests))
    ∙ any_of volume_bad volumes nan (length volumes) refl
