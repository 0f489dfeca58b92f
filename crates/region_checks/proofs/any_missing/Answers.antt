-- `region_checks::any_missing` meets its contract: the chain's test of each triangle is the definition's by index. Assumes nothing.
use Rattle.std.proofs.Common.{rules, tests, ◌∙◌, [], length, refl}
use Rattle.std.proofs.lemmas.Iterator.{YieldsList-from_slice}
use Rattle.std.proofs.lemmas.Iterator.Search.{any_from_yields_List}
use Rattle.lists.proofs.Any.{any_of}
use Rattle.region_checks.proofs.any_missing.Goals as goal
use Rattle.region_checks.specs.Boundary.{missing_in, any_missing}

pub returns : goal.returns
unfolding any_missing
returns c =
    let tris = c.args.tris.now in
    any_from_yields_List (missing_in c.args.n) _ _ _ c.any.ensures.ran (YieldsList-from_slice tris cc) (λ x b q k. search (rules, tests))
    ∙ any_of (missing_in c.args.n) tris [] (length tris) refl
