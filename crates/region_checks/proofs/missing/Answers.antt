-- `region_checks::missing` meets its contract: the chain's test of each name is the definition's by index. Assumes nothing.
use Rattle.std.proofs.Common.{rules, tests, ◌∙◌, arith}
use Rattle.std.proofs.lemmas.Iterator.{YieldsList-from_slice}
use Rattle.std.proofs.lemmas.Iterator.Search.{any_from_yields_List}
use Rattle.lists.proofs.Any.{any_of}
use Rattle.region_checks.proofs.missing.Goals as goal
use Rattle.region_checks.specs.Boundary.{missing_in}
use lib.Dec.{leb}

pub returns : goal.returns
unfolding missing_in
returns c =
    let t = c.args.t in
    any_from_yields_List (leb c.args.n) _ _ _ c.any.ensures.ran (YieldsList-from_slice t cc) (λ x b q k. search (rules, tests))
    ∙ any_of (leb c.args.n) t 0 6 (omega arith)
