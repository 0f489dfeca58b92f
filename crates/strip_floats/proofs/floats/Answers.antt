use Rattle.std.proofs.Common.{◌≡◌, length, replicate, sym, arith, rules}
use Rattle.std.proofs.lemmas.List.{length-replicate}
use Rattle.lists.specs.Lists.{zero64}
use Rattle.lists.proofs.Filled.{stored, filled}
use Rattle.strip_floats.proofs.floats.Goals as goal

pub loop-i-preserved : goal.loop-i-preserved
loop-i-preserved g c =
    let places : length (replicate g.row.N zero64) ≡ g.row.N = length-replicate g.row.N zero64 in
    stored _ _ _ _ c.loop-i.invariant _ (omega arith) (search rules)

pub returns : goal.returns
returns g c =
    let places : length (replicate g.row.N zero64) ≡ g.row.N = length-replicate g.row.N zero64 in
    filled _ _ _ _ c.loop-i.invariant _ (omega arith) (sym places)
