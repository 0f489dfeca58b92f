use Rattle.std.proofs.Common.{◌≡◌, ℕ, length, replicate, sym, arith}
use Rattle.std.proofs.lemmas.List.{length-replicate}
use Rattle.lists.proofs.Filled.{stored, filled}
use Rattle.strip_read.proofs.fill.numbers_at.Goals as goal

pub loop-i-preserved : goal.loop-i-preserved
loop-i-preserved g c =
    let places : length (replicate {A = ℕ} g.row.N 0) ≡ g.row.N = length-replicate g.row.N 0 in
    stored _ _ _ _ c.loop-i.invariant _ (omega arith) c.number_at.ensures

pub returns : goal.returns
returns g c =
    let places : length (replicate {A = ℕ} g.row.N 0) ≡ g.row.N = length-replicate g.row.N 0 in
    filled _ _ _ _ c.loop-i.invariant _ (omega arith) (sym places)
