use Rattle.std.proofs.Common.{rules, arith}
use Rattle.filter_table.proofs.Laws.{all_shares}
use Rattle.filter_back.proofs.back.Goals as goal

pub returns : goal.returns
returns c = all_shares _ _ _ _ c.fill.new.self _ _ _ _ (search rules) c.loop-e.invariant (omega arith)
