-- `next_bits` meets its contract. Assumes nothing.
use Rattle.shape_report.proofs.Laws.{then}
use Rattle.shape_report.proofs.parts.next_bits.Goals as goal
use Rattle.shape_report.specs.Report.{ascii}

pub returns : goal.returns
unfolding ascii
returns c = then c.words-a.ensures c.bits.ensures
