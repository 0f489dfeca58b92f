-- `element_line` meets its contract. Assumes nothing.
use Rattle.shape_report.proofs.Laws.{then}
use Rattle.shape_report.proofs.parts.element_line.Goals as goal
use Rattle.shape_report.specs.Report.{ascii, element_line}

pub returns : goal.returns
unfolding ascii element_line
returns c = then c.decimal-a.ensures (then c.next_bits-b.ensures c.words.ensures)
