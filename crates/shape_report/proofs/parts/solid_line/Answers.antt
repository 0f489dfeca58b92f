-- `solid_line` meets its contract. Assumes nothing.
use Rattle.shape_report.proofs.Laws.{then}
use Rattle.shape_report.proofs.parts.solid_line.Goals as goal
use Rattle.shape_report.specs.Report.{ascii, solid_line}

pub returns : goal.returns
unfolding ascii solid_line
returns c = then c.words-a.ensures (then c.bits-b.ensures c.words.ensures)
