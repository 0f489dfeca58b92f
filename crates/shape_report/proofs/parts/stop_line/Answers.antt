-- `stop_line` meets its contract. Assumes nothing.
use Rattle.shape_report.proofs.Laws.{then}
use Rattle.shape_report.proofs.parts.stop_line.Goals as goal
use Rattle.shape_report.specs.Report.{ascii, stop_line}

pub returns : goal.returns
unfolding ascii stop_line
returns c = then c.words-a.ensures (then c.stop_name-b.ensures c.words.ensures)
