-- `ran` meets its contract. Assumes nothing.
use Rattle.shape_report.proofs.Laws.{then}
use Rattle.shape_report.proofs.ran.Goals as goal
use Rattle.shape_report.specs.Report.{text_of}

pub returns : goal.returns
unfolding text_of
returns c = then c.solid_line-a.ensures (then c.round_lines-b.ensures (then c.stop_line-c.ensures c.element_lines.ensures))
