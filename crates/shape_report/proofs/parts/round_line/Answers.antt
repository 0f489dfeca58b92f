-- `round_line` meets its contract. Assumes nothing.
use Rattle.shape_report.proofs.Laws.{then, same-long}
use Rattle.shape_report.proofs.parts.round_line.Goals as goal
use Rattle.shape_report.specs.Report.{ascii, round_line}
use mathlib.Core.Path.{◌∙◌}

pub shape_of-out : goal.shape_of-out
shape_of-out c = same-long c.words.ensures ∙ same-long c.decimal-i.ensures ∙ same-long c.words-h.ensures ∙ same-long c.next_bits-g.ensures ∙ same-long c.next_bits-f.ensures ∙ same-long c.next_bits-e.ensures ∙ same-long c.next_bits-d.ensures ∙ same-long c.next_bits-c.ensures ∙ same-long c.decimal-b.ensures ∙ same-long c.words-a.ensures

pub returns : goal.returns
unfolding ascii round_line
returns c = then c.words-a.ensures (then c.decimal-b.ensures (then c.next_bits-c.ensures (then c.next_bits-d.ensures (then c.next_bits-e.ensures (then c.next_bits-f.ensures (then c.next_bits-g.ensures (then c.words-h.ensures (then c.decimal-i.ensures c.words.ensures))))))))
