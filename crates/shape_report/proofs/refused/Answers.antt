-- `refused` meets its contract. Assumes nothing.
use Rattle.shape_report.proofs.Laws.{then, retext}
use Rattle.shape_report.proofs.refused.Goals as goal
use Rattle.shape_report.specs.Report.{ascii, text_of, refused}
use mathlib.Core.Path.{ap, ◌∙◌}

pub returns : goal.returns
unfolding ascii text_of
returns c = retext (ap (λ n. text_of (refused n)) c.from.ensures) (then c.words-a.ensures (then c.decimal-b.ensures c.words.ensures))
