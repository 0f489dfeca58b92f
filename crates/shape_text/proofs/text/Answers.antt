-- `text` meets its contract. Assumes nothing.
use Rattle.run_plain.specs.Calls.{Result}
use Rattle.shape_report.proofs.Laws.{retext}
use Rattle.shape_report.specs.Report.{text_of}
use Rattle.shape_text.proofs.text.Goals as goal
use Rattle.shape_text.specs.Printed.{outcome_of}
use mathlib.Core.Path.{ap}

pub returns-clause-wrote : goal.returns-clause-wrote
unfolding outcome_of
returns-clause-wrote c = retext (ap (λ (r : Result). text_of (outcome_of r)) c.run-returned.ensures.ran) c.outcome.ensures
