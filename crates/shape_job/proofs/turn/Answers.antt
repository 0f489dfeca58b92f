-- `turn` meets its contract. Assumes nothing.
use Rattle.run_plain.specs.declared.Said.TheVariants.{Gave}
use Rattle.run_plain.specs.Calls.{lists_of, answer_of}
use Rattle.run_plain.specs.Held.{core, working, lengths_of}
use Rattle.shape_job.proofs.turn.Goals as goal
use lib.Ieee.{Float}
use mathlib.Core.Bool.{false}
use mathlib.Core.List.{List}
use mathlib.Core.Path.{ap, ◌∙◌}

pub returns-clause-answered : goal.returns-clause-answered
returns-clause-answered c =
    let a = c.args in
    c.answer.ensures.answered.same
    ∙ ap (λ (u : List Float). answer_of a.state (record { heard = record { said = Gave; flag = false; elapsed = 0; allowed = 1 }; energies = u }) (lengths_of (working a.work.now)) (lists_of (core a.elements a.fields.now) a.history.now)) c.solve.ensures
