-- `run` meets its contract: the answers to what the opening asks. Assumes nothing.
use Rattle.run_plain.specs.Held.{working, lengths_of}
use Rattle.shape_job.proofs.run.Goals as goal
use Rattle.shape_job.specs.Held.{lists_by, result_in}
use Rattle.shape_job.specs.Job.{answers_from, job_of}
use lib.ListN.{length}
use mathlib.Core.Path.{sym, ap, ◌∙◌}

pub returns-clause-ran : goal.returns-clause-ran
unfolding job_of
returns-clause-ran c =
    let a = c.args in
    let t = c.made-table.ensures in
    let o = c.open-opened in
    let r = c.answer_all in
    let all = answers_from a.weights.now (length a.energies.now) (lengths_of (working a.answers.now)) 65 in
    (λ i. result_in r.result (lists_by a.job (sym t.starts i) (sym t.near i) (sym t.coef i) r.new.fields r.new.history))
    ∙ r.ensures.answered
    ∙ (λ i. all (result_in o.result (lists_by a.job (t.starts i) (t.near i) (t.coef i) o.new.fields o.new.history)))
    ∙ ap all o.ensures.opened
