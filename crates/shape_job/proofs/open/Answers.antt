-- `open` meets its contract. Assumes nothing.
use Rattle.std.proofs.Common.{rules}
use Rattle.filter.specs.Build.{work_lengths}
use Rattle.filter.specs.Held.{working as open_working}
use Rattle.run_plain.specs.Calls.{Result, open_of}
use Rattle.run_plain.specs.Held.{asked}
use Rattle.run_plain.specs.declared.State.{State}
use Rattle.shape_job.proofs.Answers.{open-last, with-fields}
use Rattle.shape_job.proofs.open.Goals as goal
use Rattle.shape_job.specs.Held.{lists_by}
use mathlib.Core.Path.{sym, ap, ◌∙◌}

pub returns-clause-opened : goal.returns-clause-opened
returns-clause-opened c =
    let a = c.args in
    let t = a.table.now in
    let same = c.open.ensures.opened.same in
    with-fields _ _ _ _ _ _ _ (search rules) (search rules) (sym (ap (λ (r : Result). r.lists.last) same ∙ open-last _ _ _ _))
    ∙ same
    ∙ ap (λ (s : State). open_of s (asked a.job) (work_lengths (open_working a.work.now)) (lists_by a.job t.starts.now t.near.now t.coef.now a.fields.now a.history.now)) c.fresh.ensures
