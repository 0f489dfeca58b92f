-- A job that is named is marked, and a number past the jobs marks none.
use Rattle.std.proofs.Common.{Bool, true, false, ℕ, List, ◌+◌, eqb, sym, ap, ◌∙◌, get_or, set}
use Rattle.lists.specs.Lists.{any_to}
use Rattle.lists.proofs.Laws.{any_none, any_step, tabulate-same, tabulate_throughout}
use Rattle.shift.proofs.Marks.{marked_more, marked-past}
use Rattle.shift.proofs.choice.marked.Goals as goal
use Rattle.shift.proofs.choice.marked.Goals.{then-job-lt16, else-job-lt16}

pub loop-job-init : goal.loop-job-init
loop-job-init c = sym (tabulate-same _ (λ _. false) 16 (λ j h. any_none _) ∙ tabulate_throughout false 16)

pub loop-job-preserved : goal.loop-job-preserved
loop-job-preserved c =
    let named = c.args.named.now in
    let i = c.loop-job.job-index in
    let before = λ (j : ℕ). any_to (λ k. eqb (get_or named k 0) j) i in
    let after = λ (j : ℕ). any_to (λ k. eqb (get_or named k 0) j) (i + 1) in
    let step = λ (j : ℕ). any_step (λ k. eqb (get_or named k 0) j) i in
    elim c.if-job-lt16.branch [
      | then-job-lt16 w ↦ w.marks-is ∙ ap (λ (l : List Bool). set l (get_or named i 0) true) c.loop-job.invariant ∙ marked_more before after (get_or named i 0) 16 step w.if-job-lt16.true
      | else-job-lt16 w ↦ w.marks-is ∙ c.loop-job.invariant ∙ marked-past before after (get_or named i 0) 16 step w.if-job-lt16.false
    ]
