-- The jobs named at the places passed are marked.
use Rattle.std.proofs.Common.{◌≡◌, eqb, get_or}
use Rattle.lists.specs.Lists.{any_to, tabulate}
use Rattle.shift.proofs.choice.marked.Given as goal

abbrev pub invariant-loop-job : goal.invariant-loop-job
invariant-loop-job l = l.marks ≡ tabulate (λ j. any_to (λ k. eqb (get_or l.named k 0) j) l.job-index) 16
