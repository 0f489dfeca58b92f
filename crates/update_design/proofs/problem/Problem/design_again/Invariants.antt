-- The places passed are filled, and where all were equal they are as they were lent.
use Rattle.lists.specs.Lists.{overwrite}
use Rattle.std.proofs.Common.{◌≡◌, ℕ, ◌<◌, true, false, get_or}
use Rattle.update_design.proofs.problem.Problem.design_again.Given as goal
use Rattle.update_value.specs.Value.{next_of}
use lib.Ieee.{nan}

abbrev pub invariant-loop-i : goal.invariant-loop-i
invariant-loop-i l = record {
  design : l.out ≡ overwrite (λ k. next_of (get_or l.passive k false) (get_or l.x k nan) (get_or l.gain k nan) l.m l.rate) l.i l.initial.out;
  same : l.same ≡ true → (k : ℕ) → k < l.i → next_of (get_or l.passive k false) (get_or l.x k nan) (get_or l.gain k nan) l.m l.rate ≡ get_or l.initial.out k nan;
}
