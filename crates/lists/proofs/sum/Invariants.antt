-- `lists::sum` meets its contract. The invariant: what is added up is the sum of the places passed. Assumes nothing.
use Rattle.lists.proofs.sum.Given as goal
use Rattle.lists.specs.Lists.{sum_to}
use lib.Ieee.{nan}
use lib.ListN.{get_or}
use mathlib.Core.Path.{◌≡◌}

abbrev pub invariant-loop-x : goal.invariant-loop-x
invariant-loop-x l = l.t ≡ sum_to (λ k. get_or l.a k nan) l.x-index
