-- `oc_record::dot` meets its contract: what is added up is the sum of the places passed. Assumes nothing.
use Rattle.lists.specs.Lists.{sum_to}
use Rattle.oc_record.proofs.dot.Given as goal
use lib.Ieee.{nan, binary64, mul}
use lib.ListN.{get_or}
use mathlib.Core.Path.{◌≡◌}

abbrev pub invariant-loop-i : goal.invariant-loop-i
invariant-loop-i l = l.t ≡ sum_to (λ k. mul binary64 (get_or l.a k nan) (get_or l.b k nan)) l.i
