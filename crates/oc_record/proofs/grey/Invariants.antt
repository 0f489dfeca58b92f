-- `oc_record::grey` meets its contract: what is added up is the sum of the places passed. Assumes nothing.
use Rattle.ieee.specs.Basic.{one64}
use Rattle.lists.specs.Lists.{sum_to}
use Rattle.oc_record.proofs.grey.Given as goal
use Rattle.oc_record.specs.Record.{four64}
use lib.Ieee.{nan, binary64, sub, mul}
use lib.ListN.{get_or}
use mathlib.Core.Path.{◌≡◌}

abbrev pub invariant-loop-i : goal.invariant-loop-i
invariant-loop-i l = l.t ≡ sum_to (λ k. mul binary64 (mul binary64 (mul binary64 four64 (get_or l.density k nan)) (sub binary64 one64 (get_or l.density k nan))) (get_or l.free k nan)) l.i
