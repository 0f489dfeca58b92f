-- `oc_record::change` meets its contract: the most so far is the fold over the places passed. Assumes nothing.
use Rattle.ieee.specs.Basic.{abs_of, max_of}
use Rattle.lists.specs.Lists.{fold_to, zero64}
use Rattle.oc_record.proofs.change.Given as goal
use lib.Ieee.{nan, binary64, sub}
use lib.ListN.{get_or}
use mathlib.Core.Path.{◌≡◌}

abbrev pub invariant-loop-i : goal.invariant-loop-i
invariant-loop-i l = l.m ≡ fold_to (λ k m. max_of m (abs_of (sub binary64 (get_or l.next k nan) (get_or l.x k nan)))) zero64 l.i
