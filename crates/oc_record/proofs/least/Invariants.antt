-- `oc_record::least` meets its contract: the least so far is the fold over the places passed. Assumes nothing.
use Rattle.ieee.specs.Basic.{one64, min_of}
use Rattle.lists.specs.Lists.{fold_to, choose}
use Rattle.oc_record.proofs.least.Given as goal
use lib.Ieee.{nan}
use lib.ListN.{get_or}
use mathlib.Core.Bool.{false}
use mathlib.Core.Path.{◌≡◌}

abbrev pub invariant-loop-i : goal.invariant-loop-i
invariant-loop-i l = l.m ≡ fold_to (λ k m. choose (get_or l.passive k false) m (min_of (get_or l.design k nan) m)) one64 l.i
