-- `oc_record::greatest` meets its contract: the greatest so far is the fold over the places passed. Assumes nothing.
use Rattle.ieee.specs.Basic.{max_of}
use Rattle.lists.specs.Lists.{fold_to, choose, zero64}
use Rattle.oc_record.proofs.greatest.Given as goal
use lib.Ieee.{nan}
use lib.ListN.{get_or}
use mathlib.Core.Bool.{false}
use mathlib.Core.Path.{◌≡◌}

abbrev pub invariant-loop-i : goal.invariant-loop-i
invariant-loop-i l = l.m ≡ fold_to (λ k m. choose (get_or l.passive k false) m (max_of (get_or l.design k nan) m)) zero64 l.i
