-- The most so far is the fold over the places passed.
use Rattle.ieee.specs.Basic.{max_of}
use Rattle.lists.specs.Lists.{fold_to, choose, zero64}
use Rattle.std.proofs.Common.{◌≡◌, false, get_or}
use Rattle.update_design.proofs.most.Given as goal
use lib.Ieee.{nan}

abbrev pub invariant-loop-i : goal.invariant-loop-i
invariant-loop-i l = l.t ≡ fold_to (λ k m. choose (get_or l.passive k false) m (max_of m (get_or l.gain k nan))) zero64 l.i
