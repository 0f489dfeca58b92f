-- `filter_group::any_skew` meets its contract. The invariant: the flag says whether a plane passed leans. Assumes nothing.
use Rattle.std.proofs.Common.{◌≡◌}
use Rattle.lists.specs.Lists.{any_to}
use Rattle.filter_group.specs.Group.{skew_before}
use Rattle.filter_group.proofs.any_skew.Given as goal

abbrev pub invariant-loop-j : goal.invariant-loop-j
invariant-loop-j l = l.skew ≡ any_to (skew_before l.planes) l.j
