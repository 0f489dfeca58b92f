-- `filter_group::leans` meets its contract. The invariant: the flag says whether a plane passed is not square to plane j. Assumes nothing.
use Rattle.std.proofs.Common.{◌≡◌}
use Rattle.lists.specs.Lists.{any_to}
use Rattle.filter_group.proofs.leans.Given as goal
use Rattle.filter_group.specs.Group.{unit, skew}
use Rattle.geom.specs.Points.{plane}
use Rattle.std.proofs.Common.{[], get_or}

abbrev pub invariant-loop-i : goal.invariant-loop-i
invariant-loop-i l = l.skew ≡ any_to (λ k. skew (unit (plane (get_or l.planes k []))) (unit (plane (get_or l.planes l.j [])))) l.i
