-- `filter_group::make_units` meets its contract. The invariant: the places passed are written. Assumes nothing.
use Rattle.std.proofs.Common.{◌≡◌, [], get_or}
use Rattle.lists.specs.Lists.{overwrite}
use Rattle.geom.specs.Points.{plane}
use Rattle.filter_group.specs.Group.{unit}
use Rattle.filter_group.proofs.make_units.Given as goal

abbrev pub invariant-loop-i : goal.invariant-loop-i
invariant-loop-i l = l.units ≡ overwrite (λ k. unit (plane (get_or l.planes k []))) l.i l.initial.units
