-- `region_off_centre::off_centre` meets its contract. The loop's invariant: the least and the greatest so far. Assumes nothing.
use Rattle.std.proofs.Common.{◌≡◌}
use Rattle.region_off_centre.proofs.off_centre.Given as goal
use Rattle.region_off_centre.specs.OffCentre.{lowest, highest}

abbrev pub invariant-loop-p : goal.invariant-loop-p
invariant-loop-p l = (l.lo ≡ lowest l.points l.mirror l.p-index) × (l.hi ≡ highest l.points l.mirror l.p-index)
