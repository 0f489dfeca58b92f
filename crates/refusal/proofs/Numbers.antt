-- No refusal has the number of a call that is not refused. By cases. Assumes nothing.
use Rattle.std.proofs.Common.{◌<◌, arith}
use Rattle.refusal.specs.declared.Refusal.{Refusal}
use Rattle.refusal.specs.declared.Refusal.TheVariants.{CountsDiffer, NoElements, TooMany, VolumeOutside, ShareOutside, NoRounds, NoRoom, DistanceOutside, PointOutside, TooManyPlanes, PlaneOutside, PlanesNotSquare, TableTooLarge, ListTooShort, Stopped, EnergiesDiffer, EnergyNotFinite, SolverFailed, NoWork, OutOfTurn, NodeMissing, StripMalformed, NoLevel, ShiftOutside, NoneWaiting}
use Rattle.refusal.specs.Refusals.{number_of}

pub some_number : (r : Refusal) → 0 < number_of r
some_number CountsDiffer = omega arith
some_number NoElements = omega arith
some_number TooMany = omega arith
some_number VolumeOutside = omega arith
some_number ShareOutside = omega arith
some_number NoRounds = omega arith
some_number NoRoom = omega arith
some_number DistanceOutside = omega arith
some_number PointOutside = omega arith
some_number TooManyPlanes = omega arith
some_number PlaneOutside = omega arith
some_number PlanesNotSquare = omega arith
some_number TableTooLarge = omega arith
some_number ListTooShort = omega arith
some_number Stopped = omega arith
some_number EnergiesDiffer = omega arith
some_number EnergyNotFinite = omega arith
some_number SolverFailed = omega arith
some_number NoWork = omega arith
some_number OutOfTurn = omega arith
some_number NodeMissing = omega arith
some_number StripMalformed = omega arith
some_number NoLevel = omega arith
some_number ShiftOutside = omega arith
some_number NoneWaiting = omega arith
