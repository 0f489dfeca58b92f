-- 01, "What a refusal hands back": "Answers carry the number alone." "For an answer that is an enum, a definition gives this paper's number". Definitions only.
use Rattle.std.specs.Prelude.{ℕ, Result, Ok, Err}
use Rattle.refusal.specs.declared.Refusal.{Refusal}
use Rattle.refusal.specs.declared.Refusal.TheVariants.{CountsDiffer, NoElements, TooMany, VolumeOutside, ShareOutside, NoRounds, NoRoom, DistanceOutside, PointOutside, TooManyPlanes, PlaneOutside, PlanesNotSquare, TableTooLarge, ListTooShort, Stopped, EnergiesDiffer, EnergyNotFinite, SolverFailed, NoWork, OutOfTurn, NodeMissing, StripMalformed, NoLevel, ShiftOutside, NoneWaiting}

-- the numbers of the table, 29 to 31 of 02
abbrev pub number_of : Refusal → ℕ
-- "volumes, middles, marks differ in count"
number_of CountsDiffer = 1
-- "no elements"
number_of NoElements = 2
-- "more than the domain's counts"
number_of TooMany = 3
-- "a volume outside the domain"
number_of VolumeOutside = 4
-- "share not above 0 and below 1"
number_of ShareOutside = 5
-- "no rounds allowed"
number_of NoRounds = 6
-- "held + 0.001·(total − held) ≥ share·total"
number_of NoRoom = 7
-- "radius, or finite depth above 0, outside the domain"
number_of DistanceOutside = 8
-- "middle or node outside the domain"
number_of PointOutside = 9
-- "more than three planes"
number_of TooManyPlanes = 10
-- "plane outside the domain, or normal length not above 1e-12"
number_of PlaneOutside = 11
-- "planes not square"
number_of PlanesNotSquare = 12
-- "at row e (from 0) 4·(e+2) + 12·entries > 536,870,912"
number_of TableTooLarge = 13
-- "a lent list shorter than needed; records fewer than rounds allowed"
number_of ListTooShort = 14
-- "stopped before any record"
number_of Stopped = 15
-- "energies not one per element"
number_of EnergiesDiffer = 16
-- "an energy not finite"
number_of EnergyNotFinite = 17
-- "solver failed"
number_of SolverFailed = 18
-- "solid part's work not above 0"
number_of NoWork = 19
-- "call out of turn, or state failing the test of its numbers"
number_of OutOfTurn = 20
-- "a boundary triangle names a node that isn't there"
number_of NodeMissing = 21
-- "job strip malformed"
number_of StripMalformed = 22
-- 02: "a modulus that no level has, or [..] a number outside the two ends or not a number"
number_of NoLevel = 29
-- 02: "more than sixteen jobs or none, or a share, limit or job number out of range"
number_of ShiftOutside = 30
-- 02: "no job waits or the shift is used up"
number_of NoneWaiting = 31

-- the number that an answer carries: 0 where the call is not refused
abbrev pub refused : {A : Type 0} → Result A Refusal → ℕ
refused (Ok a) = 0
refused (Err r) = number_of r

-- the number of an answer whose call is followed by further checks, which give the rest: theirs where it is not refused
abbrev pub refused_or : {A : Type 0} → Result A Refusal → ℕ → ℕ
refused_or (Ok a) rest = rest
refused_or (Err r) rest = number_of r

-- an answer with the number in place of the refusal
abbrev pub numbered : {A : Type 0} → Result A Refusal → Result A ℕ
numbered (Ok a) = Ok a
numbered (Err r) = Err (number_of r)
