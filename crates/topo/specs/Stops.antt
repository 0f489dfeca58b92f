-- The reasons that a run stops for, by number. Definitions only.
use Rattle.std.specs.Prelude.{ℕ}
use Rattle.topo.specs.declared.Stop.{Stop}
use Rattle.topo.specs.declared.Stop.TheVariants.{Settled, LevelledOff, Limit, Budget, Stopped}

abbrev pub stop_number : Stop → ℕ
stop_number Settled = 0
stop_number LevelledOff = 1
stop_number Limit = 2
stop_number Budget = 3
stop_number Stopped = 4
