-- The same through a table that is lent as one. Definitions only.
use Rattle.std.specs.Prelude.{Bool, List, Float}
use Rattle.filter_table.specs.declared.Table.{Table}
use Rattle.oc_slopes.specs.Slopes.{work_slope, volume_slope, straight_slope}

abbrev pub work_slope_through : Table → List Bool → List Float → List Float → List Float → List Float
work_slope_through t passive density slope energies = work_slope t.starts.now t.near.now t.coef.now passive density slope energies

abbrev pub volume_slope_through : Table → List Float → List Float → List Float
volume_slope_through t slope free = volume_slope t.starts.now t.near.now t.coef.now slope free

abbrev pub straight_slope_through : Table → List Float → List Float
straight_slope_through t free = straight_slope t.starts.now t.near.now t.coef.now free
