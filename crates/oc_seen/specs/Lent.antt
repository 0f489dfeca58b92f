-- The same through a table that is lent as one. Definitions only.
use Rattle.std.specs.Prelude.{Bool, Option, List, Float}
use Rattle.filter_table.specs.declared.Table.{Table}
use Rattle.oc_seen.specs.Seen.{seen_density, seen_slope}

abbrev pub density_through : Option Float → Table → List Bool → List Float → List Float
density_through sharpness t passive x = seen_density sharpness t.starts.now t.near.now t.coef.now passive x

abbrev pub slope_through : Option Float → Table → List Bool → List Float → List Float
slope_through sharpness t passive x = seen_slope sharpness t.starts.now t.near.now t.coef.now passive x
