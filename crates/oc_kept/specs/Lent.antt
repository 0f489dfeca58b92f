-- The same through a table that is lent as one. Definitions only.
use Rattle.std.specs.Prelude.{Bool, List, Float}
use Rattle.filter_table.specs.declared.Table.{Table}
use Rattle.oc_kept.specs.declared.Rule.{Rule}
use Rattle.oc_kept.specs.Kept.{kept_of}

abbrev pub kept_through : Table → Rule → List Float → List Float → List Bool → List Float → Float
kept_through t rule straight volumes passive y = kept_of rule straight t.starts.now t.near.now t.coef.now volumes passive y
