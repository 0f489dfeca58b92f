-- `filter_rows::rows::all_rows` meets its contract. The invariant: the rows passed are laid one after the other, and none was refused. Assumes nothing.
use Rattle.std.proofs.Common.{length}
use Rattle.filter.specs.Held.{SameTable}
use Rattle.filter_look.specs.Steps.{SameMet}
use Rattle.filter_row.specs.Row.{Clean}
use Rattle.filter_rows.proofs.Table.{Laid}
use Rattle.filter_rows.proofs.rows.all_rows.Given as goal

abbrev pub invariant-loop-e : goal.invariant-loop-e
invariant-loop-e l = record {
  same_met : SameMet l.initial.met l.met;
  same_table : SameTable l.initial.table l.table;
  clean : Clean (length l.g.centroids.now) l.e l.met;
  laid : Laid l.g.centroids.now l.g.radius l.planes.lent.now l.volumes l.initial.table.starts.now l.initial.table.near.now l.initial.table.coef.now l.e l.at l.table.starts.now l.table.near.now l.table.coef.now;
}
