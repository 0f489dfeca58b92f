-- What an update is asked. Definitions only.
use Rattle.update_design.specs.Design.{gains_of}
use Rattle.update_rates.specs.Rates.{Given, given}
use Rattle.update.specs.declared.task.Task.{Task}

abbrev pub task_of : Task → Given
task_of t = given t.x.now (gains_of t.dc.now t.dv.now) t.dv.now t.passive.now t.m t.target t.tolerance t.rule t.table.starts.now t.table.near.now t.table.coef.now t.volumes.now
