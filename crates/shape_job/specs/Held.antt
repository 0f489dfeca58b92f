-- What the lists that the code holds contain. Definitions only.
use Rattle.std.specs.Prelude.{◌≡◌, List, ℕ, Float}
use Rattle.topo.specs.declared.Iteration.{Iteration}
use Rattle.filter.specs.Held.{SameTable}
use Rattle.run_plain.specs.declared.Fields.{Fields}
use Rattle.run_plain.specs.declared.Job.{Job}
use Rattle.run_plain.specs.declared.Returned.{Returned}
use Rattle.run_plain.specs.Calls.{Lists as Contents, Result, replied}
use Rattle.run_plain.specs.Held.{SameFields}
use Rattle.shape_job.specs.declared.Lists.{Lists}

-- a job's own lists, the filter's table, the design with both densities, and the records
abbrev pub lists_by : Job → List ℕ → List ℕ → List Float → Fields → List Iteration → Contents
lists_by j starts near coef f history =
    record {
      volumes = j.volumes.now;
      passive = j.passive.now;
      starts = starts;
      near = near;
      coef = coef;
      design = f.design.now;
      density = f.density.now;
      last = f.last.now;
      history = history;
    }

abbrev pub lists_in : Job → Lists → Contents
lists_in j l = lists_by j l.table.starts.now l.table.near.now l.table.coef.now l.fields l.history.now

-- what a call returns and leaves
abbrev pub result_in : Returned → Contents → Result
result_in r l = record { state = r.state; reply = replied r.reply; lists = l }

-- the same lists are held
pub record SameLists (l l' : Lists) : Type 0 where
  pub table : SameTable l.table l'.table
  pub fields : SameFields l.fields l'.fields
  pub history : l'.history.ghost_name ≡ l.history.ghost_name
