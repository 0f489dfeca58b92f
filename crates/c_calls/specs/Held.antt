-- What the lists that an opening holds contain. Definitions only.
use Rattle.filter.specs.declared.work.TableMut.{TableMut}
use Rattle.run_plain.specs.declared.OpenFields.{OpenFields}
use Rattle.run_plain.specs.Calls.{Core, Asked}
use Rattle.c_numbers.specs.Flat.{goal_of}
use Rattle.c_calls.specs.declared.Job.{Job}

abbrev pub asked : Job → Asked
asked j = record { centroids = j.centroids.now; mirrors = j.mirrors.now; goal = goal_of j.goal; flag = j.flag }

abbrev pub opened : Job → TableMut → OpenFields → Core
opened j t f =
    record {
      volumes = j.volumes.now;
      passive = j.passive.now;
      starts = t.starts.now;
      near = t.near.now;
      coef = t.coef.now;
      design = f.design.now;
      density = f.density.now;
      last = f.last.now;
    }
