-- An opening as the code is given it: of the lists that it may write only the lengths. Definitions only.
use Rattle.std.specs.Prelude.{length}
use Rattle.filter.specs.Lengths.{lengths}
use Rattle.run_plain.specs.declared.Job.{Job}
use Rattle.run_plain.specs.Lent.{Sizes}
use Rattle.run_plain.specs.Opening.{Opening}
use Rattle.run_open_checks.specs.declared.Lengths.{Lengths}

abbrev pub sizes : Job → Lengths → Sizes
sizes j k =
    record {
      volumes = length j.volumes.now;
      passive = length j.passive.now;
      starts = k.starts;
      near = k.near;
      coef = k.coef;
      design = k.design;
      density = k.density;
      last = k.last;
      history = k.history;
      work = lengths k.work;
    }

abbrev pub opening : Job → Lengths → Opening
opening j k = record { volumes = j.volumes.now; centroids = j.centroids.now; passive = j.passive.now; mirrors = j.mirrors.now; goal = j.goal; flag = j.flag; lent = sizes j k }
