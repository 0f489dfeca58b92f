-- Lengths that are told, read as `run_plain` states them. Definitions only.
use Rattle.std.specs.Prelude.{[], ◌∷◌}
use Rattle.run_plain.specs.Lent.{Sizes}
use Rattle.run_verdict.specs.declared.Lengths.{Lengths}

abbrev pub sizes : Lengths → Sizes
sizes k =
    record {
      volumes = k.volumes;
      passive = k.passive;
      starts = k.starts;
      near = k.near;
      coef = k.coef;
      design = k.design;
      density = k.density;
      last = k.last;
      history = k.history;
      work = k.free ∷ k.slope ∷ k.spare ∷ k.dc ∷ k.dv ∷ [];
    }
