-- What the lists that the code holds contain. Definitions only.
use Rattle.std.specs.Prelude.{◌≡◌, List, [], ◌∷◌, ℕ, length, Float}
use Rattle.filter.specs.declared.work.TableMut.{TableMut}
use Rattle.run_plain.specs.declared.Job.{Job}
use Rattle.run_plain.specs.declared.OpenFields.{OpenFields}
use Rattle.run_plain.specs.declared.Elements.{Elements}
use Rattle.run_plain.specs.declared.Fields.{Fields}
use Rattle.run_plain.specs.declared.Work.{Work}
use Rattle.run_plain.specs.Calls.{Core, Asked}

-- ---- of an opening
abbrev pub asked : Job → Asked
asked j = record { centroids = j.centroids.now; mirrors = j.mirrors.now; goal = j.goal; flag = j.flag }

abbrev pub opened : Job → TableMut → OpenFields → Core
opened j t f =
    record {
      volumes = j.volumes.now;
      passive = j.passive.now;
      starts = t.starts.now;
      near = t.near.now;
      coef = t.coef.now;
      design = f.design.now;
      density = f.density.now;
      last = f.last.now;
    }

pub record SameOpenFields (f g : OpenFields) : Type 0 where
  pub design : g.design.ghost_name ≡ f.design.ghost_name
  pub density : g.density.ghost_name ≡ f.density.ghost_name

-- ---- of an answer
abbrev pub core : Elements → Fields → Core
core e f =
    record {
      volumes = e.volumes.now;
      passive = e.passive.now;
      starts = e.table.starts.now;
      near = e.table.near.now;
      coef = e.table.coef.now;
      design = f.design.now;
      density = f.density.now;
      last = f.last.now;
    }

-- the working lists
pub record Working : Type 0 where
  pub free : List Float
  pub slope : List Float
  pub spare : List Float
  pub dc : List Float
  pub dv : List Float

abbrev pub working : Work → Working
working w = record { free = w.free.now; slope = w.slope.now; spare = w.spare.now; dc = w.dc.now; dv = w.dv.now }

abbrev pub lengths_of : Working → List ℕ
lengths_of w = length w.free ∷ length w.slope ∷ length w.spare ∷ length w.dc ∷ length w.dv ∷ []

-- the same lists are held
pub record SameFields (f g : Fields) : Type 0 where
  pub design : g.design.ghost_name ≡ f.design.ghost_name
  pub density : g.density.ghost_name ≡ f.density.ghost_name
  pub last : g.last.ghost_name ≡ f.last.ghost_name

pub record SameWork (v w : Work) : Type 0 where
  pub free : w.free.ghost_name ≡ v.free.ghost_name
  pub slope : w.slope.ghost_name ≡ v.slope.ghost_name
  pub spare : w.spare.ghost_name ≡ v.spare.ghost_name
  pub dc : w.dc.ghost_name ≡ v.dc.ghost_name
  pub dv : w.dv.ghost_name ≡ v.dv.ghost_name
