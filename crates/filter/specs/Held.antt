-- How the code holds the lists of a build. Definitions only.
use Rattle.std.specs.Prelude.{◌≡◌, length}
use Rattle.filter.specs.Build.{Lent, Working}
use Rattle.filter.specs.declared.work.TableMut.{TableMut}
use Rattle.filter.specs.declared.work.Work.{Work}

-- what stands in the working lists
abbrev pub working : Work → Working
working w = record { cell = w.cell.now; order = w.order.now; first = w.first.now; sorted = w.sorted.now; stamp = w.stamp.now; weight = w.weight.now; found = w.found.now; bits = w.bits.now }

-- what stands in all that are lent
abbrev pub lent : TableMut → Work → Lent
lent t w = record { starts = t.starts.now; near = t.near.now; coef = t.coef.now; cell = w.cell.now; order = w.order.now; first = w.first.now; sorted = w.sorted.now; stamp = w.stamp.now; weight = w.weight.now; found = w.found.now; bits = w.bits.now }

-- the same lists are held, as long as they were
pub record SameTable (t t' : TableMut) : Type 0 where
  pub starts : t'.starts.ghost_name ≡ t.starts.ghost_name
  pub near : t'.near.ghost_name ≡ t.near.ghost_name
  pub coef : t'.coef.ghost_name ≡ t.coef.ghost_name
  pub starts-long : length t'.starts.now ≡ length t.starts.now
  pub near-long : length t'.near.now ≡ length t.near.now
  pub coef-long : length t'.coef.now ≡ length t.coef.now

pub record SameWork (w w' : Work) : Type 0 where
  pub cell : w'.cell.ghost_name ≡ w.cell.ghost_name
  pub order : w'.order.ghost_name ≡ w.order.ghost_name
  pub first : w'.first.ghost_name ≡ w.first.ghost_name
  pub sorted : w'.sorted.ghost_name ≡ w.sorted.ghost_name
  pub stamp : w'.stamp.ghost_name ≡ w.stamp.ghost_name
  pub weight : w'.weight.ghost_name ≡ w.weight.ghost_name
  pub found : w'.found.ghost_name ≡ w.found.ghost_name
  pub bits : w'.bits.ghost_name ≡ w.bits.ghost_name
  pub cell-long : length w'.cell.now ≡ length w.cell.now
  pub order-long : length w'.order.now ≡ length w.order.now
  pub first-long : length w'.first.now ≡ length w.first.now
  pub sorted-long : length w'.sorted.now ≡ length w.sorted.now
  pub stamp-long : length w'.stamp.now ≡ length w.stamp.now
  pub weight-long : length w'.weight.now ≡ length w.weight.now
  pub found-long : length w'.found.now ≡ length w.found.now
  pub bits-long : length w'.bits.now ≡ length w.bits.now
