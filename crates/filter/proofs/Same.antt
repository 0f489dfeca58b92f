-- The lists that are held, step by step. Assumes nothing.
use Rattle.std.proofs.Common.{◌∙◌, refl}
use Rattle.filter.specs.Held.{SameTable, SameWork}
use Rattle.filter.specs.declared.work.TableMut.{TableMut}
use Rattle.filter.specs.declared.work.Work.{Work}

pub same_table : (t : TableMut) → SameTable t t
same_table t = record { starts = refl; near = refl; coef = refl; starts-long = refl; near-long = refl; coef-long = refl }

pub table_on : (t₀ t t' : TableMut) → SameTable t₀ t → SameTable t t' → SameTable t₀ t'
table_on t₀ t t' a b =
    record {
      starts = b.starts ∙ a.starts;
      near = b.near ∙ a.near;
      coef = b.coef ∙ a.coef;
      starts-long = b.starts-long ∙ a.starts-long;
      near-long = b.near-long ∙ a.near-long;
      coef-long = b.coef-long ∙ a.coef-long;
    }

pub work_on : (w₀ w w' : Work) → SameWork w₀ w → SameWork w w' → SameWork w₀ w'
work_on w₀ w w' a b =
    record {
      cell = b.cell ∙ a.cell;
      order = b.order ∙ a.order;
      first = b.first ∙ a.first;
      sorted = b.sorted ∙ a.sorted;
      stamp = b.stamp ∙ a.stamp;
      weight = b.weight ∙ a.weight;
      found = b.found ∙ a.found;
      bits = b.bits ∙ a.bits;
      cell-long = b.cell-long ∙ a.cell-long;
      order-long = b.order-long ∙ a.order-long;
      first-long = b.first-long ∙ a.first-long;
      sorted-long = b.sorted-long ∙ a.sorted-long;
      stamp-long = b.stamp-long ∙ a.stamp-long;
      weight-long = b.weight-long ∙ a.weight-long;
      found-long = b.found-long ∙ a.found-long;
      bits-long = b.bits-long ∙ a.bits-long;
    }
