-- `filter_entries::put_row` meets its contract. The invariant: the places passed are written and their weights cleared. Assumes nothing.
use Rattle.std.proofs.Common.{◌≡◌, get_or}
use lib.Ieee.{binary64, div}
use Rattle.filter.specs.Held.{SameTable}
use Rattle.filter_look.specs.Steps.{Kept}
use Rattle.filter_entries.specs.Entries.{product_at, written, cleared}
use Rattle.filter_entries.proofs.put_row.Given as goal

abbrev pub invariant-loop-k : goal.invariant-loop-k
invariant-loop-k l = record {
  kept : Kept l.initial.met l.met;
  same : SameTable l.initial.table l.table;
  found : l.met.found.now ≡ l.initial.met.found.now;
  stamps : l.met.stamp.now ≡ l.initial.met.stamp.now;
  map : l.met.bits.now ≡ l.initial.met.bits.now;
  count : l.met.count ≡ l.initial.met.count;
  starts : l.table.starts.now ≡ l.initial.table.starts.now;
  weights : l.met.weight.now ≡ cleared l.initial.met.found.now l.k l.initial.met.weight.now;
  nears : l.table.near.now ≡ written l.at (λ j. get_or l.initial.met.found.now j 0) l.k l.initial.table.near.now;
  coefs : l.table.coef.now ≡ written l.at (λ j. div binary64 (product_at l.initial.met.found.now l.initial.met.weight.now l.volumes j) l.sum) l.k l.initial.table.coef.now;
}
