-- `filter_entries::sum_row` meets its contract. The invariant: what is added up is the sum of the places passed. Assumes nothing.
use Rattle.std.proofs.Common.{◌≡◌}
use Rattle.lists.specs.Lists.{sum_to}
use Rattle.filter_entries.specs.Entries.{product_at}
use Rattle.filter_entries.proofs.sum_row.Given as goal

abbrev pub invariant-loop-k : goal.invariant-loop-k
invariant-loop-k l = l.sum ≡ sum_to (product_at l.met.found.now l.met.weight.now l.volumes) l.k
