-- `filter_meet::gather::gather` meets its contract. The invariant: the weights and marks under the members passed. Assumes nothing.
use Rattle.std.proofs.Common.{◌≡◌, length}
use Rattle.filter_look.specs.Steps.{Lists, Kept, Gathered}
use Rattle.filter_meet.proofs.gather.gather.Given as goal

abbrev pub invariant-loop-k : goal.invariant-loop-k
invariant-loop-k l = record { kept : Kept l.initial.met l.met; found : l.met.found.now ≡ l.initial.met.found.now; lists : Lists (length l.g.cell.now) l.met; gathered : Gathered l.g.centroids.now l.g.radius l.planes.lent.now l.e l.k l.met }
