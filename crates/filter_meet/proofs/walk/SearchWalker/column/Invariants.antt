-- `column` of `filter_meet::walk::Search` meets its contract. The invariant: the positions passed are looked at, which is the walk of `cells`. Assumes nothing.
use Rattle.std.proofs.Common.{◌≡◌, length}
use Rattle.filter_look.specs.Steps.{Lists, Kept}
use Rattle.filter_meet.proofs.Walking.{Strode}
use Rattle.filter_meet.proofs.walk.SearchWalker.column.Given as goal

abbrev pub invariant-loop-k : goal.invariant-loop-k
invariant-loop-k l = record {
  g : l.self.g ≡ l.initial.self.g;
  q : l.self.q ≡ l.initial.self.q;
  met : l.self.met.ghost_name ≡ l.initial.self.met.ghost_name;
  kept : Kept l.initial.self.met.now l.self.met.now;
  found : l.self.met.now.found.now ≡ l.initial.self.met.now.found.now;
  lists : Lists (length l.initial.self.g.now.cell.now) l.self.met.now;
  strode : Strode l.initial.self.g.now l.initial.self.q l.c l.initial.self.met.now l.initial.k l.k l.self.met.now;
}
