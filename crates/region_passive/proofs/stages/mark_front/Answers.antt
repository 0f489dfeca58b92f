-- `region_passive::stages::mark_front` meets its contract: the front of each list is lent, so the places past it stay. Assumes nothing.
use Prim.Native.Nat.{ℕ, ◌+◌, ◌≤◌}
use Rattle.lent.specs.Lent.{Free}
use Rattle.region_passive.proofs.Solid.{solid-front}
use Rattle.region_passive.proofs.stages.mark_front.Goals as goal
use Rattle.region_passive.specs.Held.{problem}
use borrow.Author.Rules.{rules}
use lib.ListN.{length, take, drop}
use lib.Seq.{length-take-le, length_front, drop_at}
use mathlib.Core.List.{List, ◌++◌}
use mathlib.Core.Path.{◌≡◌, ◌∙◌}

-- a list whose front was lent and came back
free : {A : Type 0} (n : ℕ) (l new : List A) → n ≤ length l → length new ≡ length (take n l) → Free n l (new ++ drop n l)
free n l new le same = (length_front l new n same, drop_at new (drop n l) n (same ∙ length-take-le n l le))

pub returns : goal.returns
returns c =
    let p = problem c.args.part in
    let w = c.args.work in
    let q = c.requires in
    let n = length p.tets in
    record {
      marks-are = solid-front p _ w.marks.now q.marked c.mark.ensures;
      keeps = free (length p.nodes) w.keep.now _ q.keeps (search rules);
      middled = free n w.centroids.now _ q.middled (search rules);
      celled = free n w.cells.now _ q.celled (search rules);
      orders = free n w.order.now _ q.orders (search rules);
      places = free n w.place.now _ q.places (search rules);
      firsts = free (n + 1) w.first.now _ q.firsts (search rules);
    }
