-- `filter_meet::gather::gather` meets its contract. The invariant: the weights and marks under the members passed. Assumes nothing.
use Rattle.std.proofs.Common.{◌≡◌, ◌∙◌}
use Rattle.filter.specs.Filter.{seen}
use Rattle.filter_group.specs.Group.{image_in}
use Rattle.filter_meet.proofs.Gathering.{gather_more}
use Rattle.filter_look.proofs.Keeping.{lists_kept, kept_on}
use Rattle.filter_meet.proofs.gather.gather.Goals as goal

pub loop-k-preserved : goal.loop-k-preserved
loop-k-preserved c = let a = c.args in
    let g = a.g.now in
    let l = c.loop-k in
    let is : c.image_of-q.result ≡ seen g.centroids.now g.radius a.planes.lent.now a.e l.k = c.image_of-q.ensures ∙ (λ i. image_in (a.planes.made i) l.k (c.from-middle.ensures i)) in record {
      kept = kept_on _ _ _ l.invariant.kept c.around.ensures.kept;
      found = c.around.ensures.found ∙ l.invariant.found;
      lists = lists_kept _ _ _ l.invariant.lists c.around.ensures.kept c.around.ensures.took.counted;
      gathered = gather_more g.centroids.now g.radius a.planes.lent.now a.e l.k c.image_of-q.result l.met c.around.new.met is (rw g.ready.many at l.invariant.lists) c.around.ensures.kept l.invariant.gathered c.around.ensures.took;
    }
