-- `column` of `filter_meet::walk::Search` meets its contract. The invariant: the positions passed are looked at, which is the walk of `cells`. Assumes nothing.
use Rattle.std.proofs.Common.{◌≡◌, ◌<◌, ◌∙◌, refl, length, arith}
use Rattle.filter_look.proofs.Keeping.{lists_kept, kept_same, kept_on}
use Rattle.filter_meet.proofs.Walking.{stride_none, stride_more, spanned, stride_done}
use Rattle.filter_meet.proofs.walk.SearchWalker.column.Goals as goal

pub loop-k-init : goal.loop-k-init
loop-k-init c = let s = c.args.self.now in record { g = refl; q = refl; met = refl; kept = kept_same _; found = refl; lists = c.requires; strode = stride_none s.g.now s.q c.args.c s.met.now _ }

pub look-requires-clause-there : goal.look-requires-clause-there
look-requires-clause-there c = let s = c.args.self.now in
    let g = s.g.now in
    let lt : c.loop-k.k < length g.cell.now = omega (arith, spanned g s.q c.args.c _ _ c.span-run.ensures) in (omega (arith, lt, g.ready.orders), omega (arith, lt, g.ready.sorteds), g.ready.elements c.loop-k.k lt)

pub loop-k-preserved : goal.loop-k-preserved
loop-k-preserved c = let s = c.args.self.now in
    let l = c.loop-k in
    let v = l.invariant in
    let e = c.look.ensures in
    let lt : l.k < length s.g.now.cell.now = omega (arith, spanned s.g.now s.q c.args.c _ _ c.span-run.ensures) in record {
      g = v.g;
      q = v.q;
      met = v.met;
      kept = kept_on _ _ _ v.kept e.kept;
      found = e.found ∙ v.found;
      lists = lists_kept _ _ _ v.lists e.kept e.looked.counted;
      strode = stride_more s.g.now s.q c.args.c l.k lt s.met.now l.self.met.now _ _ (omega arith) v.kept.mark v.lists v.strode (rw v.q at e.looked);
    }

pub returns : goal.returns
returns c = let s = c.args.self.now in
    let l = c.loop-k in
    let v = l.invariant in
    let run = c.span-run in
    let e : l.k ≡ run.result.end = omega (arith, spanned s.g.now s.q c.args.c _ _ run.ensures) in
    record {
      ready = rw v.g v.lists;
      done = record { g = v.g; q = v.q; met = v.met; kept = v.kept; found = v.found; took = stride_done s.g.now s.q c.args.c run.result.start run.result.end run.ensures s.met.now l.self.met.now v.lists.counted (rw e at v.strode) };
    }
