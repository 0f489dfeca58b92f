-- `filter_entries::put_row` meets its contract. The invariant: the places passed are written and their weights cleared; a weight not yet passed is as lent. Assumes nothing.
use Rattle.std.proofs.Common.{◌≡◌, ◌+◌, ◌∙◌, refl, ap, ℕ, List, get_or, set}
use lib.Ieee.{Float, nan, binary64, mul, div}
use lib.ListN.{length-set}
use Rattle.filter.proofs.Same.{same_table, table_on}
use Rattle.filter_look.proofs.Keeping.{kept_same, kept_on}
use Rattle.filter_entries.specs.Entries.{product_at}
use Rattle.filter_entries.proofs.Writes.{written_none, written-more, cleared-none, cleared_more, cleared-next}
use Rattle.filter_entries.proofs.put_row.Goals as goal

pub loop-k-init : goal.loop-k-init
loop-k-init c = record { kept = kept_same _; same = same_table _; found = refl; stamps = refl; map = refl; count = refl; starts = refl; weights = cleared-none _ _; nears = written_none _ _ _; coefs = written_none _ _ _ }

pub loop-k-preserved : goal.loop-k-preserved
loop-k-preserved c = let a = c.args in
    let m = a.met.now in
    let t = a.table.now in
    let l = c.loop-k in
    let v = l.invariant in
    let found = m.found.now in
    let i = get_or found l.k 0 in
    let f : ℕ → Float = λ j. div binary64 (product_at found m.weight.now a.volumes.now j) a.sum in
    let weighs : get_or l.met.weight.now i nan ≡ get_or m.weight.now i nan =
    ap (λ (w : List Float). get_or w i nan) v.weights ∙ cleared-next found m.count l.k m.weight.now nan c.requires.within.1 c.loop-k-test.true in
    let here : div binary64 (mul binary64 (get_or l.met.weight.now i nan) (get_or a.volumes.now i nan)) a.sum ≡ f l.k =
    ap (λ (w : Float). div binary64 (mul binary64 w (get_or a.volumes.now i nan)) a.sum) weighs in
    record {
      kept = kept_on _ l.met _ v.kept (record { mark = refl; stamp = refl; weight = refl; bits = refl; found = refl; stamps = refl; weights = length-set l.met.weight.now _ _; maps = refl; founds = refl });
      same = table_on _ l.table _ v.same (record { starts = refl; near = refl; coef = refl; starts-long = refl; near-long = length-set l.table.near.now _ _; coef-long = length-set l.table.coef.now _ _ });
      found = v.found;
      stamps = v.stamps;
      map = v.map;
      count = v.count;
      starts = v.starts;
      weights = rw v.found (cleared_more found l.k m.weight.now l.met.weight.now v.weights);
      nears = rw v.found (written-more a.at (λ j. get_or found j 0) l.k t.near.now l.table.near.now v.nears);
      coefs = rw v.found (ap (set l.table.coef.now (a.at + l.k)) here ∙ written-more a.at f l.k t.coef.now l.table.coef.now v.coefs);
    }
