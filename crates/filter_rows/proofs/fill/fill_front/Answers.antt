-- `filter_rows::fill::fill_front` meets its contract: the front of each working list is lent, so the places past it stay. Assumes nothing.
use Rattle.std.proofs.Common.{◌+◌, ◌∙◌, length, drop}
use lib.Seq.{length-take-le, drop_at}
use Rattle.filter_rows.proofs.fill.fill_front.Goals as goal

pub returns-clause-past : goal.returns-clause-past
returns-clause-past c = let w = c.args.work.now in
    let n = length c.args.input.centroids.now in
    let r = c.requires in
    let t = c.fill_table in record {
      cells = drop_at t.new.cell (drop n w.cell.now) n (t.auto.cell ∙ length-take-le n w.cell.now r.cells);
      orders = drop_at t.new.order (drop n w.order.now) n (t.auto.order ∙ length-take-le n w.order.now r.orders);
      firsts = drop_at t.new.first (drop (n + 1) w.first.now) (n + 1) (t.auto.first ∙ length-take-le (n + 1) w.first.now r.firsts);
      sorteds = drop_at t.new.sorted (drop n w.sorted.now) n (t.auto.sorted ∙ length-take-le n w.sorted.now r.sorteds);
      stamps = drop_at t.new.stamp (drop n w.stamp.now) n (t.auto.stamp ∙ length-take-le n w.stamp.now r.stamps);
      weights = drop_at t.new.weight (drop n w.weight.now) n (t.auto.weight ∙ length-take-le n w.weight.now r.weights);
      founds = drop_at t.new.found (drop n w.found.now) n (t.auto.found ∙ length-take-le n w.found.now r.founds);
      maps = drop_at t.new.bits (drop 1040 w.bits.now) 1040 (t.auto.bits ∙ length-take-le 1040 w.bits.now r.maps);
    }
