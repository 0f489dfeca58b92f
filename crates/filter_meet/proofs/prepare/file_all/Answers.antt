-- `filter_meet::prepare::file_all` meets its contract: the calls' promises, put together. Assumes nothing.
use Rattle.filter_meet.proofs.Preparing.{prepared}
use Rattle.filter_meet.proofs.prepare.file_all.Goals as goal

pub returns : goal.returns
returns c = let a = c.args in
    prepared a.centroids.now a.lo a.radius a.cell.now c.cells_of.new.cells c.file-buckets.new.order c.file-buckets.new.first a.sorted.now c.arrange.new.sorted c.file-buckets.result
    c.requires.cell_len.0 c.requires.cell_len.3 c.cells_of.ensures c.file-buckets.ensures.filed c.arrange.ensures
