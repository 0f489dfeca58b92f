-- `filter_row::build_row` meets its contract: what is gathered and settled is the row of the definition. Assumes nothing.
use Rattle.std.proofs.Common.{refl, arith}
use Rattle.filter_row.proofs.OneRow.{clean_lists, clean_gathered, rowed_by, clean_by}
use Rattle.filter_row.proofs.build_row.Goals as goal

pub gather-requires-clause-lists : goal.gather-requires-clause-lists
gather-requires-clause-lists c = let a = c.args in clean_lists _ a.e a.met.now c.requires.clean _ a.g.now.ready.many

pub gather-requires-clause-gathered : goal.gather-requires-clause-gathered
gather-requires-clause-gathered c = let a = c.args in clean_gathered _ a.e a.met.now c.requires.clean a.g.now.centroids.now a.g.now.radius a.planes.lent.now refl

pub returns-clause-rowed : goal.returns-clause-rowed
returns-clause-rowed c = let a = c.args in
    let g = a.g.now in
    let met = c.gather.ensures in
    rowed_by g.centroids.now g.radius a.planes.lent.now a.volumes.now a.e a.at c.gather.new.met a.table.now c.settle.result c.settle.new.met c.settle.new.table met.kept.mark met.gathered_2 (rw g.ready.many at met.lists_2) c.settle.ensures.settled

pub returns-clause-clean_2 : goal.returns-clause-clean_2
returns-clause-clean_2 c = let a = c.args in
    let g = a.g.now in
    let met = c.gather.ensures in
    clean_by g.centroids.now g.radius a.planes.lent.now a.volumes.now a.e a.at c.gather.new.met a.table.now c.settle.result c.settle.new.met c.settle.new.table met.kept.mark met.gathered_2 (rw g.ready.many at met.lists_2) c.settle.ensures.settled (omega (arith, c.requires.clean.founds, met.kept.founds)) c.settle.ensures.kept
