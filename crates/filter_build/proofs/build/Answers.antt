-- `filter_build::build` meets its contract: the ways out by `Laws`. Assumes nothing.
use Rattle.std.proofs.Common.{sym}
use Rattle.std.proofs.lemmas.Result.{err_from_is_err_and}
use Rattle.refusal.proofs.Numbers.{some_number}
use Rattle.filter.specs.Held.{lent}
use Rattle.filter_build.proofs.Laws.{room, refuses, builds, wipes}
use Rattle.filter_build.proofs.build.Goals as goal

pub returns-in_err-check-clause-built : goal.returns-in_err-check-clause-built
returns-in_err-check-clause-built c = let i = c.args.input in
    let p = err_from_is_err_and c.from_residual.result c.from_residual.ensures.1 in
    rw (p.1, p.2) (refuses i.centroids.now i.volumes.now i.radius i.planes.now (lent c.args.table.now c.args.work.now) _ (sym c.in_err-check.ensures) (some_number _))

pub fill_front-requires : goal.fill_front-requires
fill_front-requires c = let i = c.args.input in room i.centroids.now i.volumes.now i.radius i.planes.now c.args.table.now c.args.work.now c.in_ok-check.ensures

pub returns-in-Err-clause-built : goal.returns-in-Err-clause-built
returns-in-Err-clause-built c = let i = c.args.input in
    let f = c.in-Err.ensures in
    let t = c.wipe_table.ensures in
    wipes i.centroids.now i.volumes.now i.radius i.planes.now c.args.table.now c.args.work.now c.in_ok-check.ensures c.fill_front.new.table c.fill_front.new.work f.same_table f.same_work
    _ c.wipe_table.new.table c.wipe_work.new.work (some_number _) f.filled t.starts t.near t.coef c.wipe_work.ensures.wiped

pub returns-clause-built : goal.returns-clause-built
returns-clause-built c = let i = c.args.input in
    let f = c.in_default.ensures in
    builds i.centroids.now i.volumes.now i.radius i.planes.now c.args.table.now c.args.work.now c.in_ok-check.ensures c.fill_front.new.table c.fill_front.new.work f.same_table f.same_work f.filled f.past
