-- `filter_rows::rows::all_rows` meets its contract. The invariant: the rows passed are laid one after the other, and none was refused. Assumes nothing.
use Rattle.std.proofs.Common.{refl, set, arith}
use lib.ListN.{length-set}
use Rattle.std.proofs.lemmas.Result.{err_from_is_err_and}
use Rattle.refusal.proofs.Numbers.{some_number}
use Rattle.filter.proofs.Same.{same_table, table_on}
use Rattle.filter_look.proofs.Keeping.{met_same, met_on}
use Rattle.filter_rows.proofs.Table.{laid-first, filled-refused, filled-all, end-small, laid_next}
use Rattle.filter_rows.proofs.rows.all_rows.Goals as goal

pub loop-e-init : goal.loop-e-init
loop-e-init c = let a = c.args in
    let g = a.g.now in
    record { same_met = met_same _; same_table = same_table _; clean = c.requires.clean; laid = laid-first g.centroids.now g.radius a.planes.lent.now a.volumes.now a.table.now.starts.now a.table.now.near.now a.table.now.coef.now }

pub returns-in_err-at-clause-filled : goal.returns-in_err-at-clause-filled
returns-in_err-at-clause-filled c = let a = c.args in
    let g = a.g.now in
    let l = c.loop-e in
    let p = err_from_is_err_and c.from_residual.result c.from_residual.ensures.1 in
    rw (p.1, p.2) (filled-refused g.centroids.now g.radius a.planes.lent.now a.volumes.now a.table.now l.e l.at l.table l.invariant.laid _ _ c.build_row.new.table c.in_err-at.ensures.rowed (omega arith) (some_number _))

pub overflow_cast-table : goal.overflow_cast-table
overflow_cast-table c = let a = c.args in
    let g = a.g.now in
    let l = c.loop-e in
    omega (arith, end-small g.centroids.now g.radius a.planes.lent.now a.volumes.now (set a.table.now.starts.now 0 0) a.table.now.near.now a.table.now.coef.now l.e l.at l.table l.invariant.laid _ _ c.build_row.new.table c.in_ok-at.ensures.rowed refl)

pub loop-e-preserved : goal.loop-e-preserved
loop-e-preserved c = let a = c.args in
    let g = a.g.now in
    let l = c.loop-e in
    let t = c.build_row.new.table in
    let e = c.in_ok-at.ensures in record {
      same_met = met_on _ _ _ l.invariant.same_met e.same_met;
      same_table = table_on _ l.table _ l.invariant.same_table
          (table_on _ t _ e.same_table (record { starts = refl; near = refl; coef = refl; starts-long = length-set t.starts.now _ _; near-long = refl; coef-long = refl }));
      clean = e.clean_2;
      laid = laid_next g.centroids.now g.radius a.planes.lent.now a.volumes.now (set a.table.now.starts.now 0 0) a.table.now.near.now a.table.now.coef.now l.e l.at l.table l.invariant.laid _ _ t e.rowed refl
          (omega (arith, c.requires.begun, length-set a.table.now.starts.now 0 0)) e.same_table;
    }

pub returns-clause-filled : goal.returns-clause-filled
returns-clause-filled c = let a = c.args in
    let g = a.g.now in
    let l = c.loop-e in
    filled-all g.centroids.now g.radius a.planes.lent.now a.volumes.now a.table.now l.e l.at l.table (omega arith) l.invariant.laid
