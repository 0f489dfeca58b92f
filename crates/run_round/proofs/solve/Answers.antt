-- `run_round::solve` meets its contract: by its law, from what each call gives. Assumes nothing.
use Rattle.run_round.proofs.Laws.{slopes-are, solved-is}
use Rattle.run_round.proofs.solve.Goals as goal

pub returns : goal.returns
returns c =
    let a = c.args in
    let e = a.elements in
    let solved = solved-is e.volumes.now e.passive.now e.table.starts.now e.table.near.now e.table.coef.now a.state.setting.fraction c.sharpens-sharpen.result a.state.progress.stage a.design.now a.density.now a.energies.now
    _ _ _ _ _ _ _ _ _ _ _ _ _ _ _ _ _ _ a.number
    c.sum-total.ensures c.solid_volume-solid.ensures c.sharpness-beta.ensures c.free_volumes.ensures
    c.sum.ensures c.grey-grey.ensures (slopes-are _ _ _ _ _ _ _ _ _ _ _ _ _ c.slopes.ensures c.work_slope.ensures c.volume_slopes.ensures)
    c.move_at.ensures c.target.ensures c.tolerance.ensures c.rule_at.ensures
    c.update-u.ensures c.change-change.ensures c.copy.ensures c.compliance.ensures c.fraction.ensures in
    record {
      entry = cc (solved.0, c.sharpens-sharpen.ensures);
      updated = cc (solved.1, c.sharpens-sharpen.ensures);
    }
