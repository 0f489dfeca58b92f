-- `run_answer::fronts::solve` meets its contract: the needed places are lent, and what comes back is laid over. Assumes nothing.
use Rattle.run_answer.proofs.Prefix.{laid, scratched}
use Rattle.run_answer.proofs.fronts.solve.Goals as goal
use Rattle.run_answer.specs.Steps.{case_in}
use Rattle.run_plain.specs.Calls.{steep_at}
use Rattle.run_plain.specs.Formulas.{update_at, record_at}
use Rattle.run_plain.specs.Held.{core}
use Rattle.run_round.specs.Round.{case_in as case_of_round}
use borrow.Author.Rules.{rules}
use lib.ListN.{take}
use mathlib.Core.Path.{◌≡◌, ◌∙◌}
use native.Mathlib.Numerals.{add-one}

pub returns : goal.returns
returns c =
    let a = c.args in
    let n = a.state.setting.elements in
    let f = c.front.ensures in
    let case : case_of_round a.state c.front.result ≡ case_in a.state (core a.elements a.fields) =
    λ i. record { volumes = f.volumes i; passive = f.passive i; starts = f.starts i; near = f.near i; coef = f.coef i; fraction = a.state.setting.fraction; sharpen = (case_in a.state (core a.elements a.fields)).sharpen } in
    let steep = steep_at a.state.progress.stage in
    let x = take n a.fields.design.now in
    let q = take n a.fields.density.now in
    let u = a.energies.now in
    let p = c.requires.enough in
    let new = laid n c.solve-entry.new.design _ a.fields.design.now (c.solve-entry.ensures.updated ∙ (λ i. (update_at (case i) steep x q u).design)) c.solve-entry.auto.design p.asks.design in
    let last = laid n c.copy.new.to q a.fields.last.now c.copy.ensures c.copy.auto.to p.last in
    record {
      entry = c.solve-entry.ensures.entry ∙ (λ i. record_at (case i) steep x q u (add-one a.state.progress.rounds i));
      lists = λ i. record {
        volumes = a.elements.volumes.now;
        passive = a.elements.passive.now;
        starts = a.elements.table.starts.now;
        near = a.elements.table.near.now;
        coef = a.elements.table.coef.now;
        design = new i;
        density = a.fields.density.now;
        last = last i;
      };
      work = record {
        free = scratched n _ a.work.free.now (search rules) p.free;
        slope = scratched n _ a.work.slope.now (search rules) p.asks.spare;
        spare = scratched n _ a.work.spare.now (search rules) p.spare;
        dc = scratched n _ a.work.dc.now (search rules) p.dc;
        dv = scratched n _ a.work.dv.now (search rules) p.dv;
      };
    }
