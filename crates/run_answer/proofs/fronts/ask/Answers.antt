-- `run_answer::fronts::ask` meets its contract: the needed places are lent, and what comes back is laid over. Assumes nothing.
use Rattle.run_answer.proofs.Prefix.{laid, scratched}
use Rattle.run_answer.proofs.fronts.ask.Goals as goal
use Rattle.run_answer.specs.Steps.{case_in}
use Rattle.run_plain.specs.Calls.{steep_at}
use Rattle.run_plain.specs.Formulas.{see}
use Rattle.run_plain.specs.Held.{core}
use lib.ListN.{take}
use Rattle.std.proofs.Common.{take-append-drop}
use mathlib.Core.Path.{◌∙◌}

pub returns-clause-asked : goal.returns-clause-asked
returns-clause-asked c =
    let a = c.args in
    let n = a.state.setting.elements in
    let f = c.front.ensures in
    let new = c.ask.ensures ∙ (λ i. see (record { volumes = f.volumes i; passive = f.passive i; starts = f.starts i; near = f.near i; coef = f.coef i; fraction = a.state.setting.fraction; sharpen = (case_in a.state (core a.elements a.fields.now)).sharpen }) (steep_at a.state.progress.stage) (take n a.fields.now.design.now)) in
    let asked = laid n c.ask.new.density _ a.fields.now.density.now new c.ask.auto.density c.requires.density in
    record {
      lists = λ i. record {
        volumes = a.elements.volumes.now;
        passive = a.elements.passive.now;
        starts = a.elements.table.starts.now;
        near = a.elements.table.near.now;
        coef = a.elements.table.coef.now;
        design = take-append-drop n a.fields.now.design.now i;
        density = asked i;
        last = a.fields.now.last.now;
      };
      spare = scratched n c.ask.new.spare a.spare.now c.ask.auto.spare c.requires.spare;
    }
