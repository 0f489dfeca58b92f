use Rattle.ieee.proofs.Basic.{holds}
use Rattle.ieee_lanes.proofs.Same.{eq-same}
use Rattle.lists.proofs.Filled.{unwritten, stored, filled}
use Rattle.lists.proofs.Laws.{both, tabulate-same}
use Rattle.lists.specs.Lists.{zero64}
use Rattle.update_design.proofs.Copied.{tabulate-get_or}
use Rattle.update_design.proofs.problem.Problem.design_again.Goals as goal
use Rattle.update_design.specs.Design.{design_at}
use borrow.Author.Count.{below_more}
use borrow.Author.Rules.{rules}
use lib.Ieee.{nan, eq, ne, binary64, fits}
use lib.ListN.{get_or}
use mathlib.Core.Bool.{◌&&◌}
use mathlib.Core.Path.{refl, sym, ◌∙◌}
use native.Mathlib.Omega.{arith}

pub loop-i-preserved : goal.loop-i-preserved
loop-i-preserved c = let l = c.loop-i in
    let v = c.next_value-v in
    let old = get_or l.out l.i nan in
    record {
      design = stored _ _ _ _ l.invariant.design _ (omega arith) v.ensures;
      same = λ e.
          let p = both l.same (eq v.result old && ne v.result zero64) e in
          let q = both (eq v.result old) (ne v.result zero64) p.1 in
          below_more _ _ (l.invariant.same p.0) (sym v.ensures ∙ eq-same v.result old (holds (fits binary64 v.result) v.type_inv) (search rules) q.0 q.1 ∙ unwritten _ _ _ _ l.invariant.design nan);
    }

pub returns-clause-design : goal.returns-clause-design
unfolding design_at
returns-clause-design c = filled _ _ _ _ c.loop-i.invariant.design _ (omega arith) (omega arith)

pub returns-clause-same : goal.returns-clause-same
returns-clause-same c = λ e.
    filled _ _ _ _ c.loop-i.invariant.design _ (omega arith) refl ∙ tabulate-same _ _ _ (λ k h. c.loop-i.invariant.same e k (omega arith)) ∙ tabulate-get_or _ nan
