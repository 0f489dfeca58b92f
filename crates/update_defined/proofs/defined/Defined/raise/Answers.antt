use Rattle.update_defined.proofs.defined.Defined.raise.Goals as goal
use Rattle.update_defined.specs.Defined.{defined_of}
use Rattle.update_design.specs.Design.{same_design}
use Rattle.update_rates.proofs.Loops.{raise_rest-more, raise_rest-same, raise_rest-met, raise_rest-over}
use Rattle.update_rates.specs.Rates.{trial}
use lib.Ieee.{Float}
use mathlib.Core.List.{List}
use mathlib.Core.Path.{sym, ap, ◌∙◌}
use native.Mathlib.Omega.{arith}

pub returns-then-not-more-clause-stand : goal.returns-then-not-more-clause-stand
returns-then-not-more-clause-stand c =
    let l = c.loop-passes in
    sym (raise_rest-met (defined_of c.args.self) l.bracket l.design l.kept l.passes (sym c.of-more.ensures.0 ∙ c.if-not-more.true) (omega arith)) ∙ l.invariant.goes_on

pub returns-then-same-clause-stand : goal.returns-then-same-clause-stand
unfolding trial
returns-then-same-clause-stand c =
    let l = c.loop-passes in
    sym (raise_rest-same (defined_of c.args.self) l.bracket l.design l.kept l.passes _ c.design_at.ensures (sym c.same.ensures ∙ c.if-same.true)) ∙ l.invariant.goes_on

pub loop-passes-preserved : goal.loop-passes-preserved
unfolding trial
loop-passes-preserved c =
    let l = c.loop-passes in
    let e = c.copy.ensures in
    record {
      kept = c.kept-kept.ensures;
      goes_on =
          raise_rest-more (defined_of c.args.self) l.bracket l.design l.kept l.passes _ _ (sym c.of-more.ensures.0 ∙ c.if-not-more.false) (omega arith) (e ∙ c.design_at.ensures)
          (ap (λ (y : List Float). same_design y l.design) e ∙ sym c.same.ensures ∙ c.if-same.false) c.kept-kept.ensures
          ∙ l.invariant.goes_on;
    }

pub returns-clause-stand : goal.returns-clause-stand
returns-clause-stand c =
    let l = c.loop-passes in
    raise_rest-over (defined_of c.args.self) l.bracket l.design l.kept l.passes (omega arith) ∙ l.invariant.goes_on
