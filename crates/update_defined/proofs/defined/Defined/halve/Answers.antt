use Rattle.update_defined.proofs.defined.Defined.halve.Goals as goal
use Rattle.update_defined.specs.Defined.{defined_of}
use Rattle.update_rates.proofs.Loops.{halve_rest-more, halve_rest-none, halve_rest-met, halve_rest-over}
use Rattle.update_rates.specs.Rates.{trial}
use mathlib.Core.Path.{sym, ◌∙◌}
use native.Mathlib.Omega.{arith}

pub returns-then-not-off : goal.returns-then-not-off
returns-then-not-off c =
    let l = c.loop-passes in
    sym (halve_rest-met (defined_of c.args.self) l.bracket l.design l.kept l.passes (sym c.of-off.ensures.1 ∙ c.if-not-off.true) (omega arith)) ∙ l.invariant.goes_on

pub returns-in_default : goal.returns-in_default
returns-in_default c =
    let l = c.loop-passes in
    sym (halve_rest-none (defined_of c.args.self) l.bracket l.design l.kept l.passes c.in_default.ensures) ∙ l.invariant.goes_on

pub loop-passes-preserved : goal.loop-passes-preserved
unfolding trial
loop-passes-preserved c =
    let l = c.loop-passes in
    record {
      kept = c.kept_again-kept.ensures;
      goes_on =
          halve_rest-more (defined_of c.args.self) l.bracket l.design l.kept l.passes _ _ _ _ _ (sym c.of-off.ensures.1 ∙ c.if-not-off.false) (omega arith) c.in-Some.ensures
          c.design_again-same.ensures.design c.kept_again-kept.ensures c.of.ensures.0 c.halved-bracket.ensures
          ∙ l.invariant.goes_on;
    }

pub returns : goal.returns
returns c =
    let l = c.loop-passes in
    halve_rest-over (defined_of c.args.self) l.bracket l.design l.kept l.passes (omega arith) ∙ l.invariant.goes_on
