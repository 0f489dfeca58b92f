use Rattle.update_rates.proofs.Search.{rest-more, rest-none, rest-met, rest-over}
use Rattle.update_rates.specs.Steps.{straight_of}
use Rattle.update_straight.proofs.search.Goals as goal
use mathlib.Core.Path.{sym, ◌∙◌}
use native.Mathlib.Omega.{arith}

pub returns-then-not-off : goal.returns-then-not-off
returns-then-not-off c =
    let l = c.loop-passes in
    sym (rest-met (straight_of c.args.at.problem c.args.at.solid) l.bracket l.rate l.passes (sym l.invariant.off ∙ c.if-not-off.true) (omega arith)) ∙ l.invariant.goes_on

pub returns-in_default : goal.returns-in_default
returns-in_default c =
    let l = c.loop-passes in
    sym (rest-none (straight_of c.args.at.problem c.args.at.solid) l.bracket l.rate l.passes c.in_default.ensures) ∙ l.invariant.goes_on

pub loop-passes-preserved : goal.loop-passes-preserved
loop-passes-preserved c =
    let l = c.loop-passes in
    record {
      off = c.judge-side.ensures.1;
      goes_on = rest-more (straight_of c.args.at.problem c.args.at.solid) l.bracket l.rate l.passes _ _ _ (sym l.invariant.off ∙ c.if-not-off.false) (omega arith) c.in-Some.ensures c.judge-side.ensures.0 c.halved-bracket.ensures ∙ l.invariant.goes_on;
    }

pub returns : goal.returns
returns c =
    let l = c.loop-passes in
    rest-over (straight_of c.args.at.problem c.args.at.solid) l.bracket l.rate l.passes (omega arith) ∙ l.invariant.goes_on
