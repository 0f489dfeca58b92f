use Rattle.update_rates.proofs.Search.{rest-more, rest-none, rest-met, rest-over}
use Rattle.update_rates.specs.Steps.{more as more_at, off as off_at}
use Rattle.update_sharpened.proofs.sharp.Sharp.halve.Goals as goal
use Rattle.update_sharpened.specs.Ahead.{sharp_of}
use mathlib.Core.Path.{refl, sym, ◌∙◌}
use native.Mathlib.Omega.{arith}

pub loop-passes-init : goal.loop-passes-init
unfolding off_at
loop-passes-init c = record {
  off = cc (c.of-off.ensures.1, c.requires.kept);
  kept = c.requires.kept;
  ahead = c.requires.ahead;
  goes_on = refl;
}

pub returns-then-not-off-clause-stand : goal.returns-then-not-off-clause-stand
returns-then-not-off-clause-stand c =
    let l = c.loop-passes in
    sym (rest-met (sharp_of c.args.self) l.bracket l.rate l.passes (sym l.invariant.off ∙ c.if-not-off.true) (omega arith)) ∙ l.invariant.goes_on

pub returns-in_default-clause-stand : goal.returns-in_default-clause-stand
returns-in_default-clause-stand c =
    let l = c.loop-passes in
    sym (rest-none (sharp_of c.args.self) l.bracket l.rate l.passes c.in_default.ensures) ∙ l.invariant.goes_on

pub loop-passes-preserved : goal.loop-passes-preserved
unfolding off_at more_at
loop-passes-preserved c =
    let l = c.loop-passes in
    let v = c.volume_at-at.ensures in
    record {
      off = cc (c.of-side.ensures.1, v.kept);
      kept = v.kept;
      ahead = v.ahead;
      goes_on = rest-more (sharp_of c.args.self) l.bracket l.rate l.passes _ _ _ (sym l.invariant.off ∙ c.if-not-off.false) (omega arith) c.in-Some.ensures (cc (c.of-side.ensures.0, v.kept)) c.halved-bracket.ensures ∙ l.invariant.goes_on;
    }

pub returns-clause-stand : goal.returns-clause-stand
returns-clause-stand c =
    let l = c.loop-passes in
    rest-over (sharp_of c.args.self) l.bracket l.rate l.passes (omega arith) ∙ l.invariant.goes_on
