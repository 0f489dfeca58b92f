-- `update_rates::Stand::ending` meets its contract: each ending by the tests that lead to it. Assumes nothing.
use Rattle.ieee.proofs.Basic.{is-nan, is_number}
use Rattle.update_rates.proofs.Ends.{ended-met, ended_lost, ended-spent, ended_cramped}
use Rattle.update_rates.proofs.Stand.ending.Goals as goal

pub returns-then-abs-tolerance : goal.returns-then-abs-tolerance
returns-then-abs-tolerance c = ended-met _ _ _ _ _ _ _ c.abs.ensures c.if-abs-tolerance.true

pub returns-then-kept : goal.returns-then-kept
returns-then-kept c = ended_lost _ _ _ _ _ _ _ c.abs.ensures c.if-abs-tolerance.false (is-nan _ c.if-kept.true)

pub returns-then-passes-eq-PASSES : goal.returns-then-passes-eq-PASSES
returns-then-passes-eq-PASSES c = ended-spent _ _ _ _ _ _ _ c.abs.ensures c.if-abs-tolerance.false (is_number _ c.if-kept.false) c.if-passes-eq-PASSES.true

pub returns : goal.returns
returns c = ended_cramped _ _ _ _ _ _ _ c.abs.ensures c.if-abs-tolerance.false (is_number _ c.if-kept.false) c.if-passes-eq-PASSES.false
