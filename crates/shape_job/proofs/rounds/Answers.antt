-- `rounds` meets its contract. Assumes nothing.
use Rattle.shape_job.proofs.Answers.{answers-none, answers-over, answers-more}
use Rattle.shape_job.proofs.rounds.Goals as goal
use mathlib.Core.Path.{sym, ◌∙◌}
use native.Mathlib.Omega.{arith}

pub returns-then-not-asks-clause-answered : goal.returns-then-not-asks-clause-answered
returns-then-not-asks-clause-answered c = answers-over _ _ _ _ _ (sym c.asks.ensures ∙ c.if-not-asks.true) ∙ c.loop.invariant.0

pub loop-preserved : goal.loop-preserved
loop-preserved c =
    let x = c.loop in
    let t = c.turn-returned.ensures in
    let f = x.invariant.2 in
    let w = x.invariant.3 in (
      answers-more _ _ _ _ _ _ _ _ _ x.auto.energies x.invariant.1 (sym c.asks.ensures ∙ c.if-not-asks.false) (omega arith) t.answered ∙ x.invariant.0,
      t.same_lengths ∙ x.invariant.1,
      record { design = t.same_fields.design ∙ f.design; density = t.same_fields.density ∙ f.density; last = t.same_fields.last ∙ f.last },
      record { free = t.same_work.free ∙ w.free; slope = t.same_work.slope ∙ w.slope; spare = t.same_work.spare ∙ w.spare; dc = t.same_work.dc ∙ w.dc; dv = t.same_work.dv ∙ w.dv },
    )

pub returns-clause-answered : goal.returns-clause-answered
returns-clause-answered c = answers-none _ _ _ _ _ (omega arith) ∙ c.loop.invariant.0
