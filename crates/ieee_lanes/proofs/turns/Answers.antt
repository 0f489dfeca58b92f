use Rattle.ieee_lanes.proofs.Squeeze.{fraction-more}
use Rattle.ieee_lanes.proofs.turns.Goals as goal
use mathlib.Core.Path.{◌∙◌}

pub loop-i-preserved : goal.loop-i-preserved
loop-i-preserved c = λ j h. c.turn-next.ensures j h ∙ fraction-more _ _ _ (c.loop-i.invariant j h)
