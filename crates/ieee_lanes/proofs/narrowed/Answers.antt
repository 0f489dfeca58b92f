use Rattle.ieee.specs.Basic.{one64}
use Rattle.std.proofs.Common.{rules}
use Rattle.std.proofs.lemmas.List.{get_or-replicate, set-get_or}
use Rattle.ieee_lanes.proofs.Squeeze.{step, begun}
use Rattle.ieee_lanes.proofs.narrowed.Goals as goal
use Rattle.ieee_lanes.specs.Fraction.{sixty_four}
use lib.Ieee.{nan}
use lib.ListN.{get_or}
use native.Mathlib.Omega.{arith}

pub loop-i-init : goal.loop-i-init
loop-i-init c = λ j h.
    rw (get_or-replicate 8 j one64 nan h, get_or-replicate 8 j sixty_four nan h) (begun (get_or c.args.squares j nan) (c.requires.small j h) c.args.at.start (omega arith))

-- `set-get_or` serves the edit bounds_not_crossed: it is refused for the value that it puts into one lane, and not for putting one.
pub loop-i-preserved : goal.loop-i-preserved
loop-i-preserved c = λ j h.
    rw (c.turn-next.ensures j h, c.turn-last.ensures j h) (step _ (c.requires.small j h) c.loop-i.i (omega arith) _ _ (search (rules, set-get_or)))
