-- By the bounds where they meet, else turn by turn.
use Rattle.std.proofs.lemmas.List.{get_or-replicate}
use Rattle.ieee_lanes.proofs.Squeeze.{fraction-none, met}
use Rattle.ieee_lanes.proofs.fractions.Goals as goal
use Rattle.ieee.specs.Basic.{whole64}
use lib.Ieee.{nan, of_bits, of_int}
use lib.ListN.{get_or}
use mathlib.Core.Path.{◌∙◌}

pub turns-requires-clause-begins : goal.turns-requires-clause-begins
turns-requires-clause-begins c = λ j h. met _ _ _ _ (c.narrowed-bounds.ensures j h) (c.agree.ensures c.if-agree.true j h)

pub turns-requires-2-clause-begins : goal.turns-requires-2-clause-begins
unfolding of_bits of_int
turns-requires-2-clause-begins c = λ j h. get_or-replicate 8 j (whole64 63) nan h ∙ fraction-none (get_or c.args.squares j nan)
