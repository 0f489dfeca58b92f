-- `ieee_bits::from_bits` meets its contract: a pattern above the infinity's, the sign's bit taken off, is a NaN's. Assumes nothing.
use Rattle.ieee_bits.proofs.Patterns.{above-nan, below_nan}
use Rattle.ieee_bits.proofs.from_bits.Goals as goal
use lib.Dec.{T}
use lib.Ieee.{of_bits}
use mathlib.Core.Bool.{Bool, not}
use mathlib.Core.Path.{sym, subst}

pub returns-then-b-gt-INFINITY : goal.returns-then-b-gt-INFINITY
unfolding of_bits
returns-then-b-gt-INFINITY c = sym (above-nan c.args.b c.if-b-gt-INFINITY.true)

pub float_from_bits-result : goal.float_from_bits-result
float_from_bits-result c = subst (λ (t : Bool). T (not t)) (sym (below_nan c.args.b c.if-b-gt-INFINITY.false)) tt
