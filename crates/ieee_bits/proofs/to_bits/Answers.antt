-- `ieee_bits::to_bits` meets its contract: a NaN's pattern is that of the one NaN. Assumes nothing.
use Rattle.ieee_bits.proofs.Patterns.{nan_of}
use Rattle.ieee_bits.proofs.to_bits.Goals as goal
use lib.Ieee.{binary64, to_bits}
use mathlib.Core.Path.{sym, ap, ◌∙◌}

pub returns-then-is_nan : goal.returns-then-is_nan
unfolding to_bits
returns-then-is_nan c = ap (to_bits binary64) (sym (nan_of c.args.x (sym c.is_nan.ensures.value ∙ c.if-is_nan.true)))
