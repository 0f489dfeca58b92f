-- `ieee::max` meets its contract: `proofs/Basic.antt` has each case. Assumes nothing.
use Rattle.ieee.proofs.Basic.{lt-left, lt-right, other, other-taken, other-nan, other-left}
use Rattle.ieee.proofs.max.Goals as goal
use Rattle.ieee.specs.Basic.{max_of}
use lib.Ieee.{lt}
use mathlib.Core.Path.{sym, ◌∙◌}

pub returns-then-x-y : goal.returns-then-x-y
unfolding max_of other
returns-then-x-y c = sym (other-taken (lt c.args.x c.args.y) c.args.x c.args.y (lt-left c.args.x c.args.y c.if-x-y.true) (lt-right c.args.x c.args.y c.if-x-y.true) c.if-x-y.true)

pub returns-then-is_nan : goal.returns-then-is_nan
unfolding max_of other
returns-then-is_nan c = sym (other-nan _ _ _ (sym c.is_nan.ensures.value ∙ c.if-is_nan.true))

pub returns : goal.returns
unfolding max_of other
returns c = sym (other-left (lt c.args.x c.args.y) _ _ (sym c.is_nan.ensures.value ∙ c.if-is_nan.false) c.if-x-y.false)
