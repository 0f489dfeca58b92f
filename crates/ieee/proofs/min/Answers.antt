-- `ieee::min` meets its contract: `proofs/Basic.antt` has each case. Assumes nothing.
use Rattle.ieee.proofs.Basic.{lt-left, lt-right, other, other-taken, other-nan, other-left}
use Rattle.ieee.proofs.min.Goals as goal
use Rattle.ieee.specs.Basic.{min_of}
use lib.Ieee.{lt}
use mathlib.Core.Path.{sym, ◌∙◌}

pub returns-then-y-x : goal.returns-then-y-x
unfolding min_of other
returns-then-y-x c = sym (other-taken (lt c.args.y c.args.x) c.args.x c.args.y (lt-right c.args.y c.args.x c.if-y-x.true) (lt-left c.args.y c.args.x c.if-y-x.true) c.if-y-x.true)

pub returns-then-is_nan : goal.returns-then-is_nan
unfolding min_of other
returns-then-is_nan c = sym (other-nan _ _ _ (sym c.is_nan.ensures.value ∙ c.if-is_nan.true))

pub returns : goal.returns
unfolding min_of other
returns c = sym (other-left (lt c.args.y c.args.x) _ _ (sym c.is_nan.ensures.value ∙ c.if-is_nan.false) c.if-y-x.false)
