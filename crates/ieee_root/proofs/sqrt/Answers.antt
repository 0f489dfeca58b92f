-- `ieee_root::sqrt` meets its contract: the library's root is `sqrt_of`. Assumes nothing.
use Rattle.std.proofs.Common.{sym, ◌∙◌, subst}
use Rattle.ieee.proofs.Basic.{is-nan}
use Rattle.ieee_root.proofs.Apart.{below_zero, of_nan}
use Rattle.ieee_root.proofs.Library.{library_root}
use Rattle.ieee_root.proofs.sqrt.Goals as goal
use lib.Dec.{T}
use lib.Ieee.{of_bits}

pub returns-then-x : goal.returns-then-x
unfolding of_bits
returns-then-x c = below_zero c.args.x c.if-x.true

pub returns-then-x-2 : goal.returns-then-x-2
returns-then-x-2 c = of_nan c.args.x (is-nan c.args.x c.if-x-2.true)

pub returns : goal.returns
returns c = c.sqrt.ensures.value ∙ library_root c.args.x (subst T (sym c.well_formed.0.1) tt)
