use Rattle.std.proofs.Common.{sym}
use Rattle.std.specs.Float.{nan}
use lib.Ieee.{of_bits}
use lib.ListN.{get_or-eq_default}
use Rattle.shape_solver.proofs.place.Goals as goal

pub returns-else-e-list : goal.returns-else-e-list
unfolding of_bits
returns-else-e-list c = sym (get_or-eq_default c.args.list.now nan c.if-e-list.false)
