-- `filter_group::make_units` meets its contract: at its end every place is written. Assumes nothing.
use Rattle.std.proofs.Common.{arith}
use Rattle.filter_group.proofs.Units.{overwritten}
use Rattle.filter_group.proofs.make_units.Goals as goal

pub returns : goal.returns
returns c = overwritten _ c.args.units.now _ c.loop-i.i c.loop-i.invariant (omega arith) c.requires
