-- `topo_moduli::table::modulus_at` meets its contract: the table's entries have the patterns that are tested. Assumes nothing.
use Rattle.topo_moduli.proofs.Moduli.{entry}
use Rattle.topo_moduli.proofs.Patterns.{patterns}
use Rattle.topo_moduli.proofs.table.modulus_at.Goals as goal
use native.Mathlib.Omega.{arith}

pub offset_bounds-level : goal.offset_bounds-level
offset_bounds-level c = omega arith

pub returns : goal.returns
unfolding patterns
returns c = entry c.args.level c.requires
