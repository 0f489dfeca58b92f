-- `topo_moduli::table::not_above` meets its contract: the moduli rise, so that those not above x come first. Assumes nothing.
use Rattle.std.proofs.Common.{rules}
use Rattle.std.proofs.lemmas.List.Sorted.{IsPartitionPoint-from_clause}
use Rattle.topo_moduli.proofs.table.not_above.Goals as goal
use Rattle.topo_moduli.proofs.Moduli.{moduli, parted, not-above, all-above}
use Rattle.topo_moduli.proofs.Patterns.{patterns}
use lib.Ieee.{Float, le}

pub returns-clause-below : goal.returns-clause-below
unfolding patterns
returns-clause-below c =
    not-above _ _ c.partition_point.ensures.bound (IsPartitionPoint-from_clause (λ (y : Float). le y c.args.x) moduli _ c.partition_point.ensures.partitioned (parted c.args.x) (λ a r f' k. search rules))

pub returns-clause-above : goal.returns-clause-above
unfolding patterns
returns-clause-above c =
    all-above _ _ c.partition_point.ensures.bound (IsPartitionPoint-from_clause (λ (y : Float). le y c.args.x) moduli _ c.partition_point.ensures.partitioned (parted c.args.x) (λ a r f' k. search rules))
