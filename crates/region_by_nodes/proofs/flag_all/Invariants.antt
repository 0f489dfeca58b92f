-- `region_by_nodes::flag_all` meets its contract. The invariant: the numbers passed are flagged. Assumes nothing.
use Rattle.region_by_nodes.proofs.flag_all.Given as goal
use Rattle.region_by_nodes.specs.Steps.{flagged}
use mathlib.Core.Path.{◌≡◌}

abbrev pub invariant-loop-n : goal.invariant-loop-n
invariant-loop-n l = l.keep ≡ flagged l.numbers l.n-index l.initial.keep
