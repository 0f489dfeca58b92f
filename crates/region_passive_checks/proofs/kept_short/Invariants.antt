-- `region_passive_checks::kept_short` meets its contract. The invariant: what is found among the sets passed. Assumes nothing.
use Rattle.lists.specs.Lists.{any_to}
use Rattle.region_passive_checks.proofs.kept_short.Given as goal
use Rattle.region_passive_checks.specs.Checks.{set_short}
use mathlib.Core.Path.{◌≡◌}

abbrev pub invariant-loop-s : goal.invariant-loop-s
invariant-loop-s l = l.found ≡ any_to (set_short l.starts l.kept) l.s
