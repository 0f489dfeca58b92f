-- `region_by_nodes::any_flagged` meets its contract. The invariant: what is found among the nodes passed. Assumes nothing.
use Rattle.lists.specs.Lists.{any_to}
use Rattle.region_by_nodes.proofs.any_flagged.Given as goal
use lib.ListN.{get_or}
use mathlib.Core.Bool.{false}
use mathlib.Core.Path.{◌≡◌}

abbrev pub invariant-loop-n : goal.invariant-loop-n
invariant-loop-n l = l.found ≡ any_to (λ j. get_or l.keep (get_or l.fn.tet j 0) false) l.n-index
