-- `fill::mark` meets its contract. The loop's invariant: the corners of the triangles passed are marked. Assumes nothing.
use Rattle.lists.specs.Lists.{tabulate, any_to}
use Rattle.region_farthest.proofs.fill.mark.Given as goal
use Rattle.region_farthest.specs.Farthest.{corner_of}
use lib.ListN.{length, get_or}
use mathlib.Core.List.{[]}
use mathlib.Core.Path.{◌≡◌}

abbrev pub invariant-loop-t : goal.invariant-loop-t
invariant-loop-t l = l.seen ≡ tabulate (λ k. any_to (λ j. corner_of (get_or l.tris j []) k) l.t-index) (length l.fn.seen)
