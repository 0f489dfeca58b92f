-- `fill::gather` meets its contract. The loop's invariant: the triangles passed are gathered. Assumes nothing.
use Rattle.lists.specs.Lists.{overwrite}
use Rattle.region_farthest.proofs.fill.gather.Given as goal
use Rattle.region_farthest.specs.Farthest.{nine_of}
use lib.ListN.{get_or}
use mathlib.Core.List.{[]}
use mathlib.Core.Path.{◌≡◌}

abbrev pub invariant-loop-i : goal.invariant-loop-i
invariant-loop-i l = l.faces ≡ overwrite (λ k. nine_of l.nodes (get_or l.tris k [])) l.i l.initial.faces
