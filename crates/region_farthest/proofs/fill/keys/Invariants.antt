-- `fill::keys` meets its contract. The loop's invariant: the triangles passed have their keys. Assumes nothing.
use Rattle.faces.specs.Corners.{corners_of}
use Rattle.ieee_bits.specs.Bits.{total_key}
use Rattle.lists.specs.Lists.{overwrite}
use Rattle.region_farthest.proofs.fill.keys.Given as goal
use Rattle.region_tree.specs.Tree.{middle_of}
use lib.ListN.{get_or}
use mathlib.Core.List.{[]}
use mathlib.Core.Path.{◌≡◌}

abbrev pub invariant-loop-i : goal.invariant-loop-i
invariant-loop-i l = (l.kx ≡ overwrite (λ k. total_key (middle_of (corners_of (get_or l.faces k []))).x) l.i l.initial.kx) × (l.ky ≡ overwrite (λ k. total_key (middle_of (corners_of (get_or l.faces k []))).y) l.i l.initial.ky) × (l.kz ≡ overwrite (λ k. total_key (middle_of (corners_of (get_or l.faces k []))).z) l.i l.initial.kz)
