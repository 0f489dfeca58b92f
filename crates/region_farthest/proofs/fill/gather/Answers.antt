-- `fill::gather` meets its contract. The loop's invariant: the triangles passed are gathered. Assumes nothing.
use Prim.Native.Nat.{ℕ}
use Rattle.lists.specs.Lists.{overwrite}
use Rattle.region_farthest.proofs.Filled.{fill-map}
use Rattle.region_farthest.proofs.fill.gather.Goals as goal
use Rattle.region_farthest.specs.Farthest.{nine_of, faces_of}
use lib.ListN.{length, get_or}
use mathlib.Core.List.{[]}
use mathlib.Core.Path.{◌≡◌, ap, ◌∙◌}
use native.Mathlib.Omega.{arith}

pub returns : goal.returns
unfolding faces_of
returns c = let l = c.loop-i in let a = c.args in
    let e : l.i ≡ length a.tris.now = omega arith in
    l.invariant
    ∙ ap (λ (n : ℕ). overwrite (λ k. nine_of a.nodes.now (get_or a.tris.now k [])) n a.faces.now) e
    ∙ fill-map (nine_of a.nodes.now) [] a.tris.now a.faces.now c.requires
