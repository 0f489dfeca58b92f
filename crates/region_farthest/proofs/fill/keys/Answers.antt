-- `fill::keys` meets its contract. The loop's invariant: the triangles passed have their keys. Assumes nothing.
use Prim.Native.Nat.{ℕ}
use Rattle.faces.specs.Corners.{corners_of}
use Rattle.geom.specs.declared.Vec3.{Vec3}
use Rattle.ieee_bits.specs.Bits.{total_key}
use Rattle.lists.proofs.Filled.{stored}
use Rattle.lists.proofs.Laws.{overwrite-none}
use Rattle.lists.specs.Lists.{overwrite}
use Rattle.region_farthest.proofs.Filled.{fill-map}
use Rattle.region_farthest.proofs.fill.keys.Goals as goal
use Rattle.region_tree.specs.Tree.{middle_of, coordinate, keys_along}
use lib.ListN.{length, get_or}
use mathlib.Core.List.{[]}
use mathlib.Core.Path.{◌≡◌, sym, ap, ◌∙◌}
use native.Mathlib.Omega.{arith}

pub loop-i-init : goal.loop-i-init
loop-i-init c = (sym (overwrite-none _ _), sym (overwrite-none _ _), sym (overwrite-none _ _))

pub loop-i-preserved : goal.loop-i-preserved
loop-i-preserved c = let l = c.loop-i in let a = c.args in
    let m = c.middle-m.ensures ∙ ap middle_of c.from.ensures in (
      stored (λ k. total_key (middle_of (corners_of (get_or a.faces.now k []))).x) a.kx.now l.kx l.i l.invariant.0 _ (omega (arith, c.requires)) (c.total_key.ensures ∙ ap (λ (v : Vec3). total_key v.x) m),
      stored (λ k. total_key (middle_of (corners_of (get_or a.faces.now k []))).y) a.ky.now l.ky l.i l.invariant.1 _ (omega (arith, c.requires)) (c.total_key-in-loop-i.ensures ∙ ap (λ (v : Vec3). total_key v.y) m),
      stored (λ k. total_key (middle_of (corners_of (get_or a.faces.now k []))).z) a.kz.now l.kz l.i l.invariant.2 _ (omega (arith, c.requires)) (c.total_key-in-loop-i-2.ensures ∙ ap (λ (v : Vec3). total_key v.z) m),
    )

pub returns : goal.returns
unfolding keys_along coordinate
returns c = let l = c.loop-i in let a = c.args in
    let e : l.i ≡ length a.faces.now = omega arith in (
      l.invariant.0 ∙ ap (λ (n : ℕ). overwrite (λ k. total_key (middle_of (corners_of (get_or a.faces.now k []))).x) n a.kx.now) e ∙ fill-map (λ t. total_key (middle_of (corners_of t)).x) [] a.faces.now a.kx.now c.requires.0,
      l.invariant.1 ∙ ap (λ (n : ℕ). overwrite (λ k. total_key (middle_of (corners_of (get_or a.faces.now k []))).y) n a.ky.now) e ∙ fill-map (λ t. total_key (middle_of (corners_of t)).y) [] a.faces.now a.ky.now c.requires.1,
      l.invariant.2 ∙ ap (λ (n : ℕ). overwrite (λ k. total_key (middle_of (corners_of (get_or a.faces.now k []))).z) n a.kz.now) e ∙ fill-map (λ t. total_key (middle_of (corners_of t)).z) [] a.faces.now a.kz.now c.requires.2,
    )
