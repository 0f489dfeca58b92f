-- The farthest by the marks is the farthest by the corners. Assumes nothing.
use mathlib.Core.Path.{◌≡◌, refl, ap, ◌∙◌}
use mathlib.Core.Bool.{Bool, false}
use mathlib.Core.List.{List, []}
use Prim.Native.Nat.{ℕ}
use lib.ListN.{length, get_or}
use lib.Ieee.{Float}
use Rattle.lists.specs.Lists.{tabulate, fold_to, any_to, choose, zero64}
use Rattle.lists.proofs.Laws.{get_or-tabulate, fold_to-keeps, choose-false, fold_to-same}
use Rattle.geom.specs.declared.Mirror.{Mirror}
use Rattle.geom.specs.Points.{point}
use Rattle.region_tree.specs.Tree.{Tree}
use Rattle.region_farthest.specs.Farthest.{faces_of, is_corner, whole_tree, farther, asymmetry_of}
use Rattle.region_farthest.specs.Steps.{farthest_in}

no-corner : (tris : List (List ℕ)) (k : ℕ) → length tris ≡ 0 → is_corner tris k ≡ false
unfolding is_corner any_to
no-corner tris k e = rw e

module _ (nodes : List (List Float)) (tris : List (List ℕ)) (m : Mirror) where
  by-marks : List (List Float) → Tree → (ℕ → Bool) → ℕ → Float → Float
  by-marks faces t marked k worst = choose (marked k) (farther faces t m (point (get_or nodes k [])) worst) worst

  pub far-is : (faces : List (List Float)) (t : Tree) (seen : List Bool) → faces ≡ faces_of nodes tris → t ≡ whole_tree (faces_of nodes tris) → seen ≡ tabulate (is_corner tris) (length nodes)
      → farthest_in nodes m faces t seen (length nodes) ≡ asymmetry_of nodes tris m
  unfolding farthest_in asymmetry_of by-marks
  far-is faces t seen ef et es =
      (λ i. fold_to (by-marks (ef i) (et i) (λ k. get_or (es i) k false)) zero64 (length nodes))
      ∙ fold_to-same _ (by-marks (faces_of nodes tris) (whole_tree (faces_of nodes tris)) (is_corner tris)) zero64 (length nodes)
      (λ k b y. ap (λ (c : Bool). choose c (farther (faces_of nodes tris) (whole_tree (faces_of nodes tris)) m (point (get_or nodes k [])) y) y) (get_or-tabulate (is_corner tris) (length nodes) k false b))

  -- no triangles, no corners
  pub none_apart : length tris ≡ 0 → asymmetry_of nodes tris m ≡ zero64
  unfolding asymmetry_of by-marks
  none_apart e =
      fold_to-keeps (λ (w : Float). w ≡ zero64) (by-marks (faces_of nodes tris) (whole_tree (faces_of nodes tris)) (is_corner tris)) zero64
      (λ k w h. choose-false (is_corner tris k) _ w (no-corner tris k e) ∙ h) refl (length nodes)
