-- What the triangles of a set with a depth add to the marks. Assumes nothing.
use mathlib.Core.Path.{◌≡◌, refl, sym, ◌∙◌}
use mathlib.Core.Bool.{Bool, true, false, cond, ◌||◌, ◌&&◌}
use mathlib.Core.List.{List, []}
use Prim.Native.Nat.{ℕ, ◌<◌}
use native.Mathlib.Omega.{arith}
use lib.ListN.{get_or}
use lib.Seq.{ext_get_or}
use lib.Ieee.{Float}
use Rattle.lists.specs.Lists.{tabulate, any_to, choose}
use Rattle.lists.proofs.Laws.{length-tabulate, get_or-tabulate}
use Rattle.geom.specs.Points.{point}
use Rattle.cells.specs.Cells.{changed}
use Rattle.cells.proofs.Changed.{length-changed, get_or-changed}
use Rattle.region_by_nodes.proofs.Adds.{Adds, choose-adds, fold-adds}
use Rattle.region_cells.specs.Depth.{corners_of, reaches}
use Rattle.region_cells.specs.Steps.{reached, reached_by}
use Rattle.faces.specs.declared.Triangle.{Triangle}

changed-adds : (n : ℕ) (p : ℕ → Bool) → Adds n (changed p (λ _ _. true)) p
changed-adds n p f =
    ext_get_or false (changed p (λ _ _. true) (tabulate f n)) (tabulate (λ i. f i || p i) n) (length-changed p (λ _ _. true) (tabulate f n) ∙ length-tabulate f n ∙ sym (length-tabulate (λ i. f i || p i) n))
    (λ i lt.
    let below : i < n = omega (arith, length-changed p (λ _ _. true) (tabulate f n), length-tabulate f n) in
    get_or-changed p (λ _ _. true) (tabulate f n) i false (omega (arith, length-tabulate f n)) ∙ rw (get_or-tabulate f n i false below) (either (f i) (p i)) ∙ sym (get_or-tabulate (λ j. f j || p j) n i false below))
  where
    either : (a b : Bool) → cond b true a ≡ (a || b)
    either true true = refl
    either true false = refl
    either false true = refl
    either false false = refl

module _ (n : ℕ) (nodes : List (List Float)) (tris : List (List ℕ)) (set : ℕ → Bool) (size depth : Float) (centroids : List (List Float)) where
  reached-adds : (t : Triangle) → Adds n (reached size depth t centroids) (λ i. reaches size depth t (point (get_or centroids i [])))
  unfolding reached
  reached-adds t = changed-adds n (λ i. reaches size depth t (point (get_or centroids i [])))

  pub reached-by-adds : (m : ℕ) → Adds n (reached_by nodes tris set size depth centroids m) (λ i. any_to (λ t. set t && reaches size depth (corners_of nodes (get_or tris t [])) (point (get_or centroids i []))) m)
  unfolding reached_by
  reached-by-adds m =
      fold-adds n (λ t w. choose (set t) (reached size depth (corners_of nodes (get_or tris t [])) centroids w) w) (λ t i. set t && reaches size depth (corners_of nodes (get_or tris t [])) (point (get_or centroids i [])))
      (λ t. choose-adds n (set t) (reached size depth (corners_of nodes (get_or tris t [])) centroids) (λ i. reaches size depth (corners_of nodes (get_or tris t [])) (point (get_or centroids i []))) (reached-adds (corners_of nodes (get_or tris t [])))) m
