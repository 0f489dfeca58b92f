-- The stages mark the elements that must stay solid. Assumes nothing.
use mathlib.Core.Path.{◌≡◌, refl, sym, ap, ◌∙◌}
use mathlib.Core.Bool.{Bool, ◌||◌}
use mathlib.Core.List.{List, [], ◌++◌}
use Prim.Native.Nat.{ℕ, ◌+◌, ◌≤◌, ◌<◌}
use native.Mathlib.Omega.{arith}
use lib.ListN.{length, get_or, drop}
use lib.Ieee.{Float, nan}
use Rattle.lists.specs.Lists.{tabulate, overwrite, any_to}
use Rattle.lists.proofs.Laws.{get_or-tabulate, fold_to-none, fold_to-more, overwrite-is, tabulate-same}
use Rattle.geom.specs.declared.Vec3.{Vec3}
use Rattle.geom.specs.Points.{point, stored}
use Rattle.mesh.specs.Mesh.{centroid_of}
use Rattle.region_by_nodes.specs.Nodes.{in_set, by_nodes}
use Rattle.region_by_nodes.proofs.Adds.{Adds, choose-adds, fold-adds}
use Rattle.lent.specs.Domain.{is_depth}
use Rattle.region_cells.specs.Depth.{cell_size, by_depth}
use Rattle.region_cells.specs.Steps.{reached_by}
use Rattle.region_cells.proofs.Depths.{reached-by-adds}
use Rattle.region_passive.specs.Passive.{Problem, sets_in, passive_at}
use Rattle.region_passive.specs.Steps.{deepened, deepened_to}

module _ (q : Problem) (centroids : List (List Float)) where
  pub deepened-none : (w : List Bool) → w ≡ deepened_to q centroids 0 w
  unfolding deepened_to
  deepened-none w = sym (fold_to-none (deepened q centroids) w)

  pub deepened-more : (s : ℕ) (w : List Bool) → deepened q centroids s (deepened_to q centroids s w) ≡ deepened_to q centroids (s + 1) w
  unfolding deepened_to
  deepened-more s w = fold_to-more (deepened q centroids) w s

  -- what set s picks, of middles by number
  abbrev picks : ℕ → ℕ → Bool
  picks s i = by_depth q.nodes q.tris (in_set q.surfaces q.starts q.kept s) (get_or q.depths s nan) (point (get_or centroids i []))

  deepened-adds : (n s : ℕ) → Adds n (deepened q centroids s) (picks s)
  unfolding deepened by_depth
  deepened-adds n s =
      let set = in_set q.surfaces q.starts q.kept s in
      let depth = get_or q.depths s nan in
      let size = cell_size q.nodes q.tris set depth in
      choose-adds n (is_depth depth) (reached_by q.nodes q.tris set size depth centroids (length q.tris)) _ (reached-by-adds n q.nodes q.tris set size depth centroids (length q.tris))

  deepened-to-adds : (n m : ℕ) → Adds n (deepened_to q centroids m) (λ i. any_to (λ s. picks s i) m)
  unfolding deepened_to
  deepened-to-adds n m = fold-adds n (deepened q centroids) picks (deepened-adds n) m

module _ (q : Problem) where
  abbrev by_node : ℕ → Bool
  by_node e = by_nodes q.tris q.surfaces q.starts q.kept q.held q.loaded (sets_in q) (length q.nodes) (get_or q.tets e [])

  -- by nodes, then by depths
  pub solid : (marks marks' : List Bool) (centroids : List (List Float)) → marks ≡ tabulate by_node (length q.tets) → centroids ≡ tabulate (λ e. stored (centroid_of q.nodes (get_or q.tets e []))) (length q.tets)
      → marks' ≡ deepened_to q centroids (sets_in q) marks → marks' ≡ tabulate (passive_at q) (length q.tets)
  unfolding passive_at
  solid marks marks' centroids e em e' =
      e' ∙ ap (deepened_to q centroids (sets_in q)) e ∙ deepened-to-adds q centroids (length q.tets) (sets_in q) by_node
      ∙ tabulate-same (λ i. by_node i || any_to (λ s. picks q centroids s i) (sets_in q)) (passive_at q) (length q.tets)
      (λ i lt. ap (λ (p : Vec3). by_node i || any_to (λ s. by_depth q.nodes q.tris (in_set q.surfaces q.starts q.kept s) (get_or q.depths s nan) p) (sets_in q)) (middle i lt))
    where
      middle : (i : ℕ) → i < length q.tets → point (get_or centroids i []) ≡ centroid_of q.nodes (get_or q.tets i [])
      middle i lt = ap (λ (l : List (List Float)). point (get_or l i [])) em ∙ ap point (get_or-tabulate (λ e. stored (centroid_of q.nodes (get_or q.tets e []))) (length q.tets) i [] lt)

  -- no elements
  pub solid-none : (marks : List Bool) → length q.tets ≡ 0 → marks ≡ tabulate by_node (length q.tets) → marks ≡ tabulate (passive_at q) (length q.tets)
  solid-none marks none e = e ∙ tabulate-same by_node (passive_at q) (length q.tets) (λ k lt. absurd (omega arith))

  -- the front of a list
  pub solid-front : (part marks : List Bool) → length q.tets ≤ length marks → part ≡ tabulate (passive_at q) (length q.tets) → part ++ drop (length q.tets) marks ≡ overwrite (passive_at q) (length q.tets) marks
  solid-front part marks h e = ap (λ (p : List Bool). p ++ drop (length q.tets) marks) e ∙ sym (overwrite-is (passive_at q) (length q.tets) marks h)

-- the sets' part of a problem is all that the depths are read from
pub sets-only : (q : Problem) (centroids : List (List Float)) (n : ℕ) (w : List Bool)
    → deepened_to (record { nodes = q.nodes; tets = []; tris = q.tris; surfaces = q.surfaces; held = []; loaded = []; starts = q.starts; kept = q.kept; depths = q.depths }) centroids n w ≡ deepened_to q centroids n w
unfolding deepened_to deepened
sets-only q centroids n w = refl
