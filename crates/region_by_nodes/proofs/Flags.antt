-- The flags that the code sets are those of the kept nodes. Assumes nothing.
use mathlib.Core.Path.{◌≡◌, sym, ap, ◌∙◌}
use mathlib.Core.Bool.{Bool, true, false, ◌||◌, ◌&&◌}
use mathlib.Core.List.{List, []}
use Prim.Native.Nat.{ℕ}
use lib.ListN.{length, get_or, set, replicate}
use lib.Dec.{eqb}
use Rattle.lists.specs.Lists.{tabulate, any_to, choose}
use Rattle.lists.proofs.Laws.{tabulate_throughout}
use Rattle.region_by_nodes.specs.Nodes.{in_set, names, node_of_set, kept_node, by_nodes}
use Rattle.region_by_nodes.specs.Steps.{flagged, flagged_set, flagged_sets, any_flagged}
use Rattle.region_by_nodes.proofs.Adds.{Adds, set-adds, choose-adds, fold-adds, flag_at}

flagged-adds : (n : ℕ) (l : List ℕ) (m : ℕ) → Adds n (flagged l m) (names l m)
unfolding flagged names
flagged-adds n l m = fold-adds n (λ k keep. set keep (get_or l k 0) true) (λ k i. eqb (get_or l k 0) i) (λ k. set-adds n (get_or l k 0)) m

module _ (n : ℕ) (tris : List (List ℕ)) (surfaces starts kept : List ℕ) where
  set-flags : (s : ℕ) → Adds n (flagged_set tris surfaces starts kept s) (node_of_set tris surfaces starts kept s)
  unfolding flagged_set node_of_set
  set-flags s =
      fold-adds n (λ t keep. choose (in_set surfaces starts kept s t) (flagged (get_or tris t []) 6 keep) keep) (λ t i. in_set surfaces starts kept s t && names (get_or tris t []) 6 i)
      (λ t. choose-adds n (in_set surfaces starts kept s t) (flagged (get_or tris t []) 6) (names (get_or tris t []) 6) (flagged-adds n (get_or tris t []) 6)) (length tris)

  sets-flags : (sets : ℕ) → Adds n (flagged_sets tris surfaces starts kept sets) (λ i. any_to (λ s. node_of_set tris surfaces starts kept s i) sets)
  unfolding flagged_sets
  sets-flags sets = fold-adds n (flagged_set tris surfaces starts kept) (node_of_set tris surfaces starts kept) set-flags sets

  module _ (held loaded : List ℕ) (sets : ℕ) where
    -- all flags
    pub kept-flags : flagged_sets tris surfaces starts kept sets (flagged loaded (length loaded) (flagged held (length held) (tabulate (λ _. false) n))) ≡ tabulate (kept_node tris surfaces starts kept held loaded sets) n
    unfolding kept_node
    kept-flags =
        ap (λ (l : List Bool). flagged_sets tris surfaces starts kept sets (flagged loaded (length loaded) l)) (flagged-adds n held (length held) (λ _. false))
        ∙ ap (flagged_sets tris surfaces starts kept sets) (flagged-adds n loaded (length loaded) (names held (length held)))
        ∙ sets-flags sets (λ i. names held (length held) i || names loaded (length loaded) i)

    -- what they tell of a tetrahedron
    pub any-kept : (tet : List ℕ) → any_flagged (tabulate (kept_node tris surfaces starts kept held loaded sets) n) tet ≡ by_nodes tris surfaces starts kept held loaded sets n tet
    unfolding any_flagged by_nodes
    any-kept tet = λ j. any_to (λ k. flag_at (kept_node tris surfaces starts kept held loaded sets) n (get_or tet k 0) j) 10

    -- the marks, as the calls leave them
    pub marked : (keep₁ keep₂ keep₃ keep₄ marks : List Bool) (tets : List (List ℕ)) → keep₁ ≡ replicate n false → keep₂ ≡ flagged held (length held) keep₁
        → keep₃ ≡ flagged loaded (length loaded) keep₂ → keep₄ ≡ flagged_sets tris surfaces starts kept sets keep₃
        → marks ≡ tabulate (λ e. any_flagged keep₄ (get_or tets e [])) (length tets) → marks ≡ tabulate (λ e. by_nodes tris surfaces starts kept held loaded sets n (get_or tets e [])) (length tets)
    marked keep₁ keep₂ keep₃ keep₄ marks tets e₁ e₂ e₃ e₄ e =
        e ∙ (λ j. tabulate (λ i. (ap (λ (w : List Bool). any_flagged w (get_or tets i [])) flags ∙ any-kept (get_or tets i [])) j) (length tets))
      where
        flags : keep₄ ≡ tabulate (kept_node tris surfaces starts kept held loaded sets) n
        flags =
            e₄ ∙ ap (flagged_sets tris surfaces starts kept sets) (e₃ ∙ ap (flagged loaded (length loaded)) (e₂ ∙ ap (flagged held (length held)) (e₁ ∙ sym (tabulate_throughout false n)))) ∙ kept-flags
