-- The flags of the nodes, one after the other, as the code sets them. No caller must believe this: `Nodes` says what comes of it. Definitions only.
use Rattle.std.specs.Prelude.{ℕ, Bool, true, false, List, [], length, get_or, set}
use Rattle.lists.specs.Lists.{fold_to, any_to, choose}
use Rattle.region_by_nodes.specs.Nodes.{in_set}

-- the first m numbers of a list are flagged
unfoldable pub flagged : List ℕ → ℕ → List Bool → List Bool
flagged l m keep = fold_to (λ k keep'. set keep' (get_or l k 0) true) keep m

-- the nodes of the triangles of set s are
unfoldable pub flagged_set : List (List ℕ) → List ℕ → List ℕ → List ℕ → ℕ → List Bool → List Bool
flagged_set tris surfaces starts kept s keep = fold_to (λ t keep'. choose (in_set surfaces starts kept s t) (flagged (get_or tris t []) 6 keep') keep') keep (length tris)

-- those of so many sets are
unfoldable pub flagged_sets : List (List ℕ) → List ℕ → List ℕ → List ℕ → ℕ → List Bool → List Bool
flagged_sets tris surfaces starts kept sets keep = fold_to (λ s keep'. flagged_set tris surfaces starts kept s keep') keep sets

-- one of a tetrahedron's ten nodes is flagged
unfoldable pub any_flagged : List Bool → List ℕ → Bool
any_flagged keep tet = any_to (λ k. get_or keep (get_or tet k 0) false) 10
