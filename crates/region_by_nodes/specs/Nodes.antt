-- region.rs, `passive`: kept sets of surfaces, and the elements that are marked by their nodes. Definitions only.
use Rattle.std.specs.Prelude.{ℕ, ◌+◌, ◌-◌, min, Bool, ◌||◌, ◌&&◌, List, [], length, get_or, ltb, eqb}
use Rattle.lists.specs.Lists.{any_to}

-- kept sets as they are lent: set s has the surfaces at the places of `kept` from starts s up to but not including starts (s + 1), as far as there are
unfoldable pub of_set : List ℕ → List ℕ → ℕ → ℕ → Bool
of_set starts kept s surface = any_to (λ j. eqb (get_or kept (get_or starts s 0 + j) 0) surface) (min (get_or starts (s + 1) 0) (length kept) - get_or starts s 0)

-- n is among the first m numbers of a list
unfoldable pub names : List ℕ → ℕ → ℕ → Bool
names l m n = any_to (λ k. eqb (get_or l k 0) n) m

-- triangle t, whose surface is lent beside it, is of set s
unfoldable pub in_set : List ℕ → List ℕ → List ℕ → ℕ → ℕ → Bool
in_set surfaces starts kept s t = of_set starts kept s (get_or surfaces t 0)

-- triangles of six nodes with their surfaces, and the kept sets
module _ (tris : List (List ℕ)) (surfaces starts kept : List ℕ) where
  -- n is one of the six nodes of a triangle of set s
  unfoldable pub node_of_set : ℕ → ℕ → Bool
  node_of_set s n = any_to (λ t. in_set surfaces starts kept s t && names (get_or tris t []) 6 n) (length tris)

  -- n is held, loaded, or a node of a triangle of one of so many sets
  unfoldable pub kept_node : List ℕ → List ℕ → ℕ → ℕ → Bool
  kept_node held loaded sets n = (names held (length held) n || names loaded (length loaded) n) || any_to (λ s. node_of_set s n) sets

  -- 01: "marks by nodes": one of a tetrahedron's ten nodes is such, of a mesh of so many nodes. A number that is no node is passed over
  unfoldable pub by_nodes : List ℕ → List ℕ → ℕ → ℕ → List ℕ → Bool
  by_nodes held loaded sets nodes tet = any_to (λ k. ltb (get_or tet k 0) nodes && kept_node held loaded sets (get_or tet k 0)) 10
