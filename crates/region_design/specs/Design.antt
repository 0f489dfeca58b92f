-- region.rs, `design`: each element's volume and middle. Definitions only.
use Rattle.std.specs.Prelude.{ℕ, ◌≡◌, ◌||◌, List, [], ◌∷◌, length, get_or, ltb, Float}
use Rattle.lists.specs.Lists.{overwrite}
use Rattle.geom.specs.Points.{stored}
use Rattle.lent.specs.Domain.{too_many_elements, too_many_nodes, points_bad}
use Rattle.lent.specs.Refusals.{first_of}
use Rattle.lent.specs.Lent.{unless}
use Rattle.mesh.specs.Mesh.{volume_of, centroid_of}

-- the refusal, 0 where there is none, with lists of v and m places for volumes and middles: "Mesh calls check 3, 21, 9, 11, 8, 14."
unfoldable pub design_refusal : List (List Float) → List (List ℕ) → ℕ → ℕ → ℕ
design_refusal nodes tets v m =
    first_of
    ((too_many_elements (length tets) || too_many_nodes (length nodes), 3)
    ∷ (points_bad nodes, 9)
    ∷ (ltb v (length tets) || ltb m (length tets), 14)
    ∷ [])

-- what `design` leaves: each tetrahedron's volume and middle, one place an element; on a refusal the lists as they were lent
pub record Designed (nodes : List (List Float)) (tets : List (List ℕ)) (volumes volumes' : List Float) (centroids centroids' : List (List Float)) (r : ℕ) : Type 0 where
  pub refusal : r ≡ design_refusal nodes tets (length volumes) (length centroids)
  pub volumes-are : volumes' ≡ unless r (overwrite (λ k. volume_of nodes (get_or tets k [])) (length tets) volumes) volumes
  pub centroids-are : centroids' ≡ unless r (overwrite (λ k. stored (centroid_of nodes (get_or tets k []))) (length tets) centroids) centroids
