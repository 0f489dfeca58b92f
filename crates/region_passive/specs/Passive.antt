-- region.rs: `passive`, which elements must stay solid. Definitions only.
use Rattle.std.specs.Prelude.{ℕ, ◌+◌, ◌≡◌, Bool, ◌||◌, List, [], length, get_or, Float}
use Rattle.std.specs.Float.{nan}
use Rattle.lists.specs.Lists.{overwrite, any_to}
use Rattle.mesh.specs.Mesh.{centroid_of}
use Rattle.lent.specs.Lent.{unless, WorkedBy}
use Rattle.region_passive_checks.specs.Checks.{too_short, refusal_by}
use Rattle.region_by_nodes.specs.Nodes.{in_set, by_nodes}
use Rattle.region_cells.specs.Depth.{by_depth}

-- what the call reads: a mesh with the surfaces of its boundary triangles; the numbers of held and loaded nodes; kept sets of surfaces, a depth for each
pub record Problem : Type 0 where
  pub nodes : List (List Float)
  pub tets : List (List ℕ)
  pub tris : List (List ℕ)
  pub surfaces : List ℕ
  pub held : List ℕ
  pub loaded : List ℕ
  pub starts : List ℕ
  pub kept : List ℕ
  pub depths : List Float

abbrev pub sets_in : Problem → ℕ
sets_in q = length q.depths

-- element e must stay solid: by its nodes, or by a kept set within whose depth its middle is
unfoldable pub passive_at : Problem → ℕ → Bool
passive_at q e =
    let tet = get_or q.tets e [] in
    by_nodes q.tris q.surfaces q.starts q.kept q.held q.loaded (sets_in q) (length q.nodes) tet
    || any_to (λ s. by_depth q.nodes q.tris (in_set q.surfaces q.starts q.kept s) (get_or q.depths s nan) (centroid_of q.nodes tet)) (sets_in q)

-- the lists that are lent for the marks and to work in
pub record Lent : Type 0 where
  pub marks : List Bool
  pub keep : List Bool
  pub centroids : List (List Float)
  pub cells : List (List ℕ)
  pub order : List ℕ
  pub place : List ℕ
  pub first : List ℕ

-- 0 where nothing is refused
unfoldable pub refusal_of : Problem → Lent → ℕ
refusal_of q l =
    refusal_by (length q.tets) q.nodes q.tris q.starts (length q.kept) q.depths
    (too_short (length q.nodes) (length q.tets) (length q.tris) (sets_in q) (length q.surfaces) (length q.starts) (length l.marks) (length l.keep) (length l.centroids) (length l.cells) (length l.order) (length l.place) (length l.first))

-- what the call gives and leaves
pub record Marked (q : Problem) (l l' : Lent) (r : ℕ) : Type 0 where
  pub refusal : r ≡ refusal_of q l
  pub marks-are : l'.marks ≡ unless r (overwrite (passive_at q) (length q.tets) l.marks) l.marks
  pub keep_left : WorkedBy r (length q.nodes) l.keep l'.keep
  pub centroids-left : WorkedBy r (length q.tets) l.centroids l'.centroids
  pub cells_left : WorkedBy r (length q.tets) l.cells l'.cells
  pub order-left : WorkedBy r (length q.tets) l.order l'.order
  pub place-left : WorkedBy r (length q.tets) l.place l'.place
  pub first-left : WorkedBy r (length q.tets + 1) l.first l'.first
