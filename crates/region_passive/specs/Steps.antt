-- The parts of the call. No caller must believe this: `Passive` says what comes of it. Definitions only.
use Rattle.std.specs.Prelude.{ℕ, ◌+◌, ◌≤◌, ◌<◌, ◌≡◌, Bool, List, length, get_or, Float}
use Rattle.std.specs.Float.{nan}
use Rattle.lists.specs.Lists.{overwrite, fold_to, choose}
use Rattle.region_by_nodes.specs.Nodes.{in_set}
use Rattle.lent.specs.Domain.{is_depth}
use Rattle.lent.specs.Lent.{Free}
use Rattle.region_cells.specs.Depth.{cell_size}
use Rattle.region_cells.specs.Steps.{reached_by}
use Rattle.region_passive.specs.Passive.{Problem, Lent, sets_in, passive_at}

-- what the triangles of set s reach is marked, where it has a depth
unfoldable pub deepened : Problem → List (List Float) → ℕ → List Bool → List Bool
deepened q centroids s w =
    let set = in_set q.surfaces q.starts q.kept s in
    let depth = get_or q.depths s nan in
    choose (is_depth depth) (reached_by q.nodes q.tris set (cell_size q.nodes q.tris set depth) depth centroids (length q.tris) w) w

-- by the first n sets
unfoldable pub deepened_to : Problem → List (List Float) → ℕ → List Bool → List Bool
deepened_to q centroids n w = fold_to (deepened q centroids) w n

-- lists that are as long as needed
pub record Fitting (q : Problem) (l : Lent) : Type 0 where
  pub few : length q.tets < 65536
  pub surfaced : length q.tris ≤ length q.surfaces
  pub begun : sets_in q < length q.starts
  pub marked : length l.marks ≡ length q.tets
  pub keeps : length l.keep ≡ length q.nodes
  pub middled : length l.centroids ≡ length q.tets
  pub celled : length l.cells ≡ length q.tets
  pub orders : length l.order ≡ length q.tets
  pub places : length l.place ≡ length q.tets
  pub firsts : length l.first ≡ length q.tets + 1

-- lists that may be longer
pub record Roomy (q : Problem) (l : Lent) : Type 0 where
  pub few : length q.tets < 65536
  pub surfaced : length q.tris ≤ length q.surfaces
  pub begun : sets_in q < length q.starts
  pub marked : length q.tets ≤ length l.marks
  pub keeps : length q.nodes ≤ length l.keep
  pub middled : length q.tets ≤ length l.centroids
  pub celled : length q.tets ≤ length l.cells
  pub orders : length q.tets ≤ length l.order
  pub places : length q.tets ≤ length l.place
  pub firsts : length q.tets + 1 ≤ length l.first

-- the elements are marked, and the lists are as lent past the places needed
pub record Past (q : Problem) (l l' : Lent) : Type 0 where
  pub marks-are : l'.marks ≡ overwrite (passive_at q) (length q.tets) l.marks
  pub keeps : Free (length q.nodes) l.keep l'.keep
  pub middled : Free (length q.tets) l.centroids l'.centroids
  pub celled : Free (length q.tets) l.cells l'.cells
  pub orders : Free (length q.tets) l.order l'.order
  pub places : Free (length q.tets) l.place l'.place
  pub firsts : Free (length q.tets + 1) l.first l'.first
