-- How the code finds the edges that it has met: a table of eight places for each corner, by the difference of an edge's ends. This is the code's own
-- structure and no part of what a caller must believe: what comes of it is said by `Block` alone. Definitions only.
use Rattle.std.specs.Prelude.{ℕ, ◌+◌, ◌-◌, ◌*◌, ◌≤◌, ◌<◌, ◌≡◌, List, [], ◌∷◌, length, get_or, set, eqb, Float}
use Rattle.std.specs.List.{position_or_len}
use Rattle.lists.specs.Lists.{choose, overwrite}
use Rattle.geom.specs.Vectors.{plus, scaled}
use Rattle.geom.specs.declared.Vec3.{Vec3}
use Rattle.geom.specs.Points.{point, stored}
use Rattle.mesh_lattice.specs.declared.Grid.{Grid}
use Rattle.mesh_lattice.specs.declared.Filer.{Filer}
use Rattle.mesh_lattice.specs.Lattice.{Edge, half64, corners_in, slots_in, tets_in, edges_in, node_with, tet_of}

-- the place of d in a list of numbers; the list's length where it is not there
unfoldable pub index_in : ℕ → List ℕ → ℕ
index_in d l = position_or_len (λ x. eqb x d) l

-- by how much the ends of an edge may differ: one step along x, y, both, z, and so on
abbrev pub strides : Grid → List ℕ
strides g =
    let x = g.nx + 1 in
    let y = x * (g.ny + 1) in
    1 ∷ x ∷ (x + 1) ∷ y ∷ (y + 1) ∷ (y + x) ∷ (y + x + 1) ∷ []

-- the place of an edge in the table
unfoldable pub slot_of : Grid → Edge → ℕ
slot_of g x = 8 * x.0 + index_in (x.1 - x.0) (strides g)

-- the nodes so far, the table and the next node's number
pub record Filing : Type 0 where
  pub nodes : List (List Float)
  pub edges : List ℕ
  pub next : ℕ

-- the middle of two nodes as they are stored
abbrev pub halfway : List Float → List Float → Vec3
halfway p q = scaled (plus (point p) (point q)) half64

abbrev pub between : List (List Float) → Edge → Vec3
between nodes x = halfway (get_or nodes x.0 []) (get_or nodes x.1 [])

-- an edge looked up: one whose place is 0 is new, and its middle is the next node
unfoldable pub looked : Grid → Filing → Edge → Filing
looked g s x =
    choose (eqb (get_or s.edges (slot_of g x) 0) 0)
    (record {
      nodes = set s.nodes s.next (stored (between s.nodes x));
      edges = set s.edges (slot_of g x) s.next;
      next = s.next + 1;
    })
    s

-- the number of an edge's middle
abbrev pub number_in : Grid → Filing → Edge → ℕ
number_in g s x = get_or s.edges (slot_of g x) 0

-- the filing after some edges, with the number of each
unfoldable pub looked_all : Grid → Filing → List Edge → Filing × List ℕ
looked_all g s [] = (s, [])
looked_all g s (x ∷ xs) =
    let s' = looked g s x in
    let r = looked_all g s' xs in
    (r.0, number_in g s' x ∷ r.1)

-- what the code holds
abbrev pub filing : Filer → Filing
filing f = record { nodes = f.nodes.now; edges = f.edges.now; next = f.next }

-- it holds the same lists, as long as they were
pub record SameLists (f f' : Filer) : Type 0 where
  pub nodes : f'.nodes.ghost_name ≡ f.nodes.ghost_name
  pub edges : f'.edges.ghost_name ≡ f.edges.ghost_name
  pub nodes-long : length f'.nodes.now ≡ length f.nodes.now
  pub edges-long : length f'.edges.now ≡ length f.edges.now

-- what `look` asks: two corners, room for them and for the table, and numbers that fit for n edges
pub record Ready (g : Grid) (a b n : ℕ) (s : Filing) : Type 0 where
  pub low : a < corners_in g
  pub high : b < corners_in g
  pub fit : corners_in g ≤ length s.nodes
  pub room : slots_in g ≤ length s.edges
  pub few : s.next + n ≤ 4000000000

-- what `middles` asks, of four corners
pub record ReadyAll (g : Grid) (numbers : List ℕ) (s : Filing) : Type 0 where
  pub first : Ready g (get_or numbers 0 0) (get_or numbers 1 0) 6 s
  pub second : Ready g (get_or numbers 2 0) (get_or numbers 3 0) 6 s

-- what `join` asks: room, the corners stored, and an empty table
pub record Joinable (g : Grid) (nodes : List (List Float)) (tets : List (List ℕ)) (edges : List ℕ) : Type 0 where
  pub fit : corners_in g ≤ length nodes
  pub places : tets_in g ≤ length tets
  pub room : slots_in g ≤ length edges
  pub stored-are : nodes ≡ overwrite (node_with g []) (corners_in g) nodes
  pub empty : edges ≡ overwrite (λ k. 0) (slots_in g) edges

-- what `join` leaves
pub record Joined (g : Grid) (nodes nodes' : List (List Float)) (tets tets' : List (List ℕ)) (edges edges' : List ℕ) (r : ℕ) : Type 0 where
  pub next-is : r ≡ corners_in g + length (edges_in g)
  pub nodes-are : nodes' ≡ overwrite (node_with g (edges_in g)) (corners_in g + length (edges_in g)) nodes
  pub tets-are : tets' ≡ overwrite (tet_of g) (tets_in g) tets
  pub edges_are : overwrite (λ k. 0) (slots_in g) edges' ≡ overwrite (λ k. 0) (slots_in g) edges

-- what `build` asks
pub record Roomy (g : Grid) (nodes : List (List Float)) (tets : List (List ℕ)) (edges : List ℕ) : Type 0 where
  pub fit : corners_in g ≤ length nodes
  pub places : tets_in g ≤ length tets
  pub room : slots_in g ≤ length edges

-- what `build` leaves
pub record Builds (g : Grid) (nodes nodes' : List (List Float)) (tets tets' : List (List ℕ)) (edges edges' : List ℕ) (r : ℕ) : Type 0 where
  pub next-is : r ≡ corners_in g + length (edges_in g)
  pub nodes-are : nodes' ≡ overwrite (node_with g (edges_in g)) (corners_in g + length (edges_in g)) nodes
  pub tets-are : tets' ≡ overwrite (tet_of g) (tets_in g) tets
  pub edges_are : edges' ≡ overwrite (λ k. 0) (slots_in g) edges
