-- mesh.rs, `block`: the call. Definitions only.
use Rattle.std.specs.Prelude.{ℕ, ◌+◌, max, ◌≡◌, Bool, ◌||◌, List, [], length, get_or, ltb, Result, Ok, Err, Float}
use Rattle.lists.specs.Lists.{overwrite, choose}
use Rattle.geom.specs.declared.Vec3.{Vec3}
use Rattle.geom.specs.Points.{stored}
use Rattle.lent.specs.Domain.{too_many_elements, too_many_nodes, point_bad}
use Rattle.lent.specs.Lent.{unless}
use Rattle.mesh_lattice.specs.declared.Grid.{Grid}
use Rattle.mesh_lattice.specs.Lattice.{corners_in, tets_in, edges_in, node_with, tet_of, nodes_in, slots_in}
use Rattle.mesh_triangles.specs.Triangles.{triangles_in}
use Rattle.refusal.specs.declared.Refusal.{Refusal}
use Rattle.refusal.specs.Refusals.{number_of}
use Rattle.mesh_block.specs.declared.Counts.{Counts}
use Rattle.mesh_block.specs.declared.Lists.{Lists}
use Rattle.mesh_block.specs.declared.Made.{Made}

-- 01: "Cells of 0 count as 1."
unfoldable pub grid_of : List ℕ → Vec3 → Grid
grid_of cells s = record { nx = max (get_or cells 0 0) 1; ny = max (get_or cells 1 0) 1; nz = max (get_or cells 2 0) 1; size = s }

-- 3: "more than the domain's counts"
abbrev pub too_many : Grid → Bool
too_many g = too_many_elements (tets_in g) || (too_many_nodes (nodes_in g) || too_many_elements (length (triangles_in g)))

-- the refusal, 0 where there is none: 3, 9, 14 in this order, with lists of n, t, s, r and w places for nodes, tetrahedra, surfaces, triangles and work.
-- 9: the size is outside the domain of nodes
unfoldable pub refusal_of : Grid → ℕ → ℕ → ℕ → ℕ → ℕ → ℕ
refusal_of g n t s r w =
    choose (too_many g) 3
    (choose (point_bad (stored g.size)) 9
    (choose (ltb n (nodes_in g) || (ltb t (tets_in g) || (ltb s (length (triangles_in g)) || (ltb r (length (triangles_in g)) || ltb w (slots_in g))))) 14 0))

-- the lists of a call: those that it fills, and the one that it works in
pub record Held : Type 0 where
  pub nodes : List (List Float)
  pub tets : List (List ℕ)
  pub surfaces : List ℕ
  pub tris : List (List ℕ)
  pub edges : List ℕ

-- as they are lent
abbrev pub lent : Lists → Held
lent l = record { nodes = l.nodes.now; tets = l.tets.now; surfaces = l.surfaces.now; tris = l.tris.now; edges = l.edges.now }

-- as they are left
abbrev pub left : List (List Float) → List (List ℕ) → List ℕ → List (List ℕ) → List ℕ → Held
left nodes tets surfaces tris edges = record { nodes = nodes; tets = tets; surfaces = surfaces; tris = tris; edges = edges }

-- an answer across C
abbrev pub made_of : Result Counts Refusal → Made
made_of (Ok c) = record { refused = 0; nodes = c.nodes; tets = c.tets; tris = c.tris }
made_of (Err r) = record { refused = number_of r; nodes = 0; tets = 0; tris = 0 }

-- what `block` leaves, with the counts: on a refusal the lists as they were lent, and no counts. The working list is zero as far as it was needed
pub record Built (g : Grid) (l l' : Held) (r : Made) : Type 0 where
  pub refusal : r.refused ≡ refusal_of g (length l.nodes) (length l.tets) (length l.surfaces) (length l.tris) (length l.edges)
  pub node-count : r.nodes ≡ unless r.refused (corners_in g + length (edges_in g)) 0
  pub tet-count : r.tets ≡ unless r.refused (tets_in g) 0
  pub tri-count : r.tris ≡ unless r.refused (length (triangles_in g)) 0
  pub nodes-are : l'.nodes ≡ unless r.refused (overwrite (node_with g (edges_in g)) (corners_in g + length (edges_in g)) l.nodes) l.nodes
  pub tets-are : l'.tets ≡ unless r.refused (overwrite (tet_of g) (tets_in g) l.tets) l.tets
  pub surfaces-are : l'.surfaces ≡ unless r.refused (overwrite (λ k. (get_or (triangles_in g) k (0, [])).0) (length (triangles_in g)) l.surfaces) l.surfaces
  pub tris-are : l'.tris ≡ unless r.refused (overwrite (λ k. (get_or (triangles_in g) k (0, [])).1) (length (triangles_in g)) l.tris) l.tris
  pub edges_are : l'.edges ≡ unless r.refused (overwrite (λ k. 0) (slots_in g) l.edges) l.edges
