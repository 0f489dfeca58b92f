-- How many nodes a block has, and what that says of the call. Definitions only.
use Rattle.std.specs.Prelude.{◌≡◌, ℕ, ◌+◌, ◌≤◌, length}
use Rattle.mesh_lattice.specs.declared.Grid.{Grid}
use Rattle.mesh_lattice.specs.Lattice.{corners_in, edges_in, nodes_in}
use Rattle.mesh_block.specs.declared.Made.{Made}

-- the corners and the edges' middles are as many as the points of the grid of half the cell size, by which `block` refuses
abbrev pub Counted : Grid → Type 0
Counted g = corners_in g + length (edges_in g) ≡ nodes_in g

-- what a call made that refused nothing, with a list of n places for the nodes: "At most [..] 1,048,576 nodes", and none that the list has no place for
pub record NodesMade (g : Grid) (n : ℕ) (r : Made) : Type 0 where
  pub count : r.nodes ≡ nodes_in g
  pub few : r.nodes ≤ 1048576
  pub fit : r.nodes ≤ n
