-- Numbers that the code may count on. Definitions only.
use Rattle.std.specs.Prelude.{◌≤◌, ◌<◌, List}
use Rattle.mesh_lattice.specs.declared.Grid.{Grid}
use Rattle.mesh_lattice.specs.declared.Corner.{Corner}
use Rattle.mesh_lattice.specs.Lattice.{corners_in, tets_in, nth}

-- at least one cell along each axis
pub record Positive (g : Grid) : Type 0 where
  pub x : 0 < g.nx
  pub y : 0 < g.ny
  pub z : 0 < g.nz

-- cells so few that no number overflows
pub record Small (g : Grid) : Type 0 where
  pub some-x : 0 < g.nx
  pub some-y : 0 < g.ny
  pub some-z : 0 < g.nz
  pub few-x : g.nx ≤ 10922
  pub few-y : g.ny ≤ 10922
  pub few-z : g.nz ≤ 10922
  pub few : tets_in g ≤ 65535
  pub corners : corners_in g ≤ 87376

-- a corner of the box
pub record Inside (g : Grid) (c : Corner) : Type 0 where
  pub x : c.i ≤ g.nx
  pub y : c.j ≤ g.ny
  pub z : c.k ≤ g.nz

pub record InsideAll (g : Grid) (f : List Corner) : Type 0 where
  pub a : Inside g (nth f 0)
  pub b : Inside g (nth f 1)
  pub c : Inside g (nth f 2)
  pub d : Inside g (nth f 3)
