-- What the steps of the code promise each other. No part of what a caller must believe. Definitions only.
use Rattle.std.specs.Prelude.{ℕ, ◌≤◌, ◌<◌, ◌≡◌, List, length, Float}
use Rattle.lent.specs.Lent.{Free}
use Rattle.region_asymmetry.specs.Asymmetry.{Lent}

-- lists of just the needed places
pub record Fits (nodes : List (List Float)) (tris : List (List ℕ)) (l : Lent) : Type 0 where
  pub some : 0 < length tris
  pub few : length tris ≤ 65535
  pub faces-fit : length l.faces ≡ length tris
  pub kx-fit : length l.kx ≡ length tris
  pub ky-fit : length l.ky ≡ length tris
  pub kz-fit : length l.kz ≡ length tris
  pub order-fit : length l.order ≡ length tris
  pub scratch-fit : length l.scratch ≡ length tris
  pub boxes-fit : length l.boxes ≡ length tris
  pub seen-fit : length l.seen ≡ length nodes

-- lists that may be longer, for n triangles and m nodes
pub record Roomy (n m : ℕ) (l : Lent) : Type 0 where
  pub some : 0 < n
  pub few : n ≤ 65535
  pub faces : n ≤ length l.faces
  pub kx : n ≤ length l.kx
  pub ky : n ≤ length l.ky
  pub kz : n ≤ length l.kz
  pub order : n ≤ length l.order
  pub scratch : n ≤ length l.scratch
  pub boxes : n ≤ length l.boxes
  pub seen : m ≤ length l.seen

-- the lists are as lent past the places needed
pub record Past (n m : ℕ) (l l' : Lent) : Type 0 where
  pub faces : Free n l.faces l'.faces
  pub kx : Free n l.kx l'.kx
  pub ky : Free n l.ky l'.ky
  pub kz : Free n l.kz l'.kz
  pub order : Free n l.order l'.order
  pub scratch : Free n l.scratch l'.scratch
  pub boxes : Free n l.boxes l'.boxes
  pub seen : Free m l.seen l'.seen
