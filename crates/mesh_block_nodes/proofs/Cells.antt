-- Two corners of the box that are at most one step along each axis apart are the ends of a tetrahedron's side: in a cell that has both, the way that steps
-- first along the axes on whose far side they are, then along those on which they differ. Assumes nothing.
use mathlib.Core.Path.{◌≡◌, refl, sym, subst}
use mathlib.Core.Bool.{Bool, true, false}
use mathlib.Core.Logic.{◌⊎◌, inl, inr}
use Prim.Native.Nat.{ℕ, zero, suc, ◌+◌, ◌*◌, ◌/◌, ◌%◌, ◌≤◌, ◌<◌}
use native.Mathlib.Omega.{arith}
use mathlib.Core.List.{List}
use Rattle.mesh_lattice.specs.declared.Grid.{Grid}
use Rattle.mesh_lattice.specs.declared.Corner.{Corner}
use Rattle.mesh_lattice.specs.Lattice.{number_of, nth, way_of, met_before, edges_in}
use Rattle.mesh_lattice.specs.Bounds.{Positive, Inside}
use Rattle.mesh_lattice.proofs.Ways.{First, turns, way_from}
use Rattle.mesh_block_nodes.proofs.Digits.{tet_at, tet-lt, tet_way, tet-first}
use Rattle.mesh_block_nodes.proofs.Sides.{sides_by, sides-are}
use Rattle.mesh_block_nodes.proofs.Edges.{Member, here, there, side-met}

-- ---- along one axis

-- where two ends are in a cell from f to f + 1
data Across (f : ℕ) : ℕ → ℕ → Type 0 where
  near : Across f f f
  across : Across f f (f + 1)
  far : Across f (f + 1) (f + 1)

-- the cell of a half step q, and its ends there
record Cell (n q : ℕ) : Type 0 where
  f : ℕ
  fits_box : f < n
  ends : Across f (q / 2) ((q + 1) / 2)

ends-are : (f a b lo hi : ℕ) → Across f a b → a ≡ lo → b ≡ hi → Across f lo hi
ends-are f a b lo hi h d e = subst (λ (m : ℕ). Across f m hi) d (subst (Across f a) e h)

cell_of_lem : (n q : ℕ) → 0 < n → q ≤ 2 * n → Cell n q
cell_of_lem n q p h = go (q / 2) (q % 2) refl (omega arith) (omega arith) (omega arith)
  where
    go : (lo r : ℕ) → lo ≡ q / 2 → lo + r ≡ (q + 1) / 2 → r < 2 → r + 2 * lo ≡ q → Cell n q
    go zero zero a b c d = record { f = 0; fits_box = p; ends = ends-are 0 0 0 (q / 2) ((q + 1) / 2) near a (omega arith) }
    go (suc lo) zero a b c d = record { f = lo; fits_box = omega arith; ends = ends-are lo (lo + 1) (lo + 1) (q / 2) ((q + 1) / 2) far (omega arith) (omega arith) }
    go lo (suc r) a b c d = record { f = lo; fits_box = omega arith; ends = ends-are lo lo (lo + 1) (q / 2) ((q + 1) / 2) across a (omega arith) }

-- ---- in a cell

-- two corners of a tetrahedron's, the one before the other
data Pair (w : List Corner) : Corner → Corner → Type 0 where
  ab : Pair w (nth w 0) (nth w 1)
  bc : Pair w (nth w 1) (nth w 2)
  ac : Pair w (nth w 0) (nth w 2)
  ad : Pair w (nth w 0) (nth w 3)
  cd : Pair w (nth w 2) (nth w 3)
  bd : Pair w (nth w 1) (nth w 3)

data Among (p : Corner) : Corner → Corner → Type 0 where
  same : {c : Corner} → Among p c c
  on : {c d : Corner} (w : ℕ) → w < 6 → Pair (way_from p w) c d → Among p c d

abbrev corner : ℕ → ℕ → ℕ → Corner
corner i j k = record { i = i; j = j; k = k }

among : (i j k : ℕ) {a b c a' b' c' : ℕ} → Across i a a' → Across j b b' → Across k c c' → Among (corner i j k) (corner a b c) (corner a' b' c')
among i j k near near near = same
among i j k near near across = on 4 (omega arith) ab
among i j k near near far = same
among i j k near across near = on 2 (omega arith) ab
among i j k near across across = on 3 (omega arith) ac
among i j k near across far = on 5 (omega arith) bc
among i j k near far near = same
among i j k near far across = on 3 (omega arith) bc
among i j k near far far = same
among i j k across near near = on 0 (omega arith) ab
among i j k across near across = on 1 (omega arith) ac
among i j k across near far = on 4 (omega arith) bc
among i j k across across near = on 0 (omega arith) ac
among i j k across across across = on 0 (omega arith) ad
among i j k across across far = on 4 (omega arith) bd
among i j k across far near = on 2 (omega arith) bc
among i j k across far across = on 2 (omega arith) bd
among i j k across far far = on 3 (omega arith) cd
among i j k far near near = same
among i j k far near across = on 1 (omega arith) bc
among i j k far near far = same
among i j k far across near = on 0 (omega arith) bc
among i j k far across across = on 0 (omega arith) bd
among i j k far across far = on 1 (omega arith) cd
among i j k far far near = same
among i j k far far across = on 0 (omega arith) cd
among i j k far far far = same

-- ---- the side of that tetrahedron

pair-by : (g : Grid) (w : List Corner) (c d : Corner) (t : Bool) → Pair w c d → Member (number_of g c, number_of g d) (sides_by t (number_of g (nth w 0)) (number_of g (nth w 1)) (number_of g (nth w 2)) (number_of g (nth w 3)))
unfolding sides_by
pair-by g w c d true ac = here
pair-by g w c d true bc = there here
pair-by g w c d true ab = there (there here)
pair-by g w c d true ad = there (there (there here))
pair-by g w c d true bd = there (there (there (there here)))
pair-by g w c d true cd = there (there (there (there (there here))))
pair-by g w c d false ab = here
pair-by g w c d false bc = there here
pair-by g w c d false ac = there (there here)
pair-by g w c d false ad = there (there (there here))
pair-by g w c d false cd = there (there (there (there here)))
pair-by g w c d false bd = there (there (there (there (there here))))

module _ (g : Grid) (p : Corner) (h : First g p) where
  way-is : (w : ℕ) (l : w < 6) → way_from p w ≡ way_of g (tet_at g p w)
  unfolding way_of
  way-is w l = λ t. way_from (sym (tet-first g p h w l) t) (sym (tet_way g p h w l) t)

  among-met : (c d : Corner) → Among p c d → (number_of g c ≡ number_of g d) ⊎ (met_before (number_of g c, number_of g d) (edges_in g) ≡ true)
  among-met c d same = inl refl
  among-met c d (on w l m) =
      let e = tet_at g p w in
      inr
      (side-met g e (number_of g c, number_of g d) (tet-lt g p h w l)
      (subst (Member (number_of g c, number_of g d)) (sym (sides-are g e)) (pair-by g (way_of g e) c d (turns g (way_of g e)) (subst (λ (f : List Corner). Pair f c d) (way-is w l) m))))

-- ---- a point of the grid of half the cell size

-- the corners that it lies between
abbrev pub below : Corner → Corner
below p = record { i = p.i / 2; j = p.j / 2; k = p.k / 2 }

abbrev pub above : Corner → Corner
above p = record { i = (p.i + 1) / 2; j = (p.j + 1) / 2; k = (p.k + 1) / 2 }

abbrev pub fine : Grid → Grid
fine g = record { nx = 2 * g.nx; ny = 2 * g.ny; nz = 2 * g.nz; size = g.size }

-- are one corner, or the ends of an edge
pub point-met : (g : Grid) (p : Corner) → Positive g → Inside (fine g) p
    → (number_of g (below p) ≡ number_of g (above p)) ⊎ (met_before (number_of g (below p), number_of g (above p)) (edges_in g) ≡ true)
point-met g p s h =
    let x = cell_of_lem g.nx p.i s.x h.x in
    let y = cell_of_lem g.ny p.j s.y h.y in
    let z = cell_of_lem g.nz p.k s.z h.z in
    among-met g (corner x.f y.f z.f) (record { x = x.fits_box; y = y.fits_box; z = z.fits_box }) (below p) (above p) (among x.f y.f z.f x.ends y.ends z.ends)
