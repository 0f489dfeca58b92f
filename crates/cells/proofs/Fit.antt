-- The numbers of a cube fit 64 digits. Assumes nothing.
use mathlib.Core.Path.{◌≡◌, ap, ◌∙◌}
use mathlib.Core.List.{List, []}
use mathlib.Core.Logic.{⊎_elim}
use Prim.Native.Nat.{ℕ, zero, suc, ◌^◌, ◌≤◌, ◌<◌}
use native.Mathlib.Omega.{arith}
use lib.ListN.{length, get_or, get_or-eq_default}
use lib.Ieee.{Float}
use Rattle.ieee_whole.proofs.Floor.{floor-fits}
use Rattle.geom.specs.declared.Vec3.{Vec3}
use Rattle.lists.specs.Lists.{overwrite}
use Rattle.lists.proofs.Bools.{le-or-lt}
use Rattle.lists.proofs.Laws.{length-overwrite, get_or-overwrite-below}
use Rattle.cells.specs.Cells.{cell_at, cell_of, axis}

pub cell-fits : (v from size : Float) → cell_at v from size < 2 ^ 64
unfolding cell_at
cell-fits v from size = floor-fits _

of-fits : (p : List Float) (from : Vec3) (size : Float) (k : ℕ) → get_or (cell_of p from size) k 0 < 2 ^ 64
unfolding cell_of
of-fits p from size zero = cell-fits _ _ _
of-fits p from size (suc zero) = cell-fits _ _ _
of-fits p from size (suc (suc zero)) = cell-fits _ _ _
of-fits p from size (suc (suc (suc k))) = omega arith

-- so do those that `cells_of` fills in, where there is a point for each place
pub cells_fit : (points : List (List Float)) (from : Vec3) (size : Float) (n : ℕ) (l cells : List (List ℕ)) → length l ≤ n
    → cells ≡ overwrite (λ i. cell_of (get_or points i []) from size) n l → (i k : ℕ) → axis cells i k < 2 ^ 64
cells_fit points from size n l cells all e i k =
    ⊎_elim
    (λ (h : length cells ≤ i). omega (arith, ap (λ (c : List ℕ). get_or c k 0) (get_or-eq_default cells [] h)))
    (λ (h : i < length cells).
    omega (
      arith,
      of-fits (get_or points i []) from size k,
      ap (λ (c : List (List ℕ)). axis c i k) e,
      ap (λ (c : List ℕ). get_or c k 0) (get_or-overwrite-below (λ j. cell_of (get_or points j []) from size) n l i [] (omega (arith, len)) (omega (arith, len))),
    ))
    (le-or-lt (length cells) i)
  where
    len : length cells ≡ length l
    len = ap length e ∙ length-overwrite (λ j. cell_of (get_or points j []) from size) n l
