-- A box of cubes, one number more along an axis; and the block about a cube as a box. Assumes nothing.
use mathlib.Core.Path.{◌≡◌, sym, ◌∙◌}
use mathlib.Core.Bool.{true, false, ◌&&◌}
use mathlib.Core.List.{List}
use mathlib.Core.Logic.{inl, inr, ⊎_elim}
use Prim.Native.Nat.{ℕ, ◌+◌, ◌-◌, ◌^◌, ◌≤◌, ◌<◌, min}
use native.Mathlib.Omega.{arith}
use lib.ListN.{length}
use lib.Dec.{leb, ltb, eqb}
use borrow.Author.Tests.{le-leb, lt-leb, lt-ltb, le-ltb, ltb-true, eq-eqb, ne_eqb}
use Rattle.lists.proofs.Bools.{eq-or_ne, le-or-lt}
use Rattle.lists.proofs.Laws.{both}
use Rattle.cells.specs.Cells.{axis, within, nearby, near_cell, box_cell, in_block, in_box}
use Rattle.cells.proofs.Changed.{Grows, grows-under, grows-over, and-false, and_assoc}
use Rattle.cells.proofs.Walks.{within-holds, within_fails, within_none, within_same}

-- the numbers from lo to k, and k besides
pub grows-axis : (v lo k : ℕ) → lo ≤ k → Grows (within k (k + 1) v) (within lo k v) (within lo (k + 1) v)
grows-axis v lo k le =
    ⊎_elim
    (λ (e : v ≡ k). inl (within-holds k (k + 1) v (omega arith) (omega arith), within_fails lo k v (omega arith), within-holds lo (k + 1) v (omega arith) (omega arith)))
    (λ (e : v ≡ k → ⊥). inr (within_same k k v e ∙ within_none k v, within_same lo k v e))
    (eq-or_ne v k)

within-one : (k v : ℕ) → eqb v k ≡ within k (k + 1) v
within-one k v =
    ⊎_elim
    (λ (e : v ≡ k). eq-eqb v k e ∙ sym (within-holds k (k + 1) v (omega arith) (omega arith)))
    (λ (e : v ≡ k → ⊥). ne_eqb v k e ∙ sym (within_same k k v e ∙ within_none k v))
    (eq-or_ne v k)

within-last : (lo hi v : ℕ) → (leb lo v && leb v hi) ≡ within lo (hi + 1) v
unfolding within
within-last lo hi v =
    ⊎_elim
    (λ (h : v ≤ hi). rw (le-leb v hi h, lt-ltb v (hi + 1) (omega arith)))
    (λ (h : hi < v). rw (lt-leb v hi h, le-ltb v (hi + 1) (omega arith)))
    (le-or-lt v hi)

-- the column x, y, z0 ..= z1, as its test is written
pub column_cell : (a b c x y z0 z1 : ℕ) → (((eqb a x && eqb b y) && leb z0 c) && leb c z1) ≡ box_cell a b c x (x + 1) y (y + 1) z0 (z1 + 1)
unfolding box_cell
column_cell a b c x y z0 z1 =
    and_assoc (eqb a x && eqb b y) (leb z0 c) (leb c z1) ∙ and_assoc (eqb a x) (eqb b y) (leb z0 c && leb c z1) ∙ rw (within-last z0 z1 c, within-one x a, within-one y b)

module _ (cells : List (List ℕ)) where
  -- the planes from x0 to k, and the plane k besides
  pub grows-x : (x0 k y0 y1 z0 z1 : ℕ) → x0 ≤ k → (i : ℕ) → Grows (in_box cells k (k + 1) y0 y1 z0 z1 i) (in_box cells x0 k y0 y1 z0 z1 i) (in_box cells x0 (k + 1) y0 y1 z0 z1 i)
  unfolding in_box box_cell
  grows-x x0 k y0 y1 z0 z1 le i =
      grows-under (ltb i (length cells)) _ _ _ (grows-over (within y0 y1 (axis cells i 1) && within z0 z1 (axis cells i 2)) _ _ _ (grows-axis (axis cells i 0) x0 k le))

  -- the columns from y0 to k, and the column k besides
  pub grows-y : (x0 x1 y0 k z0 z1 : ℕ) → y0 ≤ k → (i : ℕ) → Grows (in_box cells x0 x1 k (k + 1) z0 z1 i) (in_box cells x0 x1 y0 k z0 z1 i) (in_box cells x0 x1 y0 (k + 1) z0 z1 i)
  unfolding in_box box_cell
  grows-y x0 x1 y0 k z0 z1 le i =
      grows-under (ltb i (length cells)) _ _ _ (grows-under (within x0 x1 (axis cells i 0)) _ _ _ (grows-over (within z0 z1 (axis cells i 2)) _ _ _ (grows-axis (axis cells i 1) y0 k le)))

  pub none-x : (x0 y0 y1 z0 z1 i : ℕ) → in_box cells x0 x0 y0 y1 z0 z1 i ≡ false
  unfolding in_box box_cell
  none-x x0 y0 y1 z0 z1 i = rw (within_none x0 (axis cells i 0)) (and-false (ltb i (length cells)))

  pub none-y : (x0 x1 y0 z0 z1 i : ℕ) → in_box cells x0 x1 y0 y0 z0 z1 i ≡ false
  unfolding in_box box_cell
  none-y x0 x1 y0 z0 z1 i = rw (within_none y0 (axis cells i 1), and-false (within x0 x1 (axis cells i 0))) (and-false (ltb i (length cells)))

  -- of points in a box there are no others
  pub box-own : (x0 x1 y0 y1 z0 z1 i : ℕ) → in_box cells x0 x1 y0 y1 z0 z1 i ≡ true → i < length cells
  unfolding in_box
  box-own x0 x1 y0 y1 z0 z1 i e = ltb-true i (length cells) (both (ltb i (length cells)) _ e).0

  -- the test of a point's cube is the test of the point
  pub box-cell : (x0 x1 y0 y1 z0 z1 i : ℕ) → i < length cells → box_cell (axis cells i 0) (axis cells i 1) (axis cells i 2) x0 x1 y0 y1 z0 z1 ≡ in_box cells x0 x1 y0 y1 z0 z1 i
  unfolding in_box
  box-cell x0 x1 y0 y1 z0 z1 i lt = rw (lt-ltb i (length cells) lt)

-- the numbers within one of x, of those that fit 64 digits
near_within : (v x : ℕ) → v < 2 ^ 64 → nearby v x ≡ within (x - 1) (min (x + 1) (2 ^ 64 - 1) + 1) v
unfolding nearby within
near_within v x fit =
    ⊎_elim
    (λ (h : v ≤ x + 1).
    rw (le-leb v (x + 1) h, lt-ltb v (min (x + 1) (2 ^ 64 - 1) + 1) (omega arith))
    (⊎_elim
    (λ (l : x ≤ v + 1). rw (le-leb x (v + 1) l, le-leb (x - 1) v (omega arith)))
    (λ (l : v + 1 < x). rw (lt-leb x (v + 1) l, lt-leb (x - 1) v (omega arith)))
    (le-or-lt x (v + 1))))
    (λ (h : x + 1 < v). rw (lt-leb v (x + 1) h, le-ltb v (min (x + 1) (2 ^ 64 - 1) + 1) (omega arith)) (sym (and-false (leb (x - 1) v))))
    (le-or-lt v (x + 1))

-- the block about a cube is the box from one below to one above on each axis, where there is one
pub block_box : (cells : List (List ℕ)) → ((i k : ℕ) → axis cells i k < 2 ^ 64) → (x y z i : ℕ)
    → in_box cells (x - 1) (min (x + 1) (2 ^ 64 - 1) + 1) (y - 1) (min (y + 1) (2 ^ 64 - 1) + 1) (z - 1) (min (z + 1) (2 ^ 64 - 1) + 1) i ≡ in_block cells x y z i
unfolding in_box box_cell in_block near_cell
block_box cells fit x y z i = rw (near_within (axis cells i 0) x (fit i 0), near_within (axis cells i 1) y (fit i 1), near_within (axis cells i 2) z (fit i 2))
