-- The buckets of a column follow each other, so that its points are at a run of positions. Assumes nothing.
use mathlib.Core.Path.{◌≡◌, sym, ap, ◌∙◌}
use mathlib.Core.Bool.{true}
use mathlib.Core.List.{List}
use Prim.Native.Nat.{ℕ, zero, suc, ◌+◌, ◌-◌, ◌%◌, ◌≤◌, ◌<◌}
use native.Mathlib.Nat.{add-zero, le_refl, mod-add-mod, mod-eq_of_lt}
use native.Mathlib.Omega.{arith}
use lib.ListN.{length, get_or}
use lib.Dec.{leb, ltb}
use borrow.Author.Tests.{ltb-true, leb-true}
use Rattle.lists.proofs.Laws.{both}
use Rattle.cells.specs.Cells.{axis, within, box_cell, in_box}
use Rattle.cells.specs.Filing.{mixed, turned, hash_of, hash_at, Filed, Spanned}

-- ---- d cubes further along z is d buckets further, where neither remainder wraps

turned_on : (z d : ℕ) → turned z + d < 4294967296 → turned (z + d) ≡ turned z + d
unfolding turned
turned_on z d h = omega arith

mod-on : (a d m : ℕ) → a % m + d < m → (a + d) % m ≡ a % m + d
mod-on a d m h = sym (mod-add-mod a m d) ∙ mod-eq_of_lt h

regroup : (a c d : ℕ) → a + (c + d) ≡ a + c + d
regroup a c d = omega arith

hash-on : (m x y z d : ℕ) → turned z + d < 4294967296 → hash_of m x y z + d < m → hash_of m x y (z + d) ≡ hash_of m x y z + d
unfolding hash_of
hash-on m x y z d t h =
    ap (λ (v : ℕ). (mixed x y + v) % m) (turned_on z d t)
    ∙ ap (λ (v : ℕ). v % m) (regroup (mixed x y) (turned z) d)
    ∙ mod-on (mixed x y + turned z) d m h

-- ---- what a test of a point says

within_of : (lo hi v : ℕ) → within lo hi v ≡ true → (lo ≤ v) × (v < hi)
unfolding within
within_of lo hi v e = let p = both (leb lo v) (ltb v hi) e in (leb-true lo v p.0, ltb-true v hi p.1)

box_of : (cells : List (List ℕ)) (x0 x1 y0 y1 z0 z1 i : ℕ) → in_box cells x0 x1 y0 y1 z0 z1 i ≡ true
    → (i < length cells) × ((x0 ≤ axis cells i 0) × (axis cells i 0 < x1)) × ((y0 ≤ axis cells i 1) × (axis cells i 1 < y1)) × ((z0 ≤ axis cells i 2) × (axis cells i 2 < z1))
unfolding in_box box_cell
box_of cells x0 x1 y0 y1 z0 z1 i e =
    let p = both (ltb i (length cells)) _ e in
    let q = both (within x0 x1 (axis cells i 0)) _ p.1 in
    let r = both (within y0 y1 (axis cells i 1)) _ q.1 in
    (ltb-true i (length cells) p.0, within_of x0 x1 _ q.0, within_of y0 y1 _ r.0, within_of z0 z1 _ r.1)

-- ---- the run

module _ (cells : List (List ℕ)) (order first : List ℕ) (m : ℕ) (f : Filed cells order first m) where
  starts-rise : (h d : ℕ) → h + d ≤ m → get_or first h 0 ≤ get_or first (h + d) 0
  starts-rise h zero le = rw (add-zero h) (le_refl _)
  starts-rise h (suc d) le =
      let e : h + suc d ≡ h + d + 1 = omega arith in
      rw e (omega (arith, starts-rise h d (omega arith), f.rising (h + d) (omega arith)))

  rise : (h k : ℕ) → h ≤ k → k ≤ m → get_or first h 0 ≤ get_or first k 0
  rise h k le lt =
      let e : h + (k - h) ≡ k = omega arith in
      rw e at (starts-rise h (k - h) (omega arith))

  module _ (x y z0 more : ℕ) (t : turned z0 + more < 4294967296) (room : hash_of m x y z0 + more < m) where
    some-run : (get_or first (hash_of m x y z0) 0 ≤ get_or first (hash_of m x y z0 + more + 1) 0) × (get_or first (hash_of m x y z0 + more + 1) 0 ≤ length cells)
    some-run = (rise (hash_of m x y z0) (hash_of m x y z0 + more + 1) (omega arith) (omega arith), f.last (hash_of m x y z0 + more) room)

    in-run : (i : ℕ) → in_box cells x (x + 1) y (y + 1) z0 (z0 + more + 1) i ≡ true → (get_or first (hash_of m x y z0) 0 ≤ f.place i) × (f.place i < get_or first (hash_of m x y z0 + more + 1) 0)
    unfolding hash_at
    in-run i e =
        let b = box_of cells x (x + 1) y (y + 1) z0 (z0 + more + 1) i e in
        let d = axis cells i 2 - z0 in
        let ex : axis cells i 0 ≡ x = omega (arith, b.1) in
        let ey : axis cells i 1 ≡ y = omega (arith, b.2) in
        let ez : axis cells i 2 ≡ z0 + d = omega (arith, b.3) in
        let le : d ≤ more = omega (arith, b.3) in
        let at : hash_at m cells i ≡ hash_of m x y z0 + d = rw (ex, ey) (ap (hash_of m x y) ez ∙ hash-on m x y z0 d (omega arith) (omega arith)) in (
          omega (arith, f.from i b.0, ap (λ (h : ℕ). get_or first h 0) at, rise (hash_of m x y z0) (hash_of m x y z0 + d) (omega arith) (omega arith)),
          omega (arith, f.upto i b.0, ap (λ (h : ℕ). get_or first (h + 1) 0) at, rise (hash_of m x y z0 + d + 1) (hash_of m x y z0 + more + 1) (omega arith) (omega arith)),
        )

pub spanned : (first : List ℕ) (m n x y z0 z1 h : ℕ) → z0 ≤ z1 → turned z0 + (z1 - z0) < 4294967296 → h ≡ hash_of m x y z0 → h + (z1 - z0) < m
    → Spanned first m n x y z0 z1 (get_or first h 0) (get_or first (h + (z1 - z0) + 1) 0)
spanned first m n x y z0 z1 h le t e room =
    record {
      some = λ cells order f k. rw (e, ← k) (some-run cells order first m f x y z0 (z1 - z0) t (rw e at room));
      holds = λ cells order f k i b. rw e (in-run cells order first m f x y z0 (z1 - z0) t (rw e at room) i (rw q at b));
    }
  where
    q : z1 ≡ z0 + (z1 - z0)
    q = omega arith

-- all positions hold any column
pub spanned_all : (first : List ℕ) (m n x y z0 z1 : ℕ) → Spanned first m n x y z0 z1 0 n
spanned_all first m n x y z0 z1 =
    record {
      some = λ cells order f k. (omega arith, omega arith);
      holds = λ cells order f k i b. (omega arith, omega (arith, f.place-lt i (box_of cells x (x + 1) y (y + 1) z0 (z1 + 1) i b).0));
    }
