-- What one nudged element does to a row of any table that stands in three lists. Assumes nothing.
use mathlib.Core.Path.{◌≡◌, refl, sym, ap, ◌∙◌, subst}
use mathlib.Core.Bool.{Bool, true, false}
use mathlib.Core.List.{List}
use Prim.Native.Nat.{ℕ, zero, suc, ◌+◌, ◌-◌, ◌*◌, ◌^◌, ◌≤◌, ◌<◌, zero-le}
use native.Mathlib.Nat.{le_of_eq, mul-add, mul-le-mul_left, lt_of_lt_of_le}
use native.Mathlib.Omega.{arith}
use native.Mathlib.Decide.{ℕ_discrete}
use lib.Dec.{T}
use lib.Pow.{pow_pos}
use lib.ListN.{length, get_or, set}
use lib.Seq.{get_or-set_same, get_or-set_other}
use lib.Ieee.{Float, nan, inf, fin, binary64, prec, low, mul, of_bits}
use lib.Ieee.Exact.{HasValue}
use lib.Ieee.Fits.{div-fits}
use lib.Ieee.Positive.{positive, above, between}
use Rattle.lists.specs.Lists.{choose, zero64}
use Rattle.lists.proofs.Laws.{get_or_any, sum_to-same}
use Rattle.ieee.specs.Basic.{one64, is_finite, clamp_of}
use Rattle.ieee_root.specs.Sqrt.{Held}
use Rattle.ieee_exact.specs.Exact.{amount, total, apart}
use Rattle.ieee_exact.proofs.Rounding.{le-amount}
use Rattle.ieee_exact.proofs.Operations.{held-above, held-from}
use Rattle.ieee_exact.proofs.Sums.{summed}
use Rattle.ieee_exact.proofs.Nudges.{mean-number, mean-moves}
use Rattle.lent.specs.Domain.{thousandth64}
use Rattle.filter.specs.Filter.{met, coefficient}
use Rattle.filter_table.specs.Table.{applied}
use Rattle.lists.proofs.Bools.{never}
use Rattle.filter_shares.specs.Weights.{least64, meetings, entries, entry, weight_at, OrdinaryRow}
use Rattle.filter_shares.specs.Nudge.{InRange, Nudge, clamped_at, share51, weight_for, RowsMove}
use Rattle.filter_shares.proofs.Meetings.{few-entries}
use Rattle.filter_shares.proofs.Weights.{least-is, sum_is, more-above, not-empty, neighbours-near-one}
use Rattle.filter_shares.proofs.Rows.{Table}
use Rattle.filter_shares.proofs.Filtered.{columns-few, columns-all, columns-sum, filtered-is}

-- ---- the values

zero-value : HasValue zero64 false 0 (2 ^ low binary64)
unfolding of_bits
zero-value = (refl, refl)

one_value : HasValue one64 false (2 ^ low binary64) (2 ^ low binary64)
unfolding of_bits
one_value = (refl, refl)

thousandth-positive : T (positive thousandth64)
unfolding of_bits
thousandth-positive = tt

one-positive : T (positive one64)
unfolding of_bits
one-positive = tt

positive-is : (x : Float) → T (positive x) → T (is_finite x) × T (above x)
unfolding is_finite
positive-is nan h = absurd h
positive-is (inf s) h = absurd h
positive-is (fin true m e) h = absurd h
positive-is (fin false m e) h = (tt, h)

in-range : (v : Float) → InRange v → Held binary64 v (amount binary64 v) × (amount binary64 v ≤ 2 ^ low binary64)
in-range v r =
    let p = positive-is v (between thousandth64 v one64 thousandth-positive one-positive r.least r.most) in
    let h = held-above binary64 v r.fit p.0 p.1 in
    (h, le-amount v one64 (amount binary64 v) (2 ^ low binary64) (2 ^ low binary64) (pow_pos (low binary64)) h.value one_value r.most)

-- ---- two sums that differ in one term

total-other : (F G : ℕ → ℕ) (i n : ℕ) → n ≤ i → ((k : ℕ) → (k ≡ i → ⊥) → F k ≡ G k) → total F n ≡ total G n
unfolding total
total-other F G i zero l h = refl
total-other F G i (suc n) l h = λ j. total-other F G i n (omega arith) h j + h n (λ (q : n ≡ i). omega arith) j

total-nudge : (F G : ℕ → ℕ) (i W n : ℕ) → ((k : ℕ) → (k ≡ i → ⊥) → F k ≡ G k) → F i ≤ G i + W → total F n ≤ total G n + W
unfolding total
total-nudge F G i W zero h u = omega arith
total-nudge F G i W (suc n) h u = go (ℕ_discrete n i) (total-nudge F G i W n h u)
  where
    go : Dec (n ≡ i) → total F n ≤ total G n + W → total F n + F n ≤ total G n + G n + W
    go (yes q) r =
        let a = total-other F G i n (le_of_eq q) h in
        let b : F n ≡ F i = ap F q in
        let c : G n ≡ G i = ap G q in
        omega arith
    go (no q) r = let a = h n q in omega arith

-- ---- the row

term-nudge : (t : Bool) (A X X' : ℕ) (w : Float) → amount binary64 w ≡ A → choose t (A * X) 0 ≤ choose t (A * X') 0 + amount binary64 (choose t w zero64) * apart X X'
unfolding choose
term-nudge true A X X' w e =
    let a : A * X ≤ A * (X' + apart X X') = mul-le-mul_left A (far X X') in
    let b = mul-add A X' (apart X X') in
    let c : amount binary64 w * apart X X' ≡ A * apart X X' = ap (λ (z : ℕ). z * apart X X') e in
    omega arith
  where
    far : (x y : ℕ) → x ≤ y + apart x y
    far x y = omega arith
term-nudge false A X X' w e = zero-le

few_in-all : (k n : ℕ) → k ≤ n → n ≤ 65535 → 4 * k ≤ 2 ^ 53
few_in-all k n h g = omega arith

module _ (centroids : List (List Float)) (radius : Float) (planes : List (List Float)) (volumes : List Float) (starts near : List ℕ) (coef : List Float)
    (t : Table centroids radius planes volumes starts near coef) where
  abbrev N : ℕ
  N = length centroids

  -- "A row without that element gives equal bits."
  row-without : (x : List Float) (i : ℕ) (v : Float) (e : ℕ) → e < N → met centroids radius planes e i ≡ false
      → get_or (applied starts near coef (set x i v) N) e nan ≡ get_or (applied starts near coef x N) e nan
  row-without x i v e h miss =
      filtered-is centroids radius planes volumes starts near coef t (set x i v) e h
      ∙ sum_to-same _ _ (entries centroids radius planes e)
      (columns-all centroids radius planes e (λ j. mul binary64 (coefficient centroids radius planes volumes e j) (get_or (set x i v) j zero64) ≡ mul binary64 (coefficient centroids radius planes volumes e j) (get_or x j zero64))
      (λ j l hit. ap (mul binary64 (coefficient centroids radius planes volumes e j)) (get_or-set_other x i j v zero64 (λ (q : j ≡ i). never hit (ap (met centroids radius planes e) q ∙ miss)))))
      ∙ sym (filtered-is centroids radius planes volumes starts near coef t x e h)

  module _ (size : N ≤ 65535) (x : List Float) (i : ℕ) (v : Float) (nudge : Nudge N x i v) (e : ℕ) (row : e < N) (p : OrdinaryRow centroids radius planes e volumes) where
    abbrev m : ℕ
    m = entries centroids radius planes e

    abbrev w : ℕ → Float
    w k = weight_at centroids radius planes e volumes k

    abbrev col : ℕ → ℕ
    col k = entry centroids radius planes e k

    held : (k : ℕ) → k < m → Held binary64 (w k) (amount binary64 (w k)) × (2 ^ (prec binary64 - 1) ≤ amount binary64 (w k))
    held k l = held-from binary64 least64 (2 ^ (prec binary64 - 1)) least-is.above least-is.value (w k) (div-fits binary64 _ _) (p.weights k l).finite (p.weights k l).least

    old_in : (k : ℕ) → k < m → InRange (get_or x (col k) zero64)
    old_in = columns-all centroids radius planes e (λ j. InRange (get_or x j zero64)) (λ j l hit. subst InRange (get_or_any x j nan zero64 (lt_of_lt_of_le l nudge.long)) (nudge.old j l))

    new_in : (k : ℕ) → k < m → InRange (get_or (set x i v) (col k) zero64)
    new_in =
        columns-all centroids radius planes e (λ j. InRange (get_or (set x i v) j zero64))
        (λ j l hit. go j l (ℕ_discrete j i))
      where
        go : (j : ℕ) → j < N → Dec (j ≡ i) → InRange (get_or (set x i v) j zero64)
        go j l (yes q) = subst InRange (sym (ap (λ (z : ℕ). get_or (set x i v) z zero64) q ∙ get_or-set_same x i v zero64 (lt_of_lt_of_le nudge.place nudge.long))) nudge.new
        go j l (no q) = subst InRange (get_or_any x j nan zero64 (lt_of_lt_of_le l nudge.long) ∙ sym (get_or-set_other x i j v zero64 q)) (nudge.old j l)

    -- the exact sum of the row's products with y
    abbrev term : List Float → ℕ → ℕ
    term y j = amount binary64 (coefficient centroids radius planes volumes e j) * amount binary64 (get_or y j zero64)

    abbrev exact : List Float → ℕ
    exact y = total (λ k. term y (col k)) m

    exact-is : (y : List Float) → exact y ≡ total (λ j. choose (met centroids radius planes e j) (term y j) 0) N
    exact-is y = columns-sum centroids radius planes e (term y)

    abbrev W : ℕ
    W = amount binary64 (weight_for centroids radius planes volumes e i) * apart (amount binary64 (get_or x i nan)) (amount binary64 v)

    old-at : get_or x i zero64 ≡ get_or x i nan
    old-at = get_or_any x i zero64 nan (lt_of_lt_of_le nudge.place nudge.long)

    new-at : get_or (set x i v) i zero64 ≡ v
    new-at = get_or-set_same x i v zero64 (lt_of_lt_of_le nudge.place nudge.long)

    other : (k : ℕ) → (k ≡ i → ⊥) → choose (met centroids radius planes e k) (term x k) 0 ≡ choose (met centroids radius planes e k) (term (set x i v) k) 0
    other k q = ap (λ (z : Float). choose (met centroids radius planes e k) (amount binary64 (coefficient centroids radius planes volumes e k) * amount binary64 z) 0) (sym (get_or-set_other x i k v zero64 q))

    change : amount binary64 (weight_for centroids radius planes volumes e i) * apart (amount binary64 (get_or x i zero64)) (amount binary64 (get_or (set x i v) i zero64)) ≡ W
    change = λ j. amount binary64 (weight_for centroids radius planes volumes e i) * apart (amount binary64 (old-at j)) (amount binary64 (new-at j))

    change-back : amount binary64 (weight_for centroids radius planes volumes e i) * apart (amount binary64 (get_or (set x i v) i zero64)) (amount binary64 (get_or x i zero64)) ≡ W
    change-back = ap (λ (z : ℕ). amount binary64 (weight_for centroids radius planes volumes e i) * z) (turn (amount binary64 (get_or (set x i v) i zero64)) (amount binary64 (get_or x i zero64))) ∙ change
      where
        turn : (a b : ℕ) → apart a b ≡ apart b a
        turn a b = omega arith

    here : choose (met centroids radius planes e i) (term x i) 0 ≤ choose (met centroids radius planes e i) (term (set x i v) i) 0 + W
    unfolding weight_for
    here = subst (λ (z : ℕ). choose (met centroids radius planes e i) (term x i) 0 ≤ choose (met centroids radius planes e i) (term (set x i v) i) 0 + z) change
        (term-nudge (met centroids radius planes e i) (amount binary64 (coefficient centroids radius planes volumes e i)) (amount binary64 (get_or x i zero64)) (amount binary64 (get_or (set x i v) i zero64)) (coefficient centroids radius planes volumes e i) refl)

    here_back : choose (met centroids radius planes e i) (term (set x i v) i) 0 ≤ choose (met centroids radius planes e i) (term x i) 0 + W
    unfolding weight_for
    here_back = subst (λ (z : ℕ). choose (met centroids radius planes e i) (term (set x i v) i) 0 ≤ choose (met centroids radius planes e i) (term x i) 0 + z) change-back
        (term-nudge (met centroids radius planes e i) (amount binary64 (coefficient centroids radius planes volumes e i)) (amount binary64 (get_or (set x i v) i zero64)) (amount binary64 (get_or x i zero64)) (coefficient centroids radius planes volumes e i) refl)

    abbrev over-all : List Float → ℕ → ℕ
    over-all y j = choose (met centroids radius planes e j) (term y j) 0

    over : exact x ≤ exact (set x i v) + W
    over = subst (λ (z : ℕ). z ≤ exact (set x i v) + W) (sym (exact-is x)) (subst (λ (z : ℕ). total (over-all x) N ≤ z + W) (sym (exact-is (set x i v)))
        (total-nudge (over-all x) (over-all (set x i v)) i W N other here))

    under : exact (set x i v) ≤ exact x + W
    under = subst (λ (z : ℕ). z ≤ exact x + W) (sym (exact-is (set x i v))) (subst (λ (z : ℕ). total (over-all (set x i v)) N ≤ z + W) (sym (exact-is x))
        (total-nudge (over-all (set x i v)) (over-all x) i W N (λ k q. sym (other k q)) here_back))

    filtered-summed : (y : List Float) → summed binary64 (λ k. mul binary64 (w k) (get_or y (col k) zero64)) m ≡ get_or (applied starts near coef y N) e nan
    filtered-summed y = sym (filtered-is centroids radius planes volumes starts near coef t y e row ∙ sum_is (λ k. mul binary64 (w k) (get_or y (col k) zero64)) m)

    numbers : T (is_finite (clamped_at starts near coef N x e)) × T (is_finite (clamped_at starts near coef N (set x i v) e))
    numbers = (at x old_in, at (set x i v) new_in)
      where
        at : (y : List Float) → ((k : ℕ) → k < m → InRange (get_or y (col k) zero64)) → T (is_finite (clamped_at starts near coef N y e))
        at y r =
            subst (λ (z : Float). T (is_finite (clamp_of z))) (filtered-summed y)
            (mean-number binary64 zero-value one_value w (λ k. amount binary64 (w k)) m (λ k l. (held k l).0) (λ k l. (held k l).1) (not-empty centroids radius planes e volumes p.sum)
            (few_in-all m N (columns-few centroids radius planes e) size) (neighbours-near-one centroids radius planes e volumes p).above (λ k. get_or y (col k) zero64)
            (λ k. amount binary64 (get_or y (col k) zero64)) (λ k l. (in-range (get_or y (col k) zero64) (r k l)).0) (λ k l. (in-range (get_or y (col k) zero64) (r k l)).1))

    moves-within :
        apart (amount binary64 (clamped_at starts near coef N x e)) (amount binary64 (clamped_at starts near coef N (set x i v) e)) * 2 ^ 1074 ≤ W + meetings centroids radius planes e * share51
    moves-within =
        let one = neighbours-near-one centroids radius planes e volumes p in
        let few : 4 * m ≤ 2 ^ 53 = few_in-all m N (columns-few centroids radius planes e) size in
        let r = mean-moves binary64 zero-value one_value w (λ k. amount binary64 (w k)) m (λ k l. (held k l).0) (λ k l. (held k l).1) (not-empty centroids radius planes e volumes p.sum) few one.above
        (λ k. get_or x (col k) zero64) (λ k. get_or (set x i v) (col k) zero64) (λ k. amount binary64 (get_or x (col k) zero64)) (λ k. amount binary64 (get_or (set x i v) (col k) zero64))
        (λ k l. (in-range (get_or x (col k) zero64) (old_in k l)).0) (λ k l. (in-range (get_or (set x i v) (col k) zero64) (new_in k l)).0)
        (λ k l. (in-range (get_or x (col k) zero64) (old_in k l)).1) (λ k l. (in-range (get_or (set x i v) (col k) zero64) (new_in k l)).1) W over under in
        let s = subst (λ (z : Float). apart (amount binary64 (clamp_of z)) (amount binary64 (clamp_of (summed binary64 (λ k. mul binary64 (w k) (get_or (set x i v) (col k) zero64)) m))) * 2 ^ 1074 ≤ W + m * share51) (filtered-summed x) r in
        let u = subst (λ (z : Float). apart (amount binary64 (clamp_of (get_or (applied starts near coef x N) e nan))) (amount binary64 (clamp_of z)) * 2 ^ 1074 ≤ W + m * share51) (filtered-summed (set x i v)) s in
        more-above _ W m (meetings centroids radius planes e) (share51) (few-entries centroids radius planes e) u

  pub rows-move : N ≤ 65535 → RowsMove centroids radius planes volumes starts near coef
  rows-move size = record { within = moves-within size; numbers = numbers size; without = row-without }
