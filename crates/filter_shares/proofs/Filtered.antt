-- A row of the table against a design, as it stands in the lists, and sums over a row as sums over all elements. Assumes nothing.
use mathlib.Core.Path.{◌≡◌, refl, ap, ◌∙◌}
use mathlib.Core.Bool.{Bool, true, false}
use mathlib.Core.List.{List, [], ◌∷◌, ◌++◌}
use Prim.Native.Nat.{ℕ, zero, suc, ◌+◌, ◌-◌, ◌≤◌, ◌<◌}
use native.Mathlib.Numerals.{add-one}
use native.Mathlib.Omega.{arith}
use lib.ListN.{length, get_or, length-append, get_or-append}
use lib.Seq.{get_or-append_seam}
use lib.Ieee.{Float, nan, binary64, mul}
use Rattle.lists.proofs.Laws.{get_or-tabulate, sum_to-same}
use Rattle.lists.specs.Lists.{fold_over, sum_to, sum_over, choose, zero64}
use Rattle.ieee_exact.specs.Exact.{total}
use Rattle.filter.specs.Filter.{chosen, met, columns, start}
use Rattle.filter_table.specs.Table.{applied, row_sum, product as times}
use Rattle.filter_table.proofs.Laws.{row_end-within}
use Rattle.filter_look.proofs.Chosen.{chosen-le, chosen-rising}
use Rattle.filter_rows.proofs.Table.{start-more}
use Rattle.filter_build.proofs.Formed.{start_mono, neighbour-at}
use Rattle.filter_shares.specs.Weights.{entries, entry, weight_at}
use Rattle.filter_shares.proofs.Rows.{total-same, place-below, Table, number-at}

-- ---- the elements of a row

-- a sum over the picked numbers, as one over all
chosen-sum : (p : ℕ → Bool) (F : ℕ → ℕ) (n : ℕ) → total (λ k. F (get_or (chosen p n) k 0)) (length (chosen p n)) ≡ total (λ i. choose (p i) (F i) 0) n
unfolding chosen total choose
chosen-sum p F zero = refl
chosen-sum p F (suc n) = go (p n) (chosen-sum p F n)
  where
    go : (b : Bool) → total (λ k. F (get_or (chosen p n) k 0)) (length (chosen p n)) ≡ total (λ i. choose (p i) (F i) 0) n
        → total (λ k. F (get_or (choose b (chosen p n ++ (n ∷ [])) (chosen p n)) k 0)) (length (choose b (chosen p n ++ (n ∷ [])) (chosen p n))) ≡ total (λ i. choose (p i) (F i) 0) n + choose b (F n) 0
    go true rest =
        let s = total-same (λ k. F (get_or (chosen p n ++ (n ∷ [])) k 0)) (λ k. F (get_or (chosen p n) k 0)) (length (chosen p n)) (λ k l. ap F (get_or-append (chosen p n) (n ∷ []) 0 k l)) in
        let t = ap F (get_or-append_seam (chosen p n) n [] 0) in
        ap (total (λ k. F (get_or (chosen p n ++ (n ∷ [])) k 0))) (length-append (chosen p n) (n ∷ []) ∙ add-one (length (chosen p n))) ∙ omega arith
    go false rest = omega arith

module _ (centroids : List (List Float)) (radius : Float) (planes : List (List Float)) (e : ℕ) where
  pub columns-few : entries centroids radius planes e ≤ length centroids
  unfolding columns
  columns-few = chosen-le (met centroids radius planes e) (length centroids)

  -- what holds of each element that the row meets
  pub columns-all : (G : ℕ → Type 0) → ((i : ℕ) → i < length centroids → met centroids radius planes e i ≡ true → G i) → (k : ℕ) → k < entries centroids radius planes e → G (entry centroids radius planes e k)
  unfolding columns
  columns-all G h k l =
      let r = chosen-rising (met centroids radius planes e) (length centroids) in
      h (entry centroids radius planes e k) (r.below k l) (r.picked k l)

  pub columns-sum : (F : ℕ → ℕ) → total (λ k. F (entry centroids radius planes e k)) (entries centroids radius planes e) ≡ total (λ i. choose (met centroids radius planes e i) (F i) 0) (length centroids)
  unfolding columns
  columns-sum F = chosen-sum (met centroids radius planes e) F (length centroids)

-- ---- its filtered value

sum-from : (g : ℕ → Float) (a b : ℕ) → sum_over g a b ≡ sum_to (λ k. g (a + k)) (b - a)
unfolding sum_over fold_over sum_to
sum-from g a b = refl

module _ (centroids : List (List Float)) (radius : Float) (planes : List (List Float)) (volumes : List Float) (starts near : List ℕ) (coef : List Float)
    (t : Table centroids radius planes volumes starts near coef) (x : List Float) (e : ℕ) (h : e < length centroids) where
  -- the product of weight k with its element's value
  abbrev pub part : ℕ → Float
  part k = mul binary64 (weight_at centroids radius planes e volumes k) (get_or x (entry centroids radius planes e k) zero64)

  place_at : (k : ℕ) → k < entries centroids radius planes e → times near coef x (start centroids radius planes e + k) ≡ part k
  unfolding times
  place_at k l =
      let c = number-at centroids radius planes volumes starts near coef t e k h l in
      let j : get_or near (start centroids radius planes e + k) 0 ≡ entry centroids radius planes e k =
      t.column (start centroids radius planes e + k) (place-below centroids radius planes (length centroids) e k h l) ∙ neighbour-at centroids radius planes (length centroids) e k h l in
      λ i. mul binary64 (c i) (get_or x (j i) zero64)

  pub filtered-is : get_or (applied starts near coef x (length centroids)) e nan ≡ sum_to part (entries centroids radius planes e)
  unfolding applied row_sum
  filtered-is =
      let a = start centroids radius planes e in
      let b = start centroids radius planes (e + 1) in
      let m = start-more centroids radius planes e in
      let most = start_mono centroids radius planes e (length centroids) h in
      let r = t.room in
      let c = t.room-coef in
      let len : b - a ≡ entries centroids radius planes e = omega arith in
      get_or-tabulate _ (length centroids) e nan h
      ∙ (λ i. row_sum near coef x (t.begins e (omega arith) i) (t.begins (e + 1) (omega arith) i))
      ∙ ap (sum_over (times near coef x) a) (row_end-within near coef a b (omega arith) (omega arith) (omega arith))
      ∙ sum-from (times near coef x) a b
      ∙ ap (sum_to (λ k. times near coef x (a + k))) len
      ∙ sum_to-same (λ k. times near coef x (a + k)) part (entries centroids radius planes e) place_at
