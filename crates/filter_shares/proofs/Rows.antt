-- The weights of a row as they stand in a table's lists, for any three lists that begin with the filter's table. Assumes nothing.
use mathlib.Core.Path.{◌≡◌, refl, sym, ap, ◌∙◌}
use mathlib.Core.List.{List, map}
use Prim.Native.Nat.{ℕ, zero, suc, ◌+◌, ◌-◌, ◌≤◌, ◌<◌}
use native.Mathlib.Nat.{le_refl}
use native.Mathlib.Omega.{arith}
use lib.ListN.{length, get_or, length-map, get_or-map}
use lib.Ieee.{Float, nan, binary64}
use Rattle.lists.proofs.Laws.{get_or_any}
use Rattle.ieee_exact.specs.Exact.{amount, total}
use Rattle.filter.specs.Filter.{joined, columns, neighbours, start, coefficient, coefficients}
use Rattle.filter_rows.proofs.Table.{start-more, length-coefficients}
use Rattle.filter_build.proofs.Formed.{get_or-joined, start_mono}
use Rattle.filter_shares.specs.Weights.{entries, weight_at, weight_sum}

pub total-same : (F G : ℕ → ℕ) (n : ℕ) → ((k : ℕ) → k < n → F k ≡ G k) → total F n ≡ total G n
unfolding total
total-same F G zero h = refl
total-same F G (suc n) h = λ i. total-same F G n (λ k l. h k (omega arith)) i + h n (le_refl (suc n)) i

module _ (centroids : List (List Float)) (radius : Float) (planes : List (List Float)) where
  -- the places of row e are below the end of the last row
  pub place-below : (n e k : ℕ) → e < n → k < entries centroids radius planes e → start centroids radius planes e + k < start centroids radius planes n
  place-below n e k h l = let m = start-more centroids radius planes e in let t = start_mono centroids radius planes e n h in omega arith

  module _ (volumes : List Float) where
    abbrev row : ℕ → List Float
    row j = map (coefficient centroids radius planes volumes j) (columns centroids radius planes j)

    -- place k of row e stands at start e + k
    coefficient-at : (n e k : ℕ) → e < n → k < entries centroids radius planes e
        → get_or (coefficients centroids radius planes volumes n) (start centroids radius planes e + k) nan ≡ weight_at centroids radius planes e volumes k
    unfolding coefficients
    coefficient-at n e k h lt =
        let m = length-map (columns centroids radius planes e) (coefficient centroids radius planes volumes e) in
        ap (λ (z : ℕ). get_or (joined row n) (z + k) nan) (sym (length-coefficients centroids radius planes volumes e))
        ∙ get_or-joined row n e k nan h (omega arith)
        ∙ get_or_any (row e) k nan (coefficient centroids radius planes volumes e 0) (omega arith)
        ∙ get_or-map (coefficient centroids radius planes volumes e) (columns centroids radius planes e) k 0

    -- the three lists begin with the filter's table
    pub record Table (starts near : List ℕ) (coef : List Float) : Type 0 where
      pub begins : (e : ℕ) → e ≤ length centroids → get_or starts e 0 ≡ start centroids radius planes e
      pub room : start centroids radius planes (length centroids) ≤ length near
      pub room-coef : start centroids radius planes (length centroids) ≤ length coef
      pub column : (k : ℕ) → k < start centroids radius planes (length centroids) → get_or near k 0 ≡ get_or (neighbours centroids radius planes (length centroids)) k 0
      pub number : (k : ℕ) → k < start centroids radius planes (length centroids) → get_or coef k nan ≡ get_or (coefficients centroids radius planes volumes (length centroids)) k nan

module _ (centroids : List (List Float)) (radius : Float) (planes : List (List Float)) (volumes : List Float) (starts near : List ℕ) (coef : List Float)
    (t : Table centroids radius planes volumes starts near coef) where
  pub number-at : (e k : ℕ) → e < length centroids → k < entries centroids radius planes e → get_or coef (start centroids radius planes e + k) nan ≡ weight_at centroids radius planes e volumes k
  number-at e k h l =
      t.number (start centroids radius planes e + k) (place-below centroids radius planes (length centroids) e k h l)
      ∙ coefficient-at centroids radius planes volumes (length centroids) e k h l

  -- the weights of row e
  pub weight-sum-is : (e : ℕ) → e < length centroids → weight_sum starts coef e ≡ total (λ k. amount binary64 (weight_at centroids radius planes e volumes k)) (entries centroids radius planes e)
  unfolding weight_sum
  weight-sum-is e h =
      let m = start-more centroids radius planes e in
      let a = t.begins e (omega arith) in
      let b = t.begins (e + 1) (omega arith) in
      let len : get_or starts (e + 1) 0 - get_or starts e 0 ≡ entries centroids radius planes e = omega arith in
      ap (total (λ k. amount binary64 (get_or coef (get_or starts e 0 + k) nan))) len
      ∙ total-same (λ k. amount binary64 (get_or coef (get_or starts e 0 + k) nan)) (λ k. amount binary64 (weight_at centroids radius planes e volumes k)) (entries centroids radius planes e)
      (λ k l. ap (λ (z : ℕ). amount binary64 (get_or coef (z + k) nan)) a ∙ ap (amount binary64) (number-at e k h l))
