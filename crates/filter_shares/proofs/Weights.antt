-- The weights of a row, by the definitions, come near to a sum of one. Assumes nothing.
use mathlib.Core.Path.{◌≡◌, refl, sym, ap, ◌∙◌, subst}
use mathlib.Core.Logic.{inl, inr}
use mathlib.Core.List.{List}
use Prim.Native.Nat.{ℕ, suc, ◌+◌, ◌*◌, ◌^◌, ◌≤◌, ◌<◌}
use native.Mathlib.Nat.{eq-zero-or-pos, mul-le-mul_right}
use native.Mathlib.Numerals.{add-one}
use native.Mathlib.Omega.{arith}
use lib.Dec.{T}
use lib.Ieee.{Float, binary64, fits, add, div, le, of_bits}
use lib.Ieee.Fits.{add-fits, mul-fits, div-fits}
use Rattle.lists.specs.Lists.{fold_to, sum_to}
use Rattle.ieee.proofs.Order.{zero_is}
use Rattle.filter.specs.Filter.{product, row_sum}
use Rattle.ieee_exact.specs.Exact.{amount, total}
use Rattle.ieee_exact.proofs.Sums.{summed}
use Rattle.ieee_exact.proofs.Shares as shares
use Rattle.filter_shares.specs.Weights.{least64, Ordinary, share52, entries, entry, product_at, weight_at, OrdinaryRow, NearOne}

pub least-is : shares.LeastFull binary64 least64
unfolding of_bits
least-is = record { above = tt; value = (refl, refl) }

pub sum_is : (g : ℕ → Float) (n : ℕ) → sum_to g n ≡ summed binary64 g n
unfolding sum_to summed
sum_is g n = ap (λ (z : Float). fold_to (λ k t. add binary64 t (g k)) z n) zero_is

pub more-above : (A L n k E : ℕ) → n ≤ k → A ≤ L + n * E → A ≤ L + k * E
more-above A L n k E h g = let m : n * E ≤ k * E = mul-le-mul_right E h in omega arith

at_least : (x : Float) → T (fits binary64 x) → Ordinary x → shares.AtLeast binary64 least64 x
at_least x t o = record { fit = t; finite = o.finite; least = o.least }

module _ (centroids : List (List Float)) (radius : Float) (planes : List (List Float)) (e : ℕ) (volumes : List Float) where
  abbrev g : ℕ → Float
  g = product_at centroids radius planes e volumes

  abbrev n : ℕ
  n = entries centroids radius planes e

  product-fits : (i : ℕ) → T (fits binary64 (product centroids radius planes volumes e i))
  unfolding product
  product-fits i = mul-fits binary64 _ _

  sum_fits : (k : ℕ) → T (fits binary64 (summed binary64 g (suc k)))
  unfolding summed fold_to
  sum_fits k = add-fits binary64 (summed binary64 g k) (g k)

  row-sum : row_sum centroids radius planes volumes e ≡ summed binary64 g n
  unfolding row_sum
  row-sum = sum_is g n

  -- the row's sum is not 0.0, so the row has a neighbour
  pub not-empty : Ordinary (row_sum centroids radius planes volumes e) → 0 < n
  not-empty o = elim (eq-zero-or-pos n) [ inl z ↦ absurd (none (subst Ordinary (row-sum ∙ ap (summed binary64 g) z) o)) | inr h ↦ h ]
    where
      none : Ordinary (summed binary64 g 0) → ⊥
      none h = unfold summed fold_to of_bits le in h.least

  abbrev exactly : ℕ
  exactly = total (λ k. amount binary64 (weight_at centroids radius planes e volumes k)) n

  -- with k the number of neighbours
  pub neighbours-near-one : OrdinaryRow centroids radius planes e volumes → shares.NearOne binary64 exactly n
  neighbours-near-one p =
      subst (λ (z : Float). shares.NearOne binary64 (total (λ k. amount binary64 (div binary64 (g k) z)) n) n) (sym row-sum)
      (shares.shares-near binary64 least64 least-is g n (not-empty p.sum)
      (λ k l. at_least (g k) (product-fits (entry centroids radius planes e k)) (p.products k l))
      (λ k l. at_least (summed binary64 g (suc k)) (sum_fits k) (subst Ordinary (ap (sum_to g) (add-one k) ∙ sum_is g (suc k)) (p.sums k l)))
      (λ k l. at_least (div binary64 (g k) (summed binary64 g n)) (div-fits binary64 (g k) (summed binary64 g n)) (subst (λ (z : Float). Ordinary (div binary64 (g k) z)) row-sum (p.weights k l))))

  -- with any k that is no less
  pub near-one : (k : ℕ) → n ≤ k → OrdinaryRow centroids radius planes e volumes → NearOne k exactly
  near-one k few p =
      let s = neighbours-near-one p in
      record { above = more-above exactly (2 ^ 1074) n k share52 few s.above; below = more-above (2 ^ 1074) exactly n k share52 few s.below }
