-- A row has no more neighbours than meetings: each neighbour is met in one reflection at least. Assumes nothing.
use mathlib.Core.Path.{◌≡◌, refl}
use mathlib.Core.Bool.{Bool, true, false, ◌||◌}
use mathlib.Core.List.{List, [], ◌∷◌, ◌++◌}
use Prim.Native.Nat.{ℕ, zero, suc, ◌+◌, ◌≤◌}
use native.Mathlib.Omega.{arith}
use lib.ListN.{length, length-append}
use lib.Ieee.{Float}
use Rattle.lists.specs.Lists.{any_to, choose}
use Rattle.ieee_exact.specs.Exact.{total}
use Rattle.filter_group.specs.Group.{members}
use Rattle.filter.specs.Filter.{chosen, counts, seen, met, columns}
use Rattle.lists.proofs.Bools.{never}
use Rattle.filter_shares.specs.Weights.{meetings, entries}

one_of : (p : ℕ → Bool) (m : ℕ) → any_to p m ≡ true → 1 ≤ total (λ g. choose (p g) 1 0) m
unfolding any_to total choose
one_of p zero h = never h refl
one_of p (suc m) h = go (p m) (any_to p m) (one_of p m) h
  where
    go : (b c : Bool) → (c ≡ true → 1 ≤ total (λ g. choose (p g) 1 0) m) → (c || b) ≡ true → 1 ≤ total (λ g. choose (p g) 1 0) m + choose b 1 0
    go true c r h = omega arith
    go false true r h = let s = r refl in omega arith
    go false false r h = never h refl

chosen-total : (p : ℕ → Bool) (q : ℕ → ℕ) (n : ℕ) → ((i : ℕ) → p i ≡ true → 1 ≤ q i) → length (chosen p n) ≤ total q n
unfolding chosen total choose
chosen-total p q zero h = omega arith
chosen-total p q (suc n) h = go (p n) (chosen-total p q n h) (h n)
  where
    go : (b : Bool) → length (chosen p n) ≤ total q n → (b ≡ true → 1 ≤ q n) → length (choose b (chosen p n ++ (n ∷ [])) (chosen p n)) ≤ total q n + q n
    go true r k = let s = k refl in let l = length-append (chosen p n) (n ∷ []) in omega arith
    go false r k = omega arith

pub few-entries : (centroids : List (List Float)) (radius : Float) (planes : List (List Float)) (e : ℕ) → entries centroids radius planes e ≤ meetings centroids radius planes e
unfolding columns meetings met
few-entries centroids radius planes e =
    chosen-total (λ i. any_to (λ g. counts centroids radius (seen centroids radius planes e g) i) (members planes))
    (λ i. total (λ g. choose (counts centroids radius (seen centroids radius planes e g) i) 1 0) (members planes)) (length centroids)
    (λ i h. one_of (λ g. counts centroids radius (seen centroids radius planes e g) i) (members planes) h)
