-- The tree of a list in which no number stands twice, such as the first n numbers: each fork is split at its middle triangle. Assumes nothing.
use mathlib.Core.Path.{◌≡◌, refl, sym, ap, ◌∙◌}
use mathlib.Core.Bool.{Bool, true, false}
use mathlib.Core.List.{List, ◌∷◌}
use Prim.Native.Nat.{ℕ, zero, suc, ◌^◌, ◌≤◌, ◌<◌}
use native.Mathlib.Omega.{arith}
use lib.ListN.{length}
use lib.Dec.{leb, eqb}
use lib.Ieee.{Float}
use borrow.Author.Tests.{lt-leb, ne_eqb, eqb-true}
use Rattle.lists.specs.Lists.{tabulate, choose}
use Rattle.region_median.specs.Median.{rank_by, keep}
use Rattle.region_median.specs.Halves.{lower_half, upper_half, Once, Small}
use Rattle.region_median.proofs.Places.{count_cons}
use Rattle.region_median.proofs.Halves.{keep-once, keep-small, lower-half, upper-half}
use Rattle.region_tree.specs.Tree.{leaf, fork, bounds_of, axis_of, keys_along, tree_of}
use Rattle.region_tree.specs.Split.{tree_by}

-- each half is such a list again, so it goes on down the tree
pub tree-by : (faces : List (List Float)) (f : ℕ) (l : List ℕ) → Once l → Small l → tree_of faces f l ≡ tree_by faces f l
unfolding tree_of tree_by
tree-by faces zero l once small = refl
tree-by faces (suc f) l once small =
    let b = bounds_of faces l in
    let keys = keys_along (axis_of b) faces in
    let r = rank_by keys in
    let low = ap (tree_of faces f) (lower-half keys l once small) ∙ tree-by faces f (lower_half r l) (keep-once _ l once) (keep-small _ l small) in
    let high = ap (tree_of faces f) (upper-half keys l once small) ∙ tree-by faces f (upper_half r l) (keep-once _ l once) (keep-small _ l small) in
    λ i. choose (leb (length l) 4) (leaf b l) (fork b (low i) (high i))

-- ---- the first n numbers

-- a test that holds of none of a table keeps none
keeps-none : (p : ℕ → Bool) (f : ℕ → ℕ) (n : ℕ) → ((k : ℕ) → k < n → p (f k) ≡ false) → length (keep p (tabulate f n)) ≡ 0
unfolding keep tabulate
keeps-none p f zero h = refl
keeps-none p f (suc n) h =
    omega (arith, count_cons p (f 0) (tabulate (λ k. f (suc k)) n) (h 0 (omega arith)), keeps-none p (λ k. f (suc k)) n (λ k b. h (suc k) (omega arith)))

-- a table of a function that takes no number twice
table-once : (f : ℕ → ℕ) (n : ℕ) → ((a b : ℕ) → f a ≡ f b → a ≡ b) → Once (tabulate f n)
unfolding keep tabulate
table-once f zero apart x = omega arith
table-once f (suc n) apart x = go (eqb (f 0) x) refl (table-once (λ k. f (suc k)) n (λ a b is. omega (arith, apart (suc a) (suc b) is)) x)
  where
    go : (t : Bool) → eqb (f 0) x ≡ t → length (keep (λ i. eqb i x) (tabulate (λ k. f (suc k)) n)) ≤ 1 → length (keep (λ i. eqb i x) (f 0 ∷ tabulate (λ k. f (suc k)) n)) ≤ 1
    go true e rest =
        let none = keeps-none (λ i. eqb i x) (λ k. f (suc k)) n (λ k b. ne_eqb (f (suc k)) x (λ is. omega (arith, apart (suc k) 0 (is ∙ sym (eqb-true (f 0) x e))))) in
        omega (arith, none, count_cons (λ i. eqb i x) (f 0) (tabulate (λ k. f (suc k)) n) e)
    go false e rest = omega (arith, rest, count_cons (λ i. eqb i x) (f 0) (tabulate (λ k. f (suc k)) n) e)

pub numbers-once : (n : ℕ) → Once (tabulate (λ k. k) n)
numbers-once n = table-once (λ k. k) n (λ a b is. is)

pub numbers-small : (n : ℕ) → n ≤ 2 ^ 32 → Small (tabulate (λ k. k) n)
numbers-small n le = keeps-none (λ i. leb (2 ^ 32) i) (λ k. k) n (λ k b. lt-leb (2 ^ 32) k (omega arith))

-- the whole tree over up to 2 ^ 32 triangles
pub split-at-middle : (faces : List (List Float)) → length faces ≤ 2 ^ 32
    → tree_of faces (length faces) (tabulate (λ k. k) (length faces)) ≡ tree_by faces (length faces) (tabulate (λ k. k) (length faces))
split-at-middle faces le = tree-by faces (length faces) (tabulate (λ k. k) (length faces)) (numbers-once (length faces)) (numbers-small (length faces) le)
