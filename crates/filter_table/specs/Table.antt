-- The filter's table, a sparse matrix by rows in three lists, and the two products with it: `row`, `apply` and `back` of filter.rs, at any
-- contents of the lists. Row e has the places from starts e up to starts (e + 1); place k has the column near k and the number coef k.
-- Definitions only.
use Rattle.std.specs.Prelude.{ℕ, ◌+◌, ◌≤◌, ◌<◌, Bool, not, ◌&&◌, List, length, get_or, set, ltb, leb, Float}
use Rattle.std.specs.Float.{nan, binary64}
use Rattle.std.specs.Float.Ieee.{add, mul}
use Rattle.lists.specs.Lists.{tabulate, fold_to, fold_over, sum_over, zero64, any_to, choose}

-- `get(a..b).unwrap_or(&[])` of both lists, zipped: a row from a to b ends at b, and at a, being empty, unless a ≤ b ≤ both lengths
unfoldable pub row_end : List ℕ → List Float → ℕ → ℕ → ℕ
row_end near coef a b = choose (leb a b && leb b (length near) && leb b (length coef)) b a

-- `a * x.get(i).unwrap_or(0.0)` at place k
unfoldable pub product : List ℕ → List Float → List Float → ℕ → Float
product near coef x k = mul binary64 (get_or coef k nan) (get_or x (get_or near k 0) zero64)

-- `.sum()` over the row from a to b, from the left
unfoldable pub row_sum : List ℕ → List Float → List Float → ℕ → ℕ → Float
row_sum near coef x a b = sum_over (product near coef x) a (row_end near coef a b)

-- `apply`: what each of the rows 0 to n - 1 sums to; a start past the end reads 0
unfoldable pub applied : List ℕ → List ℕ → List Float → List Float → ℕ → List Float
applied starts near coef x n = tabulate (λ e. row_sum near coef x (get_or starts e 0) (get_or starts (e + 1) 0)) n

-- `*out.get_mut(j) += v`: nothing where the column j is past the end
abbrev pub plus_at : ℕ → Float → List Float → List Float
plus_at j v out = set out j (add binary64 (get_or out j nan) v)

-- the same with `a * ge` at place k
unfoldable pub add_to : List ℕ → List Float → Float → ℕ → List Float → List Float
add_to near coef v k out = plus_at (get_or near k 0) (mul binary64 (get_or coef k nan) v) out

-- the same at each place of the row from a to b, in order
unfoldable pub row_share : List ℕ → List Float → Float → ℕ → ℕ → List Float → List Float
row_share near coef v a b out = fold_over (add_to near coef v) out a (row_end near coef a b)

-- `back`: m places of 0.0, then the share of g e for each of the rows 0 to n - 1, in order; g past its end reads 0.0
unfoldable pub backed : List ℕ → List ℕ → List Float → List Float → ℕ → ℕ → List Float
backed starts near coef g n m =
    fold_to (λ e. row_share near coef (get_or g e zero64) (get_or starts e 0) (get_or starts (e + 1) 0)) (tabulate (λ _. zero64) m) n

-- the row from a to b is within both lists and its columns are below m
pub record Within (near : List ℕ) (coef : List Float) (a b m : ℕ) : Type 0 where
  pub order : a ≤ b
  pub room : b ≤ length near
  pub room-coef : b ≤ length coef
  pub inside : (k : ℕ) → k < b → get_or near k 0 < m

-- a table well formed for n rows over m columns, of which the rows use the first n + 1 starts and the first starts n places: the products need no test
pub record Wf (starts near : List ℕ) (coef : List Float) (n m : ℕ) : Type 0 where
  pub ends : n < length starts
  pub rising : (e : ℕ) → e < n → get_or starts e 0 ≤ get_or starts (e + 1) 0
  pub room : get_or starts n 0 ≤ length near
  pub room-coef : get_or starts n 0 ≤ length coef
  pub inside : (k : ℕ) → k < get_or starts n 0 → get_or near k 0 < m

-- the same as a test
unfoldable pub well_of : List ℕ → List ℕ → List Float → ℕ → ℕ → Bool
well_of starts near coef n m =
    ltb n (length starts) && (leb (get_or starts n 0) (length near) && leb (get_or starts n 0) (length coef)) && not (any_to (λ e. ltb (get_or starts (e + 1) 0) (get_or starts e 0)) n) && not (any_to (λ k. leb m (get_or near k 0)) (get_or starts n 0))
