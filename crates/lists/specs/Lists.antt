-- Lists by index, folds, sums, tests and choices, at any element type. Definitions only.
use Rattle.std.specs.Prelude.{ℕ, zero, suc, ◌+◌, ◌-◌, Bool, true, false, ◌||◌, List, [], ◌∷◌, ◌++◌, length, drop, Float}
use Rattle.std.specs.Float.{binary64}
use Rattle.std.specs.Float.Ieee.{add, of_bits}

-- the list f 0, f 1 .. f (n - 1)
unfoldable pub tabulate : {A : Type 0} → (ℕ → A) → ℕ → List A
tabulate f zero = []
tabulate f (suc n) = f zero ∷ tabulate (λ k. f (suc k)) n

-- l with its first n places overwritten by f 0, f 1 ..: it keeps its length and its further places
unfoldable pub overwrite : {A : Type 0} → (ℕ → A) → ℕ → List A → List A
overwrite f zero l = l
overwrite f (suc n) [] = []
overwrite f (suc n) (x ∷ l) = f zero ∷ overwrite (λ k. f (suc k)) n l

-- l with its first places those of new: 01's "leaves places past those needed as they were lent"
unfoldable pub overlay : {A : Type 0} → List A → List A → List A
overlay new l = new ++ drop (length new) l

-- the state x, changed by f at 0, 1 .. n - 1 in turn
unfoldable pub fold_to : {A : Type 0} → (ℕ → A → A) → A → ℕ → A
fold_to f x zero = x
fold_to f x (suc n) = f n (fold_to f x n)

-- the same at a, a + 1 .. b - 1: at none where b is a or less
unfoldable pub fold_over : {A : Type 0} → (ℕ → A → A) → A → ℕ → ℕ → A
unfolding fold_to
fold_over f x a b = fold_to (λ j. f (a + j)) x (b - a)

-- 0.0
abbrev pub zero64 : Float
zero64 = of_bits binary64 0

-- 0.0 + f 0 + f 1 .. + f (n - 1), from the left, each sum rounded
unfoldable pub sum_to : (ℕ → Float) → ℕ → Float
unfolding fold_to
sum_to f n = fold_to (λ k t. add binary64 t (f k)) zero64 n

-- 0.0 + f a + f (a + 1) .. + f (b - 1), from the left, each sum rounded
unfoldable pub sum_over : (ℕ → Float) → ℕ → ℕ → Float
unfolding fold_over
sum_over f a b = fold_over (λ k t. add binary64 t (f k)) zero64 a b

-- whether p holds at an index below n
unfoldable pub any_to : (ℕ → Bool) → ℕ → Bool
any_to p zero = false
any_to p (suc n) = any_to p n || p n

-- a where t holds, and b otherwise. It stays shut, so that `cc` and `ap (choose _ a)` go under it
unfoldable pub choose : {A : Type 0} → Bool → A → A → A
choose true a b = a
choose false a b = b
