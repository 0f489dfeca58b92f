-- Sums of numbers by index. Assumes nothing.
use mathlib.Core.Path.{◌≡◌, refl, sym, ap, ◌∙◌}
use mathlib.Core.Logic.{◌⊎◌, inl, inr, ⊎_elim}
use Prim.Native.Nat.{ℕ, zero, suc, ◌+◌, ◌*◌, ◌≤◌, ◌<◌}
use native.Mathlib.Nat.{add-mul, mul-add, mul-zero, zero-mul, not-suc-le-zero}
use native.Mathlib.Omega.{arith}
use Rattle.lists.proofs.Bools.{eq-or_ne}
use Rattle.shift.specs.Grants.{sum_of}

pub lt-or-eq : (i n : ℕ) → i < suc n → (i < n) ⊎ (n ≡ i)
lt-or-eq i n h = ⊎_elim (λ (p : n ≡ i). inr p) (λ (p : n ≡ i → ⊥). inl (omega arith)) (eq-or_ne n i)

pub sum-zero : (f : ℕ → ℕ) (n : ℕ) → ((k : ℕ) → k < n → f k ≡ 0) → sum_of f n ≡ 0
unfolding sum_of
sum-zero f zero h = refl
sum-zero f (suc n) h = omega (arith, sum-zero f n (λ k a. h k (omega arith)), h n (omega arith))

pub sum_same : (f g : ℕ → ℕ) (n : ℕ) → ((k : ℕ) → k < n → f k ≡ g k) → sum_of f n ≡ sum_of g n
unfolding sum_of
sum_same f g zero h = refl
sum_same f g (suc n) h = omega (arith, sum_same f g n (λ k a. h k (omega arith)), h n (omega arith))

-- one place has one more
pub sum-raised : (f g : ℕ → ℕ) (i n : ℕ) → i < n → f i ≡ g i + 1 → ((k : ℕ) → (k ≡ i → ⊥) → f k ≡ g k) → sum_of f n ≡ sum_of g n + 1
unfolding sum_of
sum-raised f g i zero h e others = absurd (not-suc-le-zero h)
sum-raised f g i (suc n) h e others =
    ⊎_elim
    (λ (p : n ≡ i). omega (arith, sum_same f g n (λ k a. others k (λ (q : k ≡ i). omega arith)), ap f p, ap g p))
    (λ (p : n ≡ i → ⊥). omega (arith, sum-raised f g i n (below p) e others, others n p))
    (eq-or_ne n i)
  where
    below : (n ≡ i → ⊥) → i < n
    below p = ⊎_elim (λ (q : i < n). q) (λ (q : n ≡ i). absurd (p q)) (lt-or-eq i n h)

pub sum_less : (f g : ℕ → ℕ) (n : ℕ) → ((k : ℕ) → k < n → f k ≤ g k) → sum_of f n ≤ sum_of g n
unfolding sum_of
sum_less f g zero h = omega arith
sum_less f g (suc n) h = omega (arith, sum_less f g n (λ k a. h k (omega arith)), h n (omega arith))

-- no place has more, and one has less
pub sum_below : (f g : ℕ → ℕ) (n j : ℕ) → j < n → ((k : ℕ) → k < n → f k ≤ g k) → f j < g j → sum_of f n < sum_of g n
unfolding sum_of
sum_below f g zero j h all less = absurd (not-suc-le-zero h)
sum_below f g (suc n) j h all less =
    ⊎_elim
    (λ (q : j < n). omega (arith, sum_below f g n j q (λ k a. all k (omega arith)) less, all n (omega arith)))
    (λ (q : n ≡ j). omega (arith, sum_less f g n (λ k a. all k (omega arith)), ap f q, ap g q))
    (lt-or-eq j n h)

pub sum-times : (f : ℕ → ℕ) (m n : ℕ) → sum_of (λ k. f k * m) n ≡ sum_of f n * m
unfolding sum_of
sum-times f m zero = sym (zero-mul m)
sum-times f m (suc n) = ap (λ (x : ℕ). x + f n * m) (sum-times f m n) ∙ sym (add-mul (sum_of f n) (f n) m)

pub times-sum : (f : ℕ → ℕ) (m n : ℕ) → sum_of (λ k. m * f k) n ≡ m * sum_of f n
unfolding sum_of
times-sum f m zero = sym (mul-zero m)
times-sum f m (suc n) = ap (λ (x : ℕ). x + m * f n) (times-sum f m n) ∙ sym (mul-add m (sum_of f n) (f n))
