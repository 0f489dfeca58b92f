-- Two maps between the numbers below m and those below n that undo each other: m is n. One way at a time, by induction on m: the last number's image is
-- taken out. Assumes nothing.
use mathlib.Core.Path.{◌≡◌, refl, sym, ap, ◌∙◌}
use mathlib.Core.Bool.{Bool, true, false}
use mathlib.Core.Logic.{◌⊎◌, inl, inr, ⊎_elim}
use Prim.Native.Nat.{ℕ, zero, suc, ◌-◌, ◌≤◌, ◌<◌, zero-le, suc-le-suc}
use native.Mathlib.Omega.{arith}
use native.Mathlib.Nat.{not-suc-le-zero, le_antisymm, eq-or-lt_of_le}
use borrow.Author.Tests.{ltb-true, ltb-false}
use lib.Dec.{ltb}
use Rattle.lists.specs.Lists.{choose}
use Rattle.lists.proofs.Laws.{choose-true, choose-false}

record Into (m n : ℕ) (f : ℕ → ℕ) : Type 0 where
  below : (k : ℕ) → k < m → f k < n
  apart : (j k : ℕ) → j < m → k < m → f j ≡ f k → j ≡ k

-- the numbers with v taken out
without : ℕ → ℕ → ℕ
without v k = choose (ltb v k) (k - 1) k

without_is : (v k : ℕ) → (k ≡ v → ⊥) → ((v < k) × (without v k ≡ k - 1)) ⊎ ((k < v) × (without v k ≡ k))
unfolding without
without_is v k h = go (ltb v k) refl
  where
    go : (t : Bool) → ltb v k ≡ t → ((v < k) × (without v k ≡ k - 1)) ⊎ ((k < v) × (without v k ≡ k))
    go true e = inl (ltb-true v k e, choose-true (ltb v k) (k - 1) k e)
    go false e =
        let le : k ≤ v = ltb-false v k e in
        inr (⊎_elim (λ (z : k ≡ v). absurd (h z)) (λ (l : k < v). l) (eq-or-lt_of_le le), choose-false (ltb v k) (k - 1) k e)

without-lt : (v k n : ℕ) → (k ≡ v → ⊥) → v < suc n → k < suc n → without v k < n
without-lt v k n h a b = ⊎_elim (λ (s : (v < k) × (without v k ≡ k - 1)). omega arith) (λ (s : (k < v) × (without v k ≡ k)). omega arith) (without_is v k h)

without-apart : (v j k : ℕ) → (j ≡ v → ⊥) → (k ≡ v → ⊥) → without v j ≡ without v k → j ≡ k
without-apart v j k h l e =
    ⊎_elim
    (λ (s : (v < j) × (without v j ≡ j - 1)). ⊎_elim (λ (t : (v < k) × (without v k ≡ k - 1)). omega arith) (λ (t : (k < v) × (without v k ≡ k)). omega arith) (without_is v k l))
    (λ (s : (j < v) × (without v j ≡ j)). ⊎_elim (λ (t : (v < k) × (without v k ≡ k - 1)). omega arith) (λ (t : (k < v) × (without v k ≡ k)). omega arith) (without_is v k l))
    (without_is v j h)

into-le : (m n : ℕ) (f : ℕ → ℕ) → Into m n f → m ≤ n
into-le zero n f i = zero-le
into-le (suc m) zero f i = absurd (not-suc-le-zero (i.below m (omega arith)))
into-le (suc m) (suc n) f i =
    let other : (k : ℕ) → k < m → f k ≡ f m → ⊥ = λ k h e. let z : k ≡ m = i.apart k m (omega arith) (omega arith) e in omega arith in
    suc-le-suc
    (into-le m n (λ k. without (f m) (f k))
    (record {
      below = λ k h. without-lt (f m) (f k) n (other k h) (i.below m (omega arith)) (i.below k (omega arith));
      apart = λ j k h l e. i.apart j k (omega arith) (omega arith) (without-apart (f m) (f j) (f k) (other j h) (other k l) e);
    }))

-- each is below its bound, and leads back
pub record Undone (m n : ℕ) (f h : ℕ → ℕ) : Type 0 where
  pub below : (k : ℕ) → k < m → f k < n
  pub back : (k : ℕ) → k < m → h (f k) ≡ k

undone-le : (m n : ℕ) (f h : ℕ → ℕ) → Undone m n f h → m ≤ n
undone-le m n f h u = into-le m n f (record { below = u.below; apart = λ j k a b e. sym (u.back j a) ∙ ap h e ∙ u.back k b })

pub as_many : (m n : ℕ) (f h : ℕ → ℕ) → Undone m n f h → Undone n m h f → m ≡ n
as_many m n f h u v = le_antisymm (undone-le m n f h u) (undone-le n m h f v)
