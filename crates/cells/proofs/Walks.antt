-- A walk of a run of positions changes each point there that its test picks, once: the order finds each point at one position. Assumes nothing.
use mathlib.Core.Path.{◌≡◌, refl, sym, ap, ◌∙◌}
use mathlib.Core.Bool.{Bool, true, false, ◌&&◌}
use mathlib.Core.List.{List}
use mathlib.Core.Logic.{inl, inr, ⊎_elim}
use Prim.Native.Nat.{ℕ, ◌+◌, ◌≤◌, ◌<◌}
use native.Mathlib.Omega.{arith}
use lib.ListN.{length, get_or, set, length-set}
use lib.Seq.{get_or-set_same, get_or-set_other}
use lib.Dec.{leb, eqb}
use borrow.Author.Tests.{le-leb, lt-leb, eq-eqb, ne_eqb, lt-ltb, le-ltb}
use Rattle.lists.proofs.Bools.{never, eq-or_ne, le-or-lt}
use Rattle.cells.specs.Cells.{changed, within}
use Rattle.cells.specs.Filing.{Filed}
use Rattle.cells.proofs.Changed.{Grows, and-false, is-changed, changed-more, changed-none, changed-same}

-- ---- a range

pub within-holds : (lo hi v : ℕ) → lo ≤ v → v < hi → within lo hi v ≡ true
unfolding within
within-holds lo hi v a b = rw (le-leb lo v a, lt-ltb v hi b)

pub within_fails : (lo hi v : ℕ) → hi ≤ v → within lo hi v ≡ false
unfolding within
within_fails lo hi v b = rw (le-ltb v hi b) (and-false (leb lo v))

pub within_none : (lo v : ℕ) → within lo lo v ≡ false
unfolding within
within_none lo v = ⊎_elim (λ (h : lo ≤ v). within_fails lo lo v h) (λ (h : v < lo). rw (lt-leb lo v h)) (le-or-lt lo v)

-- one number more, which v is not
pub within_same : (lo k v : ℕ) → (v ≡ k → ⊥) → within lo (k + 1) v ≡ within lo k v
unfolding within
within_same lo k v ne =
    ⊎_elim
    (λ (h : k ≤ v). ap (λ (t : Bool). leb lo v && t) (le-ltb v (k + 1) (omega arith) ∙ sym (le-ltb v k h)))
    (λ (h : v < k). ap (λ (t : Bool). leb lo v && t) (lt-ltb v (k + 1) (omega arith) ∙ sym (lt-ltb v k h)))
    (le-or-lt k v)

-- ---- the walk

-- the points at the positions from a up to k are done, whatever filing finds them there: a loop's invariant
abbrev pub Walked : {A : Type 0} → List (List ℕ) → List ℕ → List ℕ → ℕ → (ℕ → Bool) → (ℕ → A → A) → List A → ℕ → ℕ → List A → Type 0
Walked cells order first m p g w₀ a k w = (f : Filed cells order first m) → w ≡ changed (λ i. within a k (f.place i) && p i) g w₀

module _ {A : Type 0} (cells : List (List ℕ)) (order first : List ℕ) (m : ℕ) (p : ℕ → Bool) (own : (i : ℕ) → p i ≡ true → i < length cells) (g : ℕ → A → A) (d : A) (w₀ : List A) (a : ℕ) where
  pub walk_none : Walked cells order first m p g w₀ a a w₀
  walk_none f = changed-none g d _ w₀ (λ j. rw (within_none a (f.place j)))

  -- a point that is not at k is picked up to k + 1 where it is picked up to k
  still : (f : Filed cells order first m) (k j : ℕ) → (p j ≡ true → f.place j ≡ k → ⊥) → (within a (k + 1) (f.place j) && p j) ≡ (within a k (f.place j) && p j)
  still f k j out = go (p j) refl
    where
      go : (t : Bool) → p j ≡ t → (within a (k + 1) (f.place j) && t) ≡ (within a k (f.place j) && t)
      go true e = ap (λ (s : Bool). s && true) (within_same a k (f.place j) (out e))
      go false e = and-false (within a (k + 1) (f.place j)) ∙ sym (and-false (within a k (f.place j)))

  -- whatever is at k is the point that the order has there
  there : (f : Filed cells order first m) (k j : ℕ) → p j ≡ true → f.place j ≡ k → j ≡ get_or order k 0
  there f k j t e = sym (f.order-place j (own j t)) ∙ ap (λ (q : ℕ). get_or order q 0) e

  module _ (k : ℕ) (from : a ≤ k) (lt : k < length cells) (w : List A) (inv : Walked cells order first m p g w₀ a k w) where
    pub walk-hit : p (get_or order k 0) ≡ true → get_or order k 0 < length w → (v : A) → v ≡ g (get_or order k 0) (get_or w (get_or order k 0) d) → Walked cells order first m p g w₀ a (k + 1) (set w (get_or order k 0) v)
    walk-hit hit room v ev f =
        changed-more g d (λ j. eqb j (get_or order k 0)) (λ j. within a k (f.place j) && p j) (λ j. within a (k + 1) (f.place j) && p j) w₀ w (set w (get_or order k 0) v) grow (inv f) one
      where
        here : (j : ℕ) → j ≡ get_or order k 0 → f.place j ≡ k
        here j e = ap (λ (i : ℕ). f.place i) e ∙ f.place-order k lt

        grow : (j : ℕ) → Grows (eqb j (get_or order k 0)) (within a k (f.place j) && p j) (within a (k + 1) (f.place j) && p j)
        grow j =
            ⊎_elim
            (λ (e : j ≡ get_or order k 0).
            inl (eq-eqb j _ e, rw (within_fails a k (f.place j) (omega (arith, here j e))), rw (within-holds a (k + 1) (f.place j) (omega (arith, here j e)) (omega (arith, here j e))) (ap p e ∙ hit)))
            (λ (e : j ≡ get_or order k 0 → ⊥). inr (ne_eqb j _ e, still f k j (λ t q. e (there f k j t q))))
            (eq-or_ne j (get_or order k 0))

        one : set w (get_or order k 0) v ≡ changed (λ j. eqb j (get_or order k 0)) g w
        one =
            is-changed (λ j. eqb j (get_or order k 0)) g w (set w (get_or order k 0) v) d (length-set w (get_or order k 0) v)
            (λ j h.
            ⊎_elim
            (λ (e : j ≡ get_or order k 0). rw (eq-eqb j _ e) (rw e (get_or-set_same w (get_or order k 0) v d room ∙ ev)))
            (λ (e : j ≡ get_or order k 0 → ⊥). rw (ne_eqb j _ e) (get_or-set_other w (get_or order k 0) j v d e))
            (eq-or_ne j (get_or order k 0)))

    pub walk_miss : p (get_or order k 0) ≡ false → Walked cells order first m p g w₀ a (k + 1) w
    walk_miss miss f =
        inv f ∙ changed-same g d _ _ w₀ (λ j h. sym (still f k j (λ t q. never t (ap p (there f k j t q) ∙ miss))))

  -- where each point that p picks is at a position from a up to b, the walk to b did all
  pub walk-done : (f : Filed cells order first m) (b : ℕ) (w : List A) → ((i : ℕ) → p i ≡ true → (a ≤ f.place i) × (f.place i < b)) → Walked cells order first m p g w₀ a b w → w ≡ changed p g w₀
  walk-done f b w all inv =
      inv f ∙ changed-same g d _ p w₀ (λ j h. go j (p j) refl)
    where
      go : (j : ℕ) (t : Bool) → p j ≡ t → (within a b (f.place j) && t) ≡ t
      go j true e = rw (within-holds a b (f.place j) (all j e).0 (all j e).1)
      go j false e = and-false (within a b (f.place j))
