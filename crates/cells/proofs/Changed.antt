-- The laws of `changed`: what stands where, and changes one after the other at places of their own. Assumes nothing.
use mathlib.Core.Path.{◌≡◌, refl, sym, ap, ◌∙◌}
use mathlib.Core.Bool.{Bool, true, false, cond, ◌&&◌}
use mathlib.Core.List.{List, [], ◌∷◌}
use mathlib.Core.Logic.{◌⊎◌, inl, inr, ⊎_elim}
use Prim.Native.Nat.{ℕ, zero, suc, ◌+◌, ◌<◌}
use native.Mathlib.Nat.{add-zero}
use native.Mathlib.Omega.{arith}
use lib.ListN.{length, get_or}
use lib.Seq.{ext_get_or}
use Rattle.cells.specs.Cells.{changed_from, changed}

-- r picks what q picks, and what p picks besides
abbrev pub Grows : Bool → Bool → Bool → Type 0
Grows p q r = ((p ≡ true) × (q ≡ false) × (r ≡ true)) ⊎ ((p ≡ false) × (r ≡ q))

module _ {A : Type 0} (p : ℕ → Bool) (g : ℕ → A → A) where
  length_from : (k : ℕ) (l : List A) → length (changed_from k p g l) ≡ length l
  unfolding changed_from
  length_from k [] = refl
  length_from k (v ∷ l) = ap suc (length_from (suc k) l)

  at_from : (k : ℕ) (l : List A) (j : ℕ) (d : A) → j < length l → get_or (changed_from k p g l) j d ≡ cond (p (k + j)) (g (k + j) (get_or l j d)) (get_or l j d)
  unfolding changed_from
  at_from k [] j d h = absurd (omega arith)
  at_from k (v ∷ l) zero d h = rw (add-zero k)
  at_from k (v ∷ l) (suc j) d h = at_from (suc k) l j d (omega arith) ∙ ap (λ (i : ℕ). cond (p i) (g i (get_or l j d)) (get_or l j d)) (omega arith)

  pub length-changed : (l : List A) → length (changed p g l) ≡ length l
  length-changed l = length_from 0 l

  pub get_or-changed : (l : List A) (j : ℕ) (d : A) → j < length l → get_or (changed p g l) j d ≡ cond (p j) (g j (get_or l j d)) (get_or l j d)
  get_or-changed l j d h = at_from 0 l j d h ∙ ap (λ (i : ℕ). cond (p i) (g i (get_or l j d)) (get_or l j d)) (omega arith)

  -- a list that agrees with it place by place is it: the order in which the places were written says nothing
  pub is-changed : (l w : List A) (d : A) → length w ≡ length l → ((j : ℕ) → j < length l → get_or w j d ≡ cond (p j) (g j (get_or l j d)) (get_or l j d)) → w ≡ changed p g l
  is-changed l w d len at = ext_get_or d w (changed p g l) (len ∙ sym (length-changed l)) (λ j h. at j (omega arith) ∙ sym (get_or-changed l j d (omega arith)))

module _ {A : Type 0} (g : ℕ → A → A) (d : A) where
  -- p's places after q's are r's
  pub change-more : (p q r : ℕ → Bool) (l : List A) → ((j : ℕ) → Grows (p j) (q j) (r j)) → changed p g (changed q g l) ≡ changed r g l
  change-more p q r l h =
      is-changed r g l (changed p g (changed q g l)) d (length-changed p g (changed q g l) ∙ length-changed q g l)
      (λ j lt.
      get_or-changed p g (changed q g l) j d (omega (arith, length-changed q g l))
      ∙ rw (get_or-changed q g l j d lt)
      (⊎_elim
      (λ (w : (p j ≡ true) × (q j ≡ false) × (r j ≡ true)). rw (w.0, w.1, w.2))
      (λ (w : (p j ≡ false) × (r j ≡ q j)). rw (w.0, w.1))
      (h j)))

  -- the same, as a loop's turn states it
  pub changed-more : (p q r : ℕ → Bool) (l w v : List A) → ((j : ℕ) → Grows (p j) (q j) (r j)) → w ≡ changed q g l → v ≡ changed p g w → v ≡ changed r g l
  changed-more p q r l w v h e ev = ev ∙ ap (λ (t : List A). changed p g t) e ∙ change-more p q r l h

  pub changed-none : (p : ℕ → Bool) (l : List A) → ((j : ℕ) → p j ≡ false) → l ≡ changed p g l
  changed-none p l h = is-changed p g l l d refl (λ j lt. rw (h j))

  pub changed-same : (p q : ℕ → Bool) (l : List A) → ((j : ℕ) → j < length l → p j ≡ q j) → changed p g l ≡ changed q g l
  changed-same p q l h = is-changed q g l (changed p g l) d (length-changed p g l) (λ j lt. get_or-changed p g l j d lt ∙ rw (h j lt))

pub and-false : (t : Bool) → (t && false) ≡ false
and-false true = refl
and-false false = refl

pub and_assoc : (a b c : Bool) → ((a && b) && c) ≡ (a && (b && c))
and_assoc true b c = refl
and_assoc false b c = refl

-- a test beside one that grows
pub grows-under : (s p q r : Bool) → Grows p q r → Grows (s && p) (s && q) (s && r)
grows-under true p q r h = h
grows-under false p q r h = inr (refl, refl)

pub grows-over : (s p q r : Bool) → Grows p q r → Grows (p && s) (q && s) (r && s)
grows-over s p q r (inl w) = go s
  where
    go : (t : Bool) → Grows (p && t) (q && t) (r && t)
    go true = inl (rw w.0, rw w.1, rw w.2)
    go false = inr (rw w.0, rw (w.1, w.2))
grows-over s p q r (inr w) = inr (rw w.0, rw w.1)
