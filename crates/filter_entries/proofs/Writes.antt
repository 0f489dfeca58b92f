-- Places written one after the other: what a list holds after them, and a list written from the end of what was laid before. Assumes nothing.
use mathlib.Core.Path.{◌≡◌, refl, sym, ap, ◌∙◌}
use mathlib.Core.Logic.{⊎_elim}
use mathlib.Core.List.{List}
use Prim.Native.Nat.{ℕ, zero, suc, ◌+◌, ◌<◌}
use native.Mathlib.Nat.{not-suc-le-zero, eq-or-lt_of_le}
use native.Mathlib.Omega.{arith}
use lib.ListN.{length, get_or, set, replicate, length-set, get_or-replicate}
use lib.Seq.{get_or-set_same, get_or-set_other}
use lib.Ieee.{Float}
use Rattle.lists.specs.Lists.{fold_to, zero64}
use Rattle.lists.proofs.Bools.{eq-or_ne}
use Rattle.lists.proofs.Laws.{fold_to-none, fold_to-more}
use Rattle.filter_entries.specs.Entries.{written, cleared, Apart}

pub written_none : {A : Type 0} (at : ℕ) (f : ℕ → A) (l : List A) → l ≡ written at f 0 l
unfolding written
written_none at f l = sym (fold_to-none (λ k s. set s (at + k) (f k)) l)

pub written-more : {A : Type 0} (at : ℕ) (f : ℕ → A) (k : ℕ) (l w : List A) → w ≡ written at f k l → set w (at + k) (f k) ≡ written at f (k + 1) l
unfolding written
written-more {A} at f k l w e = ap (λ (s : List A). set s (at + k) (f k)) e ∙ fold_to-more (λ k s. set s (at + k) (f k)) l k

pub cleared-none : (found : List ℕ) (l : List Float) → l ≡ cleared found 0 l
unfolding cleared
cleared-none found l = sym (fold_to-none (λ k s. set s (get_or found k 0) zero64) l)

pub cleared_more : (found : List ℕ) (k : ℕ) (l w : List Float) → w ≡ cleared found k l → set w (get_or found k 0) zero64 ≡ cleared found (k + 1) l
unfolding cleared
cleared_more found k l w e = ap (λ (s : List Float). set s (get_or found k 0) zero64) e ∙ fold_to-more (λ k s. set s (get_or found k 0) zero64) l k

pub length-cleared : (found : List ℕ) (k : ℕ) (l : List Float) → length (cleared found k l) ≡ length l
unfolding cleared fold_to
length-cleared found zero l = refl
length-cleared found (suc k) l = length-set (cleared found k l) (get_or found k 0) zero64 ∙ length-cleared found k l

-- a place that was not named is as it was
pub cleared_else : (found : List ℕ) (k : ℕ) (l : List Float) (i : ℕ) (d : Float) → ((j : ℕ) → j < k → i ≡ get_or found j 0 → ⊥) → get_or (cleared found k l) i d ≡ get_or l i d
unfolding cleared fold_to
cleared_else found zero l i d h = refl
cleared_else found (suc k) l i d h =
    get_or-set_other (cleared found k l) (get_or found k 0) i zero64 d (h k (omega arith)) ∙ cleared_else found k l i d (λ j b. h j (omega arith))

-- the place that a turn reads is as it was, since those before it are others
pub cleared-next : (found : List ℕ) (count k : ℕ) (l : List Float) (d : Float) → Apart found count → k < count → get_or (cleared found k l) (get_or found k 0) d ≡ get_or l (get_or found k 0) d
cleared-next found count k l d apart lt = cleared_else found k l (get_or found k 0) d (λ j b e. omega (arith, apart j k b lt))

-- a place that was named is zero
pub cleared-there : (found : List ℕ) (k : ℕ) (l : List Float) (j : ℕ) (d : Float) → j < k → get_or found j 0 < length l → get_or (cleared found k l) (get_or found j 0) d ≡ zero64
unfolding cleared fold_to
cleared-there found zero l j d h b = absurd (not-suc-le-zero h)
cleared-there found (suc k) l j d h b =
    ⊎_elim
    (λ (e : get_or found j 0 ≡ get_or found k 0). rw e (get_or-set_same (cleared found k l) (get_or found k 0) zero64 d (omega (arith, length-cleared found k l))))
    (λ (ne : get_or found j 0 ≡ get_or found k 0 → ⊥).
    get_or-set_other (cleared found k l) (get_or found k 0) (get_or found j 0) zero64 d ne
    ∙ ⊎_elim
    (λ (e : j ≡ k). absurd (ne (ap (λ (i : ℕ). get_or found i 0) e)))
    (λ (lt : j < k). cleared-there found k l j d lt b)
    (eq-or-lt_of_le (omega arith)))
    (eq-or_ne (get_or found j 0) (get_or found k 0))

-- a list of one value
pub get_or-zeros : {A : Type 0} (z d : A) (n : ℕ) (l : List A) (i : ℕ) → l ≡ replicate n z → i < n → get_or l i d ≡ z
get_or-zeros {A} z d n l i e lt = ap (λ (r : List A). get_or r i d) e ∙ get_or-replicate n i z d lt
