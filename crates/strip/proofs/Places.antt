-- Where a place asks for a word, and where it asks for none. Assumes nothing.
use borrow.Author.Tests.{leb-true, leb-false, lt-ltb, le-ltb, ne_eqb}
use mathlib.Core.Path.{◌≡◌, refl, sym, ap, ◌∙◌}
use mathlib.Core.Bool.{Bool, true, false}
use Prim.Native.Nat.{ℕ, ◌+◌, ◌*◌, ◌≤◌, ◌<◌}
use native.Mathlib.Omega.{arith}
use lib.Dec.{leb}
use Rattle.lists.proofs.Laws.{choose-true, choose-false}
use Rattle.strip.specs.declared.words.Place.{Place}
use Rattle.strip.specs.declared.words.Place.TheVariants.{Nothing}
use Rattle.strip.specs.Strip.{element_at, place_at, stands}

-- the places of the head are the same in every strip
pub early : (n k n₁ k₁ p : ℕ) → p < 10 → place_at n k p ≡ place_at n₁ k₁ p
unfolding place_at
early n k n₁ k₁ p h = choose-true _ _ _ (lt-ltb p 10 h) ∙ sym (choose-true _ _ _ (lt-ltb p 10 h))

-- nothing follows the end
past : (n k p : ℕ) → element_at k n < p → place_at n k p ≡ Nothing
unfolding place_at
past n k p h =
    choose-false _ _ _ (le-ltb p 10 (omega arith))
    ∙ choose-false _ _ _ (le-ltb p (10 + 18 * k) (omega arith))
    ∙ choose-false _ _ _ (le-ltb p (element_at k n) (omega arith))
    ∙ choose-false _ _ _ (ne_eqb p (element_at k n) (λ e. omega arith))

-- a word that stands at its place is no further than the end
pub within : (n k p w : ℕ) → stands (place_at n k p) p w ≡ true → p ≤ element_at k n
unfolding stands
within n k p w h = go (leb p (element_at k n)) refl
  where
    go : (t : Bool) → leb p (element_at k n) ≡ t → p ≤ element_at k n
    go true e = leb-true p (element_at k n) e
    go false e =
        let s : stands (place_at n k p) p w ≡ false = ap (λ (q : Place). stands q p w) (past n k p (leb-false p (element_at k n) e)) in
        let z : ◌≡◌ {A = ℕ} 0 1 = cc in absurd (omega arith)
