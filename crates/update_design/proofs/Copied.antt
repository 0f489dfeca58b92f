-- A list read place by place is itself, and two lists that are equal place by place. Assumes nothing.
use mathlib.Core.Path.{◌≡◌, refl, sym, ap, ◌∙◌}
use mathlib.Core.Bool.{Bool, true, false, not, ◌&&◌, ◌||◌}
use mathlib.Core.List.{List, [], ◌∷◌}
use Prim.Native.Nat.{ℕ, zero, suc, min}
use native.Mathlib.Omega.{arith}
use lib.ListN.{length, get_or}
use lib.Pointwise.{pointwise}
use lib.Ieee.{Float, nan, eq, ne}
use Rattle.lists.specs.Lists.{tabulate, any_to}
use Rattle.update_design.specs.Design.{same_design}

pub tabulate-get_or : {A : Type 0} (l : List A) (d : A) → tabulate (λ k. get_or l k d) (length l) ≡ l
unfolding tabulate
tabulate-get_or [] d = refl
tabulate-get_or (x ∷ l) d = ap (λ (t : List _). x ∷ t) (tabulate-get_or l d)

-- ---- whether a test holds anywhere, the first index first
or-first : (a b c : Bool) → ((a || b) || c) ≡ (a || (b || c))
or-first true b c = refl
or-first false b c = refl

any-first : (p : ℕ → Bool) (n : ℕ) → any_to p (suc n) ≡ (p 0 || any_to (λ k. p (suc k)) n)
unfolding any_to
any-first p zero = alone (p 0)
  where
    alone : (b : Bool) → (false || b) ≡ (b || false)
    alone true = refl
    alone false = refl
any-first p (suc n) = ap (λ (t : Bool). t || p (suc n)) (any-first p n) ∙ or-first (p 0) (any_to (λ k. p (suc k)) n) (p (suc n))

not-either : (a b : Bool) → (a && not b) ≡ not (not a || b)
not-either true b = refl
not-either false b = refl

same_places : (a b : List Float) → length b ≡ length a → pointwise eq a b ≡ not (any_to (λ k. ne (get_or a k nan) (get_or b k nan)) (length a))
unfolding any_to ne
same_places [] [] h = refl
same_places [] (y ∷ b) h = absurd (omega arith)
same_places (x ∷ a) [] h = absurd (omega arith)
same_places (x ∷ a) (y ∷ b) h =
    ap (λ (t : Bool). eq x y && t) (same_places a b (omega arith))
    ∙ not-either (eq x y) (any_to (λ k. ne (get_or a k nan) (get_or b k nan)) (length a))
    ∙ ap not (sym (any-first (λ k. ne (get_or (x ∷ a) k nan) (get_or (y ∷ b) k nan)) (length a)))

-- what `==` tests
pub same_lists : (a b : List Float) → length b ≡ length a → pointwise eq a b ≡ same_design a b
unfolding same_design
same_lists a b h =
    let n : length a ≡ min (length a) (length b) = omega arith in
    same_places a b h ∙ ap (λ n. not (any_to (λ k. ne (get_or a k nan) (get_or b k nan)) n)) n
