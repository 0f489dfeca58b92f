-- Lists filled from the first place to the last, and marks set in them. Assumes nothing.
use mathlib.Core.Path.{◌≡◌, refl, sym, ap, ◌∙◌}
use mathlib.Core.Bool.{Bool, true, false, ◌||◌}
use mathlib.Core.List.{List, [], ◌∷◌, map}
use Prim.Native.Nat.{ℕ, zero, suc}
use native.Mathlib.Omega.{arith}
use borrow.Author.Tests.{eq-eqb, ne_eqb, eqb-true, eqb-false}
use lib.ListN.{length, get_or, set}
use lib.Dec.{eqb}
use Rattle.lists.proofs.Bools.{or-true, or-false}
use Rattle.lists.specs.Lists.{tabulate, overwrite}

-- f of each of xs, written over a list as long
pub fill-map : {A B : Type 0} (f : A → B) (d : A) (xs : List A) (l : List B) → length l ≡ length xs → overwrite (λ k. f (get_or xs k d)) (length xs) l ≡ map f xs
unfolding overwrite
fill-map f d [] [] e = refl
fill-map f d [] (y ∷ l) e = absurd (omega arith)
fill-map f d (x ∷ xs) [] e = absurd (omega arith)
fill-map f d (x ∷ xs) (y ∷ l) e = ap (λ (t : List _). f x ∷ t) (fill-map f d xs l (omega arith))

eqb-suc : (a k : ℕ) → eqb (suc a) (suc k) ≡ eqb a k
eqb-suc a k = go (eqb a k) refl
  where
    go : (t : Bool) → eqb a k ≡ t → eqb (suc a) (suc k) ≡ eqb a k
    go true e = eq-eqb (suc a) (suc k) (ap suc (eqb-true a k e)) ∙ sym e
    go false e = ne_eqb (suc a) (suc k) (λ z. eqb-false a k e (omega arith)) ∙ sym e

-- a mark more
pub set_mark : (f : ℕ → Bool) (m a : ℕ) → set (tabulate f m) a true ≡ tabulate (λ k. f k || eqb a k) m
unfolding tabulate
set_mark f zero a = refl
set_mark f (suc m) zero =
    let head : true ≡ (f zero || eqb zero zero) = sym (ap (λ (t : Bool). f zero || t) (eq-eqb zero zero refl) ∙ or-true (f zero)) in
    λ i. head i ∷ tabulate (λ k. sym (ap (λ (t : Bool). f (suc k) || t) (ne_eqb zero (suc k) (λ e. omega arith)) ∙ or-false (f (suc k))) i) m
set_mark f (suc m) (suc a) =
    let head : f zero ≡ (f zero || eqb (suc a) zero) = sym (ap (λ (t : Bool). f zero || t) (ne_eqb (suc a) zero (λ e. omega arith)) ∙ or-false (f zero)) in
    let tail = set_mark (λ k. f (suc k)) m a ∙ (λ i. tabulate (λ k. f (suc k) || sym (eqb-suc a k) i) m) in
    λ i. head i ∷ tail i

regroup : (x a b c : Bool) → (((x || a) || b) || c) ≡ (x || ((a || b) || c))
regroup true a b c = refl
regroup false a b c = refl

-- the marks of a triangle's corners
pub three-marks : (f : ℕ → Bool) (m a b c : ℕ) → set (set (set (tabulate f m) a true) b true) c true ≡ tabulate (λ k. f k || ((eqb a k || eqb b k) || eqb c k)) m
three-marks f m a b c =
    (λ i. set (set (set_mark f m a i) b true) c true)
    ∙ (λ i. set (set_mark (λ k. f k || eqb a k) m b i) c true)
    ∙ set_mark (λ k. (f k || eqb a k) || eqb b k) m c
    ∙ (λ i. tabulate (λ k. regroup (f k) (eqb a k) (eqb b k) (eqb c k) i) m)
