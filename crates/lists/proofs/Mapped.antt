-- A function at each place of a list, and parts of the list; a place past the end. Assumes nothing.
use mathlib.Core.Path.{◌≡◌, refl, sym, ap, ◌∙◌}
use mathlib.Core.List.{List, [], ◌∷◌, ◌++◌, map, map-append}
use Prim.Native.Nat.{ℕ, zero, suc}
use lib.ListN.{length, take, drop, set, length-map}
use Rattle.lists.specs.Lists.{overlay}

module _ {A B : Type 0} (f : A → B) where
  pub map-take : (k : ℕ) (l : List A) → map f (take k l) ≡ take k (map f l)
  map-take zero l = refl
  map-take (suc k) [] = refl
  map-take (suc k) (x ∷ l) = ap (λ (t : List B). f x ∷ t) (map-take k l)

  pub map-drop : (k : ℕ) (l : List A) → map f (drop k l) ≡ drop k (map f l)
  map-drop zero l = refl
  map-drop (suc k) [] = refl
  map-drop (suc k) (x ∷ l) = map-drop k l

  pub map-set : (l : List A) (i : ℕ) (x : A) → map f (set l i x) ≡ set (map f l) i (f x)
  map-set [] i x = refl
  map-set (y ∷ l) zero x = refl
  map-set (y ∷ l) (suc i) x = ap (λ (t : List B). f y ∷ t) (map-set l i x)

  pub map-overlay : (p l : List A) → map f (overlay p l) ≡ overlay (map f p) (map f l)
  unfolding overlay
  map-overlay p l = map-append f p (drop (length p) l) ∙ ap (λ (t : List B). map f p ++ t) (map-drop (length p) l ∙ ap (λ (n : ℕ). drop n (map f l)) (sym (length-map p f)))

pub set_past : {A : Type 0} (l : List A) (a : A) → set l (length l) a ≡ l
set_past [] a = refl
set_past {A} (x ∷ l) a = ap (λ (t : List A). x ∷ t) (set_past l a)
