-- A list of flags to which a step adds those that a test picks; many steps add what any of their tests picks. Assumes nothing.
use mathlib.Core.Path.{◌≡◌, refl, sym, ap, ◌∙◌}
use mathlib.Core.Bool.{Bool, true, false, ◌||◌, ◌&&◌}
use mathlib.Core.List.{List}
use Prim.Native.Nat.{ℕ, zero, suc, ◌<◌}
use native.Mathlib.Omega.{arith}
use lib.ListN.{get_or, set, length-set, get_or-eq_default}
use lib.Seq.{ext_get_or, get_or-set_same, get_or-set_other}
use lib.Dec.{eqb, ltb}
use borrow.Author.Tests.{eqb-true, eqb-false, ltb-true, ltb-false}
use Rattle.lists.specs.Lists.{tabulate, fold_to, any_to, choose}
use Rattle.lists.proofs.Bools.{or-true, or-false}
use Rattle.lists.proofs.Laws.{length-tabulate, get_or-tabulate, tabulate-same}

-- the step sets the flags below n that q picks, and leaves the others
abbrev pub Adds : ℕ → (List Bool → List Bool) → (ℕ → Bool) → Type 0
Adds n step q = (f : ℕ → Bool) → step (tabulate f n) ≡ tabulate (λ i. f i || q i) n

or_assoc : (a b c : Bool) → ((a || b) || c) ≡ (a || (b || c))
or_assoc true b c = refl
or_assoc false b c = refl

-- a flag past the end is none
pub flag_at : (f : ℕ → Bool) (n i : ℕ) → get_or (tabulate f n) i false ≡ (ltb i n && f i)
flag_at f n i = go (ltb i n) refl
  where
    go : (t : Bool) → ltb i n ≡ t → get_or (tabulate f n) i false ≡ (t && f i)
    go true e = get_or-tabulate f n i false (ltb-true i n e)
    go false e = get_or-eq_default (tabulate f n) false (omega (arith, length-tabulate f n, ltb-false i n e))

module _ (n : ℕ) where
  -- one flag
  pub set-adds : (h : ℕ) → Adds n (λ l. set l h true) (λ i. eqb h i)
  set-adds h f =
      ext_get_or false (set (tabulate f n) h true) (tabulate (λ i. f i || eqb h i) n) (length-set (tabulate f n) h true ∙ length-tabulate f n ∙ sym (length-tabulate (λ i. f i || eqb h i) n))
      (λ i lt. go i (omega (arith, length-set (tabulate f n) h true, length-tabulate f n)) (eqb h i) refl ∙ sym (get_or-tabulate (λ j. f j || eqb h j) n i false (omega (arith, length-set (tabulate f n) h true, length-tabulate f n))))
    where
      go : (i : ℕ) → i < n → (t : Bool) → eqb h i ≡ t → get_or (set (tabulate f n) h true) i false ≡ (f i || eqb h i)
      go i lt true e =
          rw (e, ← eqb-true h i e) (get_or-set_same (tabulate f n) h true false (omega (arith, eqb-true h i e, length-tabulate f n)) ∙ sym (or-true (f h)))
      go i lt false e =
          rw e (get_or-set_other (tabulate f n) h i true false (λ q. eqb-false h i e (sym q)) ∙ get_or-tabulate f n i false lt ∙ sym (or-false (f i)))

  -- a step that is taken where t holds
  pub choose-adds : (t : Bool) (step : List Bool → List Bool) (q : ℕ → Bool) → Adds n step q → Adds n (λ l. choose t (step l) l) (λ i. t && q i)
  unfolding choose
  choose-adds true step q a f = a f
  choose-adds false step q a f = tabulate-same f (λ i. f i || false) n (λ i _. sym (or-false (f i)))

  -- step after step
  pub fold-adds : (step : ℕ → List Bool → List Bool) (q : ℕ → ℕ → Bool) → ((k : ℕ) → Adds n (step k) (q k)) → (m : ℕ) → Adds n (λ l. fold_to step l m) (λ i. any_to (λ k. q k i) m)
  unfolding fold_to any_to
  fold-adds step q a zero f = tabulate-same f (λ i. f i || false) n (λ i _. sym (or-false (f i)))
  fold-adds step q a (suc m) f =
      ap (step m) (fold-adds step q a m f) ∙ a m (λ i. f i || any_to (λ k. q k i) m)
      ∙ tabulate-same (λ i. (f i || any_to (λ k. q k i) m) || q m i) (λ i. f i || (any_to (λ k. q k i) m || q m i)) n (λ i _. or_assoc (f i) (any_to (λ k. q k i) m) (q m i))
