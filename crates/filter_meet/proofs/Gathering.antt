-- One member more: a weight has one more addend or none, and an element is met if it was or is. Assumes nothing.
use mathlib.Core.Path.{◌≡◌, refl, sym, ap, ◌∙◌}
use mathlib.Core.Bool.{Bool, true, false, cond, ◌||◌}
use mathlib.Core.List.{List}
use Prim.Native.Nat.{ℕ, ◌+◌, ◌≤◌, ◌<◌}
use native.Mathlib.Omega.{arith}
use lib.ListN.{length, get_or}
use lib.Dec.{eqb}
use borrow.Author.Tests.{eq-eqb}
use lib.Ieee.{Float, nan, binary64, add}
use Rattle.lists.specs.Lists.{any_to, choose, zero64}
use Rattle.lists.proofs.Bools.{or-true, or-false}
use Rattle.lists.proofs.Laws.{fold_to-more, any_step}
use Rattle.geom.specs.declared.Vec3.{Vec3}
use Rattle.cells.proofs.Changed.{get_or-changed}
use Rattle.filter.specs.Filter.{counts, share, seen}
use Rattle.filter_look.specs.Steps.{gained, Lists, Kept, Took, Gathered}
use Rattle.filter_look.specs.declared.met.Met.{Met}

cond-choose : {A : Type 0} (t : Bool) (a b : A) → cond t a b ≡ choose t a b
unfolding choose
cond-choose true a b = refl
cond-choose false a b = refl

-- a mark put where the test holds
cond_mark : (t : Bool) (mark old : ℕ) → eqb (cond t mark old) mark ≡ (eqb old mark || t)
cond_mark true mark old = eq-eqb mark mark refl ∙ sym (or-true (eqb old mark))
cond_mark false mark old = sym (or-false (eqb old mark))

cond-most : (t : Bool) (mark old : ℕ) → old ≤ mark → cond t mark old ≤ mark
cond-most true mark old h = omega arith
cond-most false mark old h = h

module _ (centroids : List (List Float)) (radius : Float) (planes : List (List Float)) (e : ℕ) where
  pub gather_more : (k : ℕ) (q : Vec3) (m m' : Met) → q ≡ seen centroids radius planes e k → Lists (length centroids) m → Kept m m'
      → Gathered centroids radius planes e k m → Took (counts centroids radius q) (gained centroids radius q) m m' → Gathered centroids radius planes e (k + 1) m'
  gather_more k q m m' eq l kept s t =
      let p : ℕ → Bool = counts centroids radius q in
      let put : (i : ℕ) → i < length centroids → get_or m'.stamp.now i 0 ≡ cond (p i) m'.mark (get_or m.stamp.now i 0) =
      λ i lt. ap (λ (l : List ℕ). get_or l i 0) t.stamps ∙ get_or-changed p (λ _ _. m.mark) m.stamp.now i 0 (omega (arith, l.stamps)) ∙ ap (λ (v : ℕ). cond (p i) v (get_or m.stamp.now i 0)) (sym kept.mark) in
      record {
        weights = λ i lt.
            ap (λ (l : List Float). get_or l i nan) t.weights ∙ get_or-changed p (gained centroids radius q) m.weight.now i nan (omega (arith, l.weights)) ∙ cond-choose (p i) _ _
            ∙ ap (λ (v : Vec3). choose (counts centroids radius v i) (add binary64 (get_or m.weight.now i nan) (share centroids radius v i)) (get_or m.weight.now i nan)) eq
            ∙ ap (λ (w : Float). choose (counts centroids radius (seen centroids radius planes e k) i) (add binary64 w (share centroids radius (seen centroids radius planes e k) i)) w) (s.weights i lt)
            ∙ fold_to-more (λ h w. choose (counts centroids radius (seen centroids radius planes e h) i) (add binary64 w (share centroids radius (seen centroids radius planes e h) i)) w) zero64 k;
        stamps = λ i lt.
            ap (λ (v : ℕ). eqb v m'.mark) (put i lt) ∙ cond_mark (p i) m'.mark (get_or m.stamp.now i 0)
            ∙ ap (λ (v : ℕ). eqb (get_or m.stamp.now i 0) v || p i) kept.mark
            ∙ ap (λ (b : Bool). b || p i) (s.stamps i lt) ∙ ap (λ (v : Vec3). any_to (λ h. counts centroids radius (seen centroids radius planes e h) i) k || counts centroids radius v i) eq
            ∙ any_step (λ h. counts centroids radius (seen centroids radius planes e h) i) k;
        most = λ i lt. rw (put i lt) (cond-most (p i) m'.mark (get_or m.stamp.now i 0) (rw kept.mark (s.most i lt)));
      }
