-- Where nothing is refused before the rows, what the filter's build comes to is what the opening's rows come to. By the tests that were passed.
-- Assumes nothing.
use mathlib.Core.Path.{◌≡◌, sym, ap, ◌∙◌}
use mathlib.Core.Bool.{false, not, ◌||◌}
use mathlib.Core.List.{List, [], ◌∷◌, ◌++◌}
use Prim.Native.Nat.{ℕ, suc}
use lib.ListN.{length}
use lib.Dec.{ltb, eqb}
use borrow.Author.Tests.{eqb-true, eq-eqb, not-false}
use Rattle.lists.specs.Lists.{choose}
use Rattle.lists.proofs.Laws.{neither}
use Rattle.filter.specs.Build.{Lent, lengths_of, needed, count_tests, filter_tests, early, outcome}
use Rattle.lent.specs.Lent.{zeroed, done, short}
use Rattle.lent.proofs.Refusals.{none_due, both_pass}
use Rattle.run_plain.specs.Lent.{open_work, run_short, open_short}
use Rattle.run_plain.proofs.Passes.{checked}
use Rattle.run_plain.specs.Opening.{Opening, elements, table_refusal, first_refusal, lastly, in_rows, at_first, entry_of, Kept, Zeroed}

module _ (o : Opening) where
  -- ---- what the opening comes to
  pub entry_kept : (n : ℕ) → first_refusal o ≡ suc n → entry_of o ≡ Kept (suc n)
  unfolding entry_of
  entry_kept n e = ap (at_first o) e

  pub entry-zeroed : (n : ℕ) → first_refusal o ≡ 0 → table_refusal o ≡ suc n → entry_of o ≡ Zeroed (suc n)
  unfolding entry_of
  entry-zeroed n e f = ap (at_first o) e ∙ ap (in_rows o) f

  pub entry-last : first_refusal o ≡ 0 → table_refusal o ≡ 0 → entry_of o ≡ lastly o o.flag
  unfolding entry_of
  entry-last e f = ap (at_first o) e ∙ ap (in_rows o) f

  -- ---- what the tests of counts and lengths say
  pub record Passed : Type 0 where
    pub middles : not (eqb (length o.centroids) (elements o)) ≡ false
    pub marks : not (eqb (length o.passive) (elements o)) ≡ false
    pub room : open_short (elements o) o.goal.max_iterations o.lent ≡ false

  pub passed : first_refusal o ≡ 0 → Passed
  passed e =
      let c = checked o e in
      let d = neither (not (eqb (length o.centroids) (elements o))) _ c.lists.0 in
      record { middles = d.0; marks = d.1; room = c.mesh.1.1.1.1.1.0 }

-- the lists that a build is lent have the lengths that the opening looked at
pub record Same (o : Opening) (l : Lent) : Type 0 where
  pub starts : o.lent.starts ≡ length l.starts
  pub near : o.lent.near ≡ length l.near
  pub coef : o.lent.coef ≡ length l.coef
  pub work : o.lent.work ≡ length l.cell ∷ length l.order ∷ length l.first ∷ length l.sorted ∷ length l.stamp ∷ length l.weight ∷ length l.found ∷ length l.bits ∷ []

pub not_short : (k n : ℕ) (lengths needed : List ℕ) → short (k ∷ lengths) (n ∷ needed) ≡ false → (ltb k n ≡ false) × (short lengths needed ≡ false)
unfolding short
not_short k n lengths needed e = neither _ _ e

-- no list of a build is short
room-none : (o : Opening) (l : Lent) → Same o l → length o.centroids ≡ elements o → open_short (elements o) o.goal.max_iterations o.lent ≡ false
    → short (lengths_of l) (needed (length o.centroids)) ≡ false
unfolding open_short run_short short
room-none o l s long e =
    let r = neither (run_short (elements o) o.goal.max_iterations o.lent) _ e in
    let starts = (λ i. ltb (sym s.starts i) (suc (long i))) ∙ (neither (ltb o.lent.starts (suc (elements o))) _ r.0).0 in
    let work = (λ i. short (sym s.work i) (open_work (long i))) ∙ r.1 in
    λ i. starts i || work i

-- a build is refused nothing before the rows: its tests are the opening's
early-none : (o : Opening) (l : Lent) → Same o l → first_refusal o ≡ 0 → early o.centroids o.volumes o.goal.radius o.mirrors (lengths_of l) ≡ 0
unfolding early
early-none o l s e =
    let c = checked o e in
    let long : length o.centroids ≡ elements o = eqb-true _ _ (not-false _ (passed o e).middles) in
    let m = c.mesh in
    let lists = count_tests (not (eqb (elements o) (length o.centroids))) (length o.centroids) o.volumes in
    let mesh = filter_tests o.centroids o.goal.radius o.mirrors (short (lengths_of l) (needed (length o.centroids))) in
    none_due (lists ++ mesh)
    (both_pass lists mesh
    (ap not (eq-eqb _ _ (sym long)), (ap (λ (k : ℕ). eqb k 0) long ∙ c.lists.1.0, (ap (ltb 65535) long ∙ c.lists.1.1.0, (c.lists.1.1.1.0, tt))))
    (m.0, (m.1.0, (m.1.1.0, (m.1.1.1.0, (m.1.1.1.1.0, (room-none o l s long (passed o e).room, tt)))))))

-- the build's outcome, where nothing is refused before the rows
pub outcome-is : (o : Opening) (l : Lent) → Same o l → first_refusal o ≡ 0
    → outcome o.centroids o.volumes o.goal.radius o.mirrors l ≡ choose (eqb (table_refusal o) 0) done (zeroed (table_refusal o))
unfolding outcome table_refusal choose
outcome-is o l s e = rw (early-none o l s e, sym s.near, sym s.coef)
