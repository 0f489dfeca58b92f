-- Lengths: what a question, an update and an opening make has one place an element. By the lengths of lists by index. Assumes nothing.
use mathlib.Core.Path.{◌≡◌, refl, sym, ap, ◌∙◌, subst}
use mathlib.Core.Bool.{Bool, true, false, not}
use mathlib.Core.List.{List, map}
use Prim.Native.Nat.{ℕ, zero, suc, ◌+◌, ◌≤◌, ◌<◌}
use native.Mathlib.Omega.{arith}
use native.Mathlib.Numerals.{add-one}
use lib.ListN.{length, length-append, length-map}
use lib.Dec.{ltb, eqb}
use lib.Ieee.{Float}
use borrow.Author.Tests.{eqb-true, eqb-false, not-false, ltb-false}
use Rattle.lists.specs.Lists.{choose, fold_to}
use Rattle.lists.proofs.Laws.{length-tabulate, passes_on, neither}
use Rattle.filter.specs.Filter.{joined, columns, neighbours, coefficients, coefficient, start}
use Rattle.filter.specs.Build.{too_big, too_short, row_refusal, rows_refusal}
use Rattle.oc_start.specs.Start.{start_design}
use Rattle.oc_seen.specs.Seen.{seen_density, densities}
use Rattle.run_plain.specs.Formulas.{Steep, Case, ones, see, given_at, update_at}
use Rattle.run_plain.specs.Opening.{Opening, elements, starts_of, near_of, coef_of, table_refusal, first_refusal, in_rows, at_first, entry_of, start_of, Opens}
use Rattle.run_plain.proofs.Passes.{checked}
use Rattle.run_plain.proofs.Parts.{Room, open-room}
use Rattle.update_rates.proofs.Bounds.{length-updated}
use Rattle.update_rates.proofs.Passes.{passes-at-most}

pub length-ones : (n : ℕ) → length (ones n) ≡ n
unfolding ones
length-ones n = length-tabulate _ n

pub length-start : (o : Opening) → length (start_of o) ≡ length o.passive
unfolding start_of start_design
length-start o = length-tabulate _ _

pub length-see : (c : Case) (b : Steep) (x : List Float) → length (see c b x) ≡ length c.passive
unfolding see seen_density densities
length-see c b x = length-tabulate _ _

pub length-update : (c : Case) (b : Steep) (x q energies : List Float) → length (update_at c b x q energies).design ≡ length x
unfolding update_at
length-update c b x q energies = length-updated (given_at c b x q energies)

pub most-passes : (c : Case) (b : Steep) (x q energies : List Float) → (update_at c b x q energies).passes ≤ 200
unfolding update_at
most-passes c b x q energies = (passes-at-most (given_at c b x q energies)).to

-- ---- an opening that is not refused
joined-long : {A B : Type 0} (g : ℕ → List A) (f : ℕ → A → B) (n : ℕ) → length (joined (λ j. map (f j) (g j)) n) ≡ length (joined g n)
unfolding joined
joined-long g f zero = refl
joined-long g f (suc n) = length-append (joined (λ j. map (f j) (g j)) n) (map (f n) (g n)) ∙ (λ i. joined-long g f n i + length-map (g n) (f n) i) ∙ sym (length-append (joined g n) (g n))

coef-long : (o : Opening) → length (coef_of o) ≡ length (near_of o)
unfolding coef_of near_of coefficients neighbours
coef-long o = joined-long (columns o.centroids o.goal.radius o.mirrors) (coefficient o.centroids o.goal.radius o.mirrors o.volumes) (length o.centroids)

-- of a chain over n rows that gives 0 the last row gives 0
row-passes : (t : Bool) (r before : ℕ) → eqb before 0 ≡ t → choose t r before ≡ 0 → r ≡ 0
unfolding choose
row-passes true r before q e = e
row-passes false r before q e = absurd (eqb-false _ _ q e)

last-passes : (o : Opening) (n : ℕ) → rows_refusal o.centroids o.goal.radius o.mirrors o.lent.near o.lent.coef (suc n) ≡ 0
    → row_refusal o.centroids o.goal.radius o.mirrors o.lent.near o.lent.coef n ≡ 0
unfolding rows_refusal fold_to
last-passes o n e = row-passes _ _ (rows_refusal o.centroids o.goal.radius o.mirrors o.lent.near o.lent.coef n) refl e

-- what an opening that is not refused has seen to
pub record Ready (o : Opening) : Type 0 where
  pub passive : length o.passive ≡ elements o
  pub few : elements o ≤ 65535
  pub rounds : 0 < o.goal.max_iterations
  pub starts : length (starts_of o) ≡ suc (elements o)
  pub coef : length (coef_of o) ≡ length (near_of o)
  pub near : length (near_of o) ≤ o.lent.near
  pub near-coef : length (near_of o) ≤ o.lent.coef
  pub room : Room (elements o) o.goal.max_iterations o.lent

-- the last row's end, where it passes
row_room : (o : Opening) (e : ℕ) → row_refusal o.centroids o.goal.radius o.mirrors o.lent.near o.lent.coef e ≡ 0
    → (start o.centroids o.goal.radius o.mirrors (e + 1) ≤ o.lent.near) × (start o.centroids o.goal.radius o.mirrors (e + 1) ≤ o.lent.coef)
unfolding row_refusal too_short
row_room o e h =
    let p = passes_on (too_big o.centroids o.goal.radius o.mirrors e) 13 (choose (too_short o.centroids o.goal.radius o.mirrors o.lent.near o.lent.coef e) 14 0) (omega arith) h in
    let q = passes_on (too_short o.centroids o.goal.radius o.mirrors o.lent.near o.lent.coef e) 14 0 (omega arith) p.1 in
    let r = neither (ltb o.lent.near (start o.centroids o.goal.radius o.mirrors (e + 1))) (ltb o.lent.coef (start o.centroids o.goal.radius o.mirrors (e + 1))) q.0 in
    (ltb-false _ _ r.0, ltb-false _ _ r.1)

end_is : (o : Opening) (n : ℕ) → length o.centroids ≡ suc n → start o.centroids o.goal.radius o.mirrors (n + 1) ≡ length (near_of o)
unfolding near_of start
end_is o n e = ap (λ k. length (neighbours o.centroids o.goal.radius o.mirrors k)) (add-one n ∙ sym e)

rows-room : (o : Opening) (n : ℕ) → length o.centroids ≡ n → 0 < n → table_refusal o ≡ 0 → (length (near_of o) ≤ o.lent.near) × (length (near_of o) ≤ o.lent.coef)
unfolding table_refusal
rows-room o zero e l h = absurd (omega arith)
rows-room o (suc n) e l h =
    let r = row_room o n (last-passes o n (ap (rows_refusal o.centroids o.goal.radius o.mirrors o.lent.near o.lent.coef) (sym e) ∙ h)) in
    let q : start o.centroids o.goal.radius o.mirrors (n + 1) ≡ length (near_of o) = end_is o n e in
    (subst (λ k. k ≤ o.lent.near) q r.0, subst (λ k. k ≤ o.lent.coef) q r.1)

-- what the refusals before the rows have seen to
record Fit (o : Opening) : Type 0 where
  centroids : length o.centroids ≡ elements o
  passive : length o.passive ≡ elements o
  some : 0 < elements o
  few : elements o ≤ 65535
  rounds : 0 < o.goal.max_iterations
  room : Room (elements o) o.goal.max_iterations o.lent

fits : (o : Opening) → first_refusal o ≡ 0 → Fit o
fits o e =
    let c = checked o e in
    let same = neither (not (eqb (length o.centroids) (elements o))) _ c.lists.0 in
    let n : elements o ≡ 0 → ⊥ = eqb-false _ _ c.lists.1.0 in
    let z : o.goal.max_iterations ≡ 0 → ⊥ = eqb-false _ _ c.goal.1.0 in
    record {
      centroids = eqb-true _ _ (not-false _ same.0);
      passive = eqb-true _ _ (not-false _ same.1);
      some = omega (arith, n);
      few = ltb-false _ _ c.lists.1.1.0;
      rounds = omega (arith, z);
      room = open-room _ _ _ c.mesh.1.1.1.1.1.0;
    }

opens-rows : (o : Opening) (n : ℕ) → in_rows o n ≡ Opens → n ≡ 0
opens-rows o zero e = refl
opens-rows o (suc n) e = absurd (let z : ◌≡◌ {A = ℕ} 0 1 = cc in omega arith)

opens-first : (o : Opening) (n : ℕ) → at_first o n ≡ Opens → (n ≡ 0) × (table_refusal o ≡ 0)
opens-first o zero e = (refl, opens-rows o _ e)
opens-first o (suc n) e = absurd (let z : ◌≡◌ {A = ℕ} 0 1 = cc in omega arith)

pub ready : (o : Opening) → entry_of o ≡ Opens → Ready o
unfolding entry_of starts_of
ready o e =
    let p = opens-first o (first_refusal o) e in
    let c = fits o p.0 in
    let m : length o.centroids ≡ elements o = c.centroids in
    let r = rows-room o (length o.centroids) refl (omega (arith, c.some)) p.1 in
    record { passive = c.passive; few = c.few; rounds = c.rounds; starts = length-tabulate _ _ ∙ omega arith; coef = coef-long o; near = r.0; near-coef = r.1; room = c.room }
