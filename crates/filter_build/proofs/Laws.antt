-- What each way out of a build comes to. Assumes nothing.
use mathlib.Core.Path.{◌≡◌, refl, sym, ap, ◌∙◌}
use mathlib.Core.Bool.{not}
use mathlib.Core.List.{List, [], ◌∷◌, ◌++◌}
use Prim.Native.Nat.{ℕ, suc, ◌+◌, ◌≤◌, ◌<◌}
use native.Mathlib.Omega.{arith}
use lib.ListN.{length, drop, replicate}
use lib.Dec.{ltb, eqb}
use lib.Ieee.{Float}
use borrow.Author.Tests.{eqb-true, eqb-false, ltb-false, not-false, eq-eqb, ne_eqb}
use Rattle.lists.specs.Lists.{tabulate, overwrite, choose, zero64, overlay}
use Rattle.lists.proofs.Laws.{length-tabulate, overwrite-is, choose-true, choose-false, passes_on, neither}
use Rattle.filter.specs.Filter.{start}
use Rattle.filter.specs.Build.{Lent, Working, work_lengths, lengths_of, rows_refusal, early, outcome, Built}
use Rattle.filter.specs.Held.{working, lent, SameTable, SameWork}
use Rattle.filter.specs.declared.work.TableMut.{TableMut}
use Rattle.filter.specs.declared.work.Work.{Work}
use Rattle.lent.specs.Lent.{kept, zeroed, done, short, zeros}
use Rattle.filter_rows.specs.Steps.{Filled, Roomy, Past}
use Rattle.filter_wipe.specs.Wiped.{Wiped}

module _ (centroids : List (List Float)) (volumes : List Float) (radius : Float) (planes : List (List Float)) where
  -- where nothing is refused before the rows, the lists have room
  pub roomy : (starts : ℕ) (w : Working) → early centroids volumes radius planes (starts ∷ work_lengths w) ≡ 0 → Roomy (length centroids) (length volumes) (length planes) starts w
  unfolding early short
  roomy starts w e =
      let n = length centroids in
      let p1 = passes_on (not (eqb (length volumes) n)) 1 _ (omega arith) e in
      let p2 = passes_on (eqb n 0) 2 _ (omega arith) p1.1 in
      let p3 = passes_on (ltb 65535 n) 3 _ (omega arith) p2.1 in
      let p4 = passes_on _ 4 _ (omega arith) p3.1 in
      let p8 = passes_on _ 8 _ (omega arith) p4.1 in
      let p9 = passes_on _ 9 _ (omega arith) p8.1 in
      let p10 = passes_on (ltb 3 (length planes)) 10 _ (omega arith) p9.1 in
      let p11 = passes_on _ 11 _ (omega arith) p10.1 in
      let p12 = passes_on _ 12 _ (omega arith) p11.1 in
      let p14 = passes_on _ 14 0 (omega arith) p12.1 in
      let s1 = neither (ltb starts (suc n)) _ p14.0 in
      let s2 = neither (ltb (length w.cell) n) _ s1.1 in
      let s3 = neither (ltb (length w.order) n) _ s2.1 in
      let s4 = neither (ltb (length w.first) (suc n)) _ s3.1 in
      let s5 = neither (ltb (length w.sorted) n) _ s4.1 in
      let s6 = neither (ltb (length w.stamp) n) _ s5.1 in
      let s7 = neither (ltb (length w.weight) n) _ s6.1 in
      let s8 = neither (ltb (length w.found) n) _ s7.1 in
      let s9 = neither (ltb (length w.bits) 1040) _ s8.1 in
      let few : n ≤ 65535 = ltb-false 65535 n p3.0 in
      let begun : suc n ≤ starts = ltb-false starts (suc n) s1.0 in
      let ends : suc n ≤ length w.first = ltb-false (length w.first) (suc n) s4.0 in
      record {
        some = omega (arith, eqb-false n 0 p2.0);
        few = omega arith;
        volumed = eqb-true (length volumes) n (not-false (eqb (length volumes) n) p1.0);
        three = ltb-false 3 (length planes) p10.0;
        begun = omega arith;
        cells = ltb-false (length w.cell) n s2.0;
        orders = ltb-false (length w.order) n s3.0;
        firsts = omega arith;
        sorteds = ltb-false (length w.sorted) n s5.0;
        stamps = ltb-false (length w.stamp) n s6.0;
        weights = ltb-false (length w.weight) n s7.0;
        founds = ltb-false (length w.found) n s8.0;
        maps = ltb-false (length w.bits) 1040 s9.0;
      }

-- places laid over a list whose length does not matter
laid-tabulate : {A : Type 0} (f : ℕ → A) (n : ℕ) (l : List A) → n ≤ length l → overwrite f n l ≡ overlay (tabulate f n) l
unfolding overlay
laid-tabulate f n l h = overwrite-is f n l h ∙ ap (λ (k : ℕ). tabulate f n ++ drop k l) (sym (length-tabulate f n))

module _ (centroids : List (List Float)) (volumes : List Float) (radius : Float) (planes : List (List Float)) (l : Lent) where
  abbrev before : ℕ
  before = early centroids volumes radius planes (lengths_of l)

  abbrev rows : ℕ
  rows = rows_refusal centroids radius planes (length l.near) (length l.coef) (length centroids)

  outcome-is : outcome centroids volumes radius planes l ≡ choose (eqb before 0) (choose (eqb rows 0) done (zeroed rows)) (kept before)
  unfolding outcome
  outcome-is = refl

  -- refused before any row
  pub refuses : (k : ℕ) → before ≡ k → 0 < k → Built centroids volumes radius planes l k l
  refuses k e some =
      let o : outcome centroids volumes radius planes l ≡ kept k =
      outcome-is ∙ choose-false (eqb before 0) _ _ (ne_eqb before 0 (λ z. omega arith)) ∙ ap kept e in
      record { number = rw o refl; starts = rw o refl; near = rw o refl; coef = rw o refl; cell = rw o refl; order = rw o refl; first = rw o refl; sorted = rw o refl; stamp = rw o refl; weight = rw o refl; found = rw o refl; bits = rw o refl }

module _ (centroids : List (List Float)) (volumes : List Float) (radius : Float) (planes : List (List Float)) (t : TableMut) (w : Work) (none : 0 ≡ before centroids volumes radius planes (lent t w)) where
  -- there is room for the rows
  pub room : Roomy (length centroids) (length volumes) (length planes) (length t.starts.now) (working w)
  room = roomy centroids volumes radius planes (length t.starts.now) (working w) (sym none)

  module _ (t₁ : TableMut) (w₁ : Work) (st : SameTable t t₁) (sw : SameWork w w₁) where
    -- built
    pub builds : Filled centroids radius planes volumes t 0 t₁ → Past (length centroids) (working w) (working w₁) → Built centroids volumes radius planes (lent t w) 0 (lent t₁ w₁)
    builds f p =
        let o : outcome centroids volumes radius planes (lent t w) ≡ done =
        outcome-is centroids volumes radius planes (lent t w) ∙ choose-true (eqb (before centroids volumes radius planes (lent t w)) 0) _ _ (eq-eqb _ 0 (sym none)) ∙ choose-true (eqb (rows centroids volumes radius planes (lent t w)) 0) _ _ (eq-eqb _ 0 (sym f.numbers)) in
        record {
          number = rw o refl;
          starts = rw o (f.begins refl ∙ laid-tabulate (start centroids radius planes) (length centroids + 1) t.starts.now (omega (arith, room.begun)));
          near = rw o (f.nears refl);
          coef = rw o (f.coefs refl);
          cell = rw o (sw.cell-long, p.cells);
          order = rw o (sw.order-long, p.orders);
          first = rw o (sw.first-long, p.firsts);
          sorted = rw o (sw.sorted-long, p.sorteds);
          stamp = rw o (sw.stamp-long, p.stamps);
          weight = rw o (sw.weight-long, p.weights);
          found = rw o (sw.found-long, p.founds);
          bits = rw o (sw.bits-long, p.maps);
        }

    -- refused in a row, and then wiped
    pub wipes : (k : ℕ) (t₂ : TableMut) (w₂ : Work) → 0 < k → Filled centroids radius planes volumes t k t₁
        → t₂.starts.now ≡ zeros 0 t₁.starts.now → t₂.near.now ≡ zeros 0 t₁.near.now → t₂.coef.now ≡ zeros zero64 t₁.coef.now → Wiped (working w₁) (working w₂) → Built centroids volumes radius planes (lent t w) k (lent t₂ w₂)
    wipes k t₂ w₂ some f starts near coef z =
        let o : outcome centroids volumes radius planes (lent t w) ≡ zeroed k =
        outcome-is centroids volumes radius planes (lent t w) ∙ choose-true (eqb (before centroids volumes radius planes (lent t w)) 0) _ _ (eq-eqb _ 0 (sym none))
        ∙ choose-false (eqb (rows centroids volumes radius planes (lent t w)) 0) _ _ (ne_eqb _ 0 (λ q. omega (arith, f.numbers))) ∙ ap zeroed (sym f.numbers) in
        record {
          number = rw o refl;
          starts = rw o (starts ∙ ap (λ (k : ℕ). replicate k 0) st.starts-long);
          near = rw o (near ∙ ap (λ (k : ℕ). replicate k 0) st.near-long);
          coef = rw o (coef ∙ ap (λ (k : ℕ). replicate k zero64) st.coef-long);
          cell = rw o (z.cells ∙ ap (λ (k : ℕ). replicate k (0 ∷ 0 ∷ 0 ∷ [])) sw.cell-long);
          order = rw o (z.orders ∙ ap (λ (k : ℕ). replicate k 0) sw.order-long);
          first = rw o (z.firsts ∙ ap (λ (k : ℕ). replicate k 0) sw.first-long);
          sorted = rw o (z.sorteds ∙ ap (λ (k : ℕ). replicate k (zero64 ∷ zero64 ∷ zero64 ∷ [])) sw.sorted-long);
          stamp = rw o (z.stamps ∙ ap (λ (k : ℕ). replicate k 0) sw.stamp-long);
          weight = rw o (z.weights ∙ ap (λ (k : ℕ). replicate k zero64) sw.weight-long);
          found = rw o (z.founds ∙ ap (λ (k : ℕ). replicate k 0) sw.found-long);
          bits = rw o (z.maps ∙ ap (λ (k : ℕ). replicate k 0) sw.bits-long);
        }
