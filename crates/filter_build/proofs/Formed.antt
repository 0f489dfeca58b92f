-- What an accepted build leaves: each row's columns rise and are elements, and the table is well formed as `well` of crate filter_table tests it.
-- Assumes nothing.
use mathlib.Core.Path.{◌≡◌, refl, sym, ap, ◌∙◌}
use mathlib.Core.Bool.{true}
use mathlib.Core.Logic.{⊎_elim}
use mathlib.Core.List.{List, ◌++◌}
use Prim.Native.Nat.{ℕ, zero, suc, ◌+◌, ◌-◌, ◌≤◌, ◌<◌}
use native.Mathlib.Nat.{not-suc-le-zero, eq-or-lt_of_le}
use native.Mathlib.Omega.{arith}
use lib.ListN.{length, get_or, drop, length-append, get_or-append}
use lib.Seq.{get_or-append-add}
use lib.Dec.{eqb}
use lib.Ieee.{Float}
use borrow.Author.Tests.{ne_eqb}
use Rattle.lists.specs.Lists.{tabulate, choose, overlay}
use Rattle.lists.proofs.Laws.{length-tabulate, get_or-tabulate, choose-false}
use Rattle.filter_table.specs.Table.{Wf, well_of}
use Rattle.filter_table.proofs.Laws.{wf-well}
use Rattle.lists.proofs.Bools.{le-or-lt}
use Rattle.filter.specs.Filter.{joined, met, columns, neighbours, start, coefficients}
use Rattle.filter.specs.Build.{Lent, lengths_of, rows_refusal, early, outcome, Built}
use Rattle.lent.specs.Lent.{kept, zeroed, done, number_of}
use Rattle.filter_look.proofs.Chosen.{chosen-rising}
use Rattle.filter_rows.proofs.Table.{start-more, length-coefficients}

-- ---- places of a list laid over another, and of lists joined

pub length-laid : {A : Type 0} (new l : List A) → length new ≤ length (overlay new l)
unfolding overlay
length-laid new l = let e = length-append new (drop (length new) l) in omega arith

pub get_or-laid : {A : Type 0} (new l : List A) (k : ℕ) (d : A) → k < length new → get_or (overlay new l) k d ≡ get_or new k d
unfolding overlay
get_or-laid new l k d h = get_or-append new (drop (length new) l) d k h

module _ {A : Type 0} (f : ℕ → List A) where
  length-joined : (n : ℕ) → length (joined f (suc n)) ≡ length (joined f n) + length (f n)
  unfolding joined
  length-joined n = length-append (joined f n) (f n)

  joined_mono : (e n : ℕ) → e < n → length (joined f e) + length (f e) ≤ length (joined f n)
  joined_mono e zero h = absurd (not-suc-le-zero h)
  joined_mono e (suc n) h =
      ⊎_elim
      (λ (q : e ≡ n). rw q (let s = length-joined n in omega arith))
      (λ (lt : e < n). let s = length-joined n in let b = joined_mono e n lt in omega arith)
      (eq-or-lt_of_le (omega arith))

  pub get_or-joined : (n e k : ℕ) (d : A) → e < n → k < length (f e) → get_or (joined f n) (length (joined f e) + k) d ≡ get_or (f e) k d
  unfolding joined
  get_or-joined zero e k d h lt = absurd (not-suc-le-zero h)
  get_or-joined (suc n) e k d h lt =
      ⊎_elim
      (λ (q : e ≡ n). rw q (get_or-append-add (joined f n) (f n) k d))
      (λ (b : e < n). get_or-append (joined f n) (f n) d (length (joined f e) + k) (let m = joined_mono e n b in omega arith) ∙ get_or-joined n e k d b lt)
      (eq-or-lt_of_le (omega arith))

-- ---- the rows by the definitions

module _ (centroids : List (List Float)) (radius : Float) (planes : List (List Float)) where
  abbrev row : ℕ → List ℕ
  row e = columns centroids radius planes e

  -- "The elements that row e takes in, in rising order"
  pub columns-rise : (e j k : ℕ) → j < k → k < length (row e) → get_or (row e) j 0 < get_or (row e) k 0
  unfolding columns
  columns-rise e = (chosen-rising (met centroids radius planes e) (length centroids)).rises

  pub columns-below : (e k : ℕ) → k < length (row e) → get_or (row e) k 0 < length centroids
  unfolding columns
  columns-below e = (chosen-rising (met centroids radius planes e) (length centroids)).below

  pub start_mono : (e n : ℕ) → e < n → start centroids radius planes (e + 1) ≤ start centroids radius planes n
  unfolding start neighbours
  start_mono e n h = let m = joined_mono row e n h in let s = start-more centroids radius planes e in omega arith

  -- place k of row e stands at start e + k
  pub neighbour-at : (n e k : ℕ) → e < n → k < length (row e) → get_or (neighbours centroids radius planes n) (start centroids radius planes e + k) 0 ≡ get_or (row e) k 0
  unfolding start neighbours
  neighbour-at n e k h lt = get_or-joined row n e k 0 h lt

  neighbours-below : (n k : ℕ) → k < start centroids radius planes n → get_or (neighbours centroids radius planes n) k 0 < length centroids
  unfolding start neighbours joined
  neighbours-below zero k h = absurd (not-suc-le-zero h)
  neighbours-below (suc n) k h =
      ⊎_elim
      (λ (b : length (joined row n) ≤ k).
      let j = k - length (joined row n) in
      let e : k ≡ length (joined row n) + j = omega arith in
      let g : get_or (joined row n ++ row n) k 0 ≡ get_or (row n) j 0 = ap (λ (i : ℕ). get_or (joined row n ++ row n) i 0) e ∙ get_or-append-add (joined row n) (row n) j 0 in
      let c : get_or (row n) j 0 < length centroids = columns-below n j (let s = length-joined row n in omega arith) in
      omega arith)
      (λ (b : k < length (joined row n)). let g = get_or-append (joined row n) (row n) 0 k b in let c = neighbours-below n k b in omega arith)
      (le-or-lt (length (joined row n)) k)

-- ---- an answer of 0

accepted-is : (b r : ℕ) → number_of (choose (eqb b 0) (choose (eqb r 0) done (zeroed r)) (kept b)) ≡ 0 → choose (eqb b 0) (choose (eqb r 0) done (zeroed r)) (kept b) ≡ done
unfolding choose
accepted-is zero zero h = refl
accepted-is zero (suc r) h = absurd (let e : suc r ≡ 0 = sym (ap number_of (choose-false (eqb (suc r) 0) done (zeroed (suc r)) (ne_eqb (suc r) 0 (λ q. omega arith)))) ∙ h in omega arith)
accepted-is (suc b) r h = absurd (let e : suc b ≡ 0 = sym (ap number_of (choose-false (eqb (suc b) 0) (choose (eqb r 0) done (zeroed r)) (kept (suc b)) (ne_eqb (suc b) 0 (λ q. omega arith)))) ∙ h in omega arith)

module _ (centroids : List (List Float)) (volumes : List Float) (radius : Float) (planes : List (List Float)) (l : Lent) (l' : Lent) (b : Built centroids volumes radius planes l 0 l') where
  abbrev n : ℕ
  n = length centroids

  abbrev begins : ℕ → ℕ
  begins = start centroids radius planes

  -- a build that answers 0 has built the table
  pub accepted : outcome centroids volumes radius planes l ≡ done
  unfolding outcome
  accepted = accepted-is (early centroids volumes radius planes (lengths_of l)) (rows_refusal centroids radius planes (length l.near) (length l.coef) (length centroids)) (sym b.number)

  starts-are : l'.starts ≡ overlay (tabulate begins (n + 1)) l.starts
  starts-are = rw accepted at b.starts

  pub near-are : l'.near ≡ overlay (neighbours centroids radius planes n) l.near
  near-are = rw accepted at b.near

  pub coef-are : l'.coef ≡ overlay (coefficients centroids radius planes volumes n) l.coef
  coef-are = rw accepted at b.coef

  pub start-at : (e : ℕ) → e ≤ n → get_or l'.starts e 0 ≡ begins e
  start-at e h =
      ap (λ (s : List ℕ). get_or s e 0) starts-are
      ∙ get_or-laid (tabulate begins (n + 1)) l.starts e 0 (let t = length-tabulate begins (n + 1) in omega arith)
      ∙ get_or-tabulate begins (n + 1) e 0 (omega arith)

  pub near-at : (k : ℕ) → k < begins n → get_or l'.near k 0 ≡ get_or (neighbours centroids radius planes n) k 0
  unfolding start
  near-at k h = ap (λ (s : List ℕ). get_or s k 0) near-are ∙ get_or-laid (neighbours centroids radius planes n) l.near k 0 h

  -- what is left is well formed: the products with it need no test
  pub well_formed : Wf l'.starts l'.near l'.coef n n
  unfolding start
  well_formed =
      let last : get_or l'.starts n 0 ≡ begins n = start-at n (omega arith) in
      record {
        ends = let t = length-tabulate begins (n + 1) in let m = length-laid (tabulate begins (n + 1)) l.starts in let e = ap length starts-are in omega arith;
        rising = λ e h. let s = start-at e (omega arith) in let t = start-at (e + 1) (omega arith) in let m = start-more centroids radius planes e in omega arith;
        room = let m = length-laid (neighbours centroids radius planes n) l.near in let e = ap length near-are in omega arith;
        room-coef = let m = length-laid (coefficients centroids radius planes volumes n) l.coef in let k = length-coefficients centroids radius planes volumes n in let e = ap length coef-are in omega arith;
        inside = λ k h. let g = near-at k (omega arith) in let c = neighbours-below centroids radius planes n k (omega arith) in omega arith;
      }

  pub passes-well : well_of l'.starts l'.near l'.coef n n ≡ true
  passes-well = wf-well l'.starts l'.near l'.coef n n well_formed

  -- the columns of each row, as they stand in the list, rise
  pub rows-rise : (e j k : ℕ) → e < n → get_or l'.starts e 0 ≤ j → j < k → k < get_or l'.starts (e + 1) 0 → get_or l'.near j 0 < get_or l'.near k 0
  rows-rise e j k h from lt to =
      let s = start-at e (omega arith) in
      let t = start-at (e + 1) (omega arith) in
      let m = start-more centroids radius planes e in
      let top = start_mono centroids radius planes e n h in
      let at : (i : ℕ) → begins e ≤ i → i < begins (e + 1) → get_or l'.near i 0 ≡ get_or (columns centroids radius planes e) (i - begins e) 0 =
      λ i low high. near-at i (omega arith) ∙ ap (λ (x : ℕ). get_or (neighbours centroids radius planes n) x 0) (omega arith) ∙ neighbour-at centroids radius planes n e (i - begins e) h (omega arith) in
      let a = at j (omega arith) (omega arith) in
      let b = at k (omega arith) (omega arith) in
      let c = columns-rise centroids radius planes e (j - begins e) (k - begins e) (omega arith) (omega arith) in
      omega arith
