-- The laws of `specs/Table.antt`. Assumes nothing.
use mathlib.Core.Path.{◌≡◌, refl, ap, ◌∙◌}
use mathlib.Core.Bool.{Bool, true, false, ◌&&◌}
use mathlib.Core.List.{List}
use mathlib.Core.Logic.{⊎_elim}
use Prim.Native.Nat.{ℕ, zero, suc, ◌+◌, ◌*◌, ◌≤◌, ◌<◌}
use native.Mathlib.Omega.{arith}
use native.Mathlib.Nat.{le_of_suc-le-suc, eq-or-lt_of_le}
use native.Mathlib.Numerals.{add-one}
use lib.ListN.{length, get_or, replicate}
use lib.Ieee.{Float}
use lib.Dec.{ltb, leb}
use borrow.Author.Tests.{ltb-true, ltb-false, leb-true, leb-false, lt-ltb, le-ltb, le-leb, lt-leb, not-true}
use Rattle.lists.specs.Lists.{overwrite, fold_to, fold_over, zero64, any_to, choose}
use Rattle.lists.proofs.Filled.{filled}
use Rattle.lists.proofs.Laws.{fold_over-none, fold_over-more, any-not, both, choose-true, sum_over-none, tabulate_throughout}
use Rattle.filter_table.specs.Table.{row_end, row_sum, applied, row_share, backed, Within, Wf, well_of}

-- ---- lists

-- four turns of one place each
pub four-turns : {A : Type 0} (f : ℕ → A → A) (x : A) (a k : ℕ) → a ≤ k → f (k + 3) (f (k + 2) (f (k + 1) (f k (fold_over f x a k)))) ≡ fold_over f x a (k + 4)
four-turns {A} f x a k h =
    let more : (i j : ℕ) → (k + i) + 1 ≡ k + j → f (k + i) (fold_over f x a (k + i)) ≡ fold_over f x a (k + j) =
    λ i j e. fold_over-more f x a (k + i) (omega arith) ∙ ap (fold_over f x a) e in
    ap (λ (t : A). f (k + 3) (f (k + 2) (f (k + 1) t))) (fold_over-more f x a k h)
    ∙ ap (λ (t : A). f (k + 3) (f (k + 2) t)) (more 1 2 (omega arith))
    ∙ ap (f (k + 3)) (more 2 3 (omega arith))
    ∙ more 3 4 (omega arith)

-- the same, i fours from a on
pub four_more : {A : Type 0} (f : ℕ → A → A) (x : A) (a i : ℕ)
    → f (a + 4 * i + 3) (f (a + 4 * i + 2) (f (a + 4 * i + 1) (f (a + 4 * i) (fold_over f x a (a + 4 * i))))) ≡ fold_over f x a (a + 4 * (i + 1))
four_more f x a i = four-turns f x a (a + 4 * i) (omega arith) ∙ ap (fold_over f x a) (omega arith)

-- p fails at each index below n
pub any_fails : (p : ℕ → Bool) (n : ℕ) → ((k : ℕ) → k < n → p k ≡ false) → any_to p n ≡ false
unfolding any_to
any_fails p zero h = refl
any_fails p (suc n) h = rw (any_fails p n (λ k l. h k (omega arith)), h n (omega arith))

-- ---- a row's end
module _ (near : List ℕ) (coef : List Float) (a b : ℕ) where
  pub row_end-within : a ≤ b → b ≤ length near → b ≤ length coef → row_end near coef a b ≡ b
  unfolding row_end
  row_end-within h n c = choose-true _ b a (rw (le-leb a b h, le-leb b _ n, le-leb b _ c))

  -- either the row is within both lists, or it is empty
  row_end_split : (P : ℕ → Type 0) → (a ≤ b → b ≤ length near → b ≤ length coef → P b) → P a → P (row_end near coef a b)
  unfolding row_end choose
  row_end_split P w e = go (leb a b) (leb b (length near)) (leb b (length coef)) (leb-true a b) (leb-true b (length near)) (leb-true b (length coef))
    where
      go : (s t u : Bool) → (s ≡ true → a ≤ b) → (t ≡ true → b ≤ length near) → (u ≡ true → b ≤ length coef) → P (choose (s && t && u) b a)
      go true true true p q r = w (p refl) (q refl) (r refl)
      go true true false p q r = e
      go true false u p q r = e
      go false t u p q r = e

  pub row_end_from : a ≤ row_end near coef a b
  row_end_from = row_end_split (λ t. a ≤ t) (λ h n c. h) (omega arith)

  -- a row that is not empty is within both lists
  pub row_end_near : a < row_end near coef a b → row_end near coef a b ≤ length near
  row_end_near = row_end_split (λ t. a < t → t ≤ length near) (λ o n c l. n) (λ l. absurd (omega arith))

  pub row_end_coef : a < row_end near coef a b → row_end near coef a b ≤ length coef
  row_end_coef = row_end_split (λ t. a < t → t ≤ length coef) (λ o n c l. c) (λ l. absurd (omega arith))

-- ---- well formed
module _ (starts near : List ℕ) (coef : List Float) (n m : ℕ) where
  pub well_wf : well_of starts near coef n m ≡ true → Wf starts near coef n m
  unfolding well_of
  well_wf t =
      let p = both _ _ t in
      let q = both _ _ p.0 in
      let r = both _ _ q.0 in
      let s = both _ _ r.1 in
      record {
        ends = ltb-true _ _ r.0;
        rising = λ e h. ltb-false _ _ (any-not (λ e. ltb (get_or starts (e + 1) 0) (get_or starts e 0)) _ (not-true _ q.1) e h);
        room = leb-true _ _ s.0;
        room-coef = leb-true _ _ s.1;
        inside = λ k h. leb-false _ _ (any-not (λ k. leb m (get_or near k 0)) _ (not-true _ p.1) k h);
      }

  -- and back: the test holds of every well formed table
  pub wf-well : Wf starts near coef n m → well_of starts near coef n m ≡ true
  unfolding well_of
  wf-well wf =
      let a = any_fails (λ e. ltb (get_or starts (e + 1) 0) (get_or starts e 0)) n (λ e h. le-ltb _ _ (wf.rising e h)) in
      let b = any_fails (λ k. leb m (get_or near k 0)) (get_or starts n 0) (λ k h. lt-leb _ _ (wf.inside k h)) in
      rw (lt-ltb _ _ wf.ends, le-leb _ _ wf.room, le-leb _ _ wf.room-coef, a, b)

  module _ (wf : Wf starts near coef n m) where
    -- a start is at most every later one
    pub rises : (e f : ℕ) → e ≤ f → f ≤ n → get_or starts e 0 ≤ get_or starts f 0
    rises e zero h l = let z : e ≡ 0 = omega arith in rw z (omega arith)
    rises e (suc f) h l =
        ⊎_elim (λ q. rw q (omega arith)) (λ lt. let s = rw add-one at (wf.rising f l) in let i = rises e f (le_of_suc-le-suc lt) (omega arith) in omega arith) (eq-or-lt_of_le h)

    pub wf-row : (e : ℕ) → e < n → Within near coef (get_or starts e 0) (get_or starts (e + 1) 0) m
    wf-row e h =
        let u = rises (e + 1) n (omega arith) (omega arith) in
        let o = wf.rising e h in
        let r = wf.room in
        let s = wf.room-coef in
        record {
          order = o;
          room = omega arith;
          room-coef = omega arith;
          inside = λ k l. wf.inside k (omega arith);
        }

-- ---- loops over a row and over the rows
pub ruleset summing = (sum_over-none, row_end-within)

pub ruleset stepping = (fold_over-none, fold_over-more)

pub ruleset fours = (four-turns)

pub all_rows : (starts near : List ℕ) (coef x l o : List Float) (n i : ℕ) → o ≡ overwrite (λ e. row_sum near coef x (get_or starts e 0) (get_or starts (e + 1) 0)) i l → i ≡ length l → n ≡ length l
    → o ≡ applied starts near coef x n
unfolding applied
all_rows starts near coef x l o n i h a b = filled _ l o i h n a b

pub all_shares : (starts near : List ℕ) (coef g l o : List Float) (n m e : ℕ) → l ≡ replicate m zero64
    → o ≡ fold_to (λ e. row_share near coef (get_or g e zero64) (get_or starts e 0) (get_or starts (e + 1) 0)) l e → e ≡ n → o ≡ backed starts near coef g n m
unfolding backed
all_shares starts near coef g l o n m e z h a = h ∙ rw (z, a, tabulate_throughout zero64 m)
