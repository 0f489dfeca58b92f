-- The products depend only on what the rows use: a well formed table and one that begins with the same n + 1 starts and the same places have
-- the same products, so lists may be lent longer. Row by row, by the agreement of folds. Assumes nothing.
use mathlib.Core.Path.{◌≡◌}
use mathlib.Core.List.{List, ◌++◌}
use Prim.Native.Nat.{ℕ, ◌+◌, ◌≤◌, ◌<◌}
use native.Mathlib.Omega.{arith}
use lib.ListN.{length, get_or, take, length-append, get_or-append}
use lib.Seq.{get_or-take, length-take-le}
use lib.Ieee.{Float, nan}
use Rattle.filter_table.specs.Table.{row_end, product, row_sum, applied, add_to, row_share, backed, Wf}
use Rattle.lists.proofs.Laws.{tabulate-same, fold_to-same, fold_over-same, sum_over-same}
use Rattle.filter_table.proofs.Laws.{row_end-within, wf-row, rises}

-- the second table begins with what the n rows of the first use
pub record Begins (starts near : List ℕ) (coef : List Float) (starts' near' : List ℕ) (coef' : List Float) (n : ℕ) : Type 0 where
  pub start : (e : ℕ) → e ≤ n → get_or starts' e 0 ≡ get_or starts e 0
  pub room : get_or starts n 0 ≤ length near'
  pub room-coef : get_or starts n 0 ≤ length coef'
  pub column : (k : ℕ) → k < get_or starts n 0 → get_or near' k 0 ≡ get_or near k 0
  pub number : (k : ℕ) → k < get_or starts n 0 → get_or coef' k nan ≡ get_or coef k nan

module _ (starts near : List ℕ) (coef : List Float) (starts' near' : List ℕ) (coef' : List Float) (n m : ℕ) (wf : Wf starts near coef n m) (begins : Begins starts near coef starts' near' coef' n) where
  -- a row of the first table ends alike in both
  ends-alike : (e : ℕ) → e < n → (row_end near coef (get_or starts e 0) (get_or starts (e + 1) 0) ≡ get_or starts (e + 1) 0) × (row_end near' coef' (get_or starts e 0) (get_or starts (e + 1) 0) ≡ get_or starts (e + 1) 0)
  ends-alike e h =
      let w = wf-row starts near coef n m wf e h in
      let u = rises starts near coef n m wf (e + 1) n (omega arith) (omega arith) in
      let r = begins.room in
      let s = begins.room-coef in
      (row_end-within near coef _ _ w.order w.room w.room-coef, row_end-within near' coef' _ _ w.order (omega arith) (omega arith))

  sum_alike : (x : List Float) (e : ℕ) → e < n → row_sum near' coef' x (get_or starts e 0) (get_or starts (e + 1) 0) ≡ row_sum near coef x (get_or starts e 0) (get_or starts (e + 1) 0)
  unfolding row_sum product
  sum_alike x e h =
      let q = ends-alike e h in
      let u = rises starts near coef n m wf (e + 1) n (omega arith) (omega arith) in
      rw (q.0, q.1) (sum_over-same (product near' coef' x) (product near coef x) _ _ (λ k l. rw (begins.number k (omega arith), begins.column k (omega arith))))

  share-alike : (v : Float) (out : List Float) (e : ℕ) → e < n → row_share near' coef' v (get_or starts e 0) (get_or starts (e + 1) 0) out ≡ row_share near coef v (get_or starts e 0) (get_or starts (e + 1) 0) out
  unfolding row_share add_to
  share-alike v out e h =
      let q = ends-alike e h in
      let u = rises starts near coef n m wf (e + 1) n (omega arith) (omega arith) in
      rw (q.0, q.1) (fold_over-same _ _ out _ _ (λ k l t. rw (begins.number k (omega arith), begins.column k (omega arith))))

  pub applied-longer : (x : List Float) → applied starts' near' coef' x n ≡ applied starts near coef x n
  unfolding applied
  applied-longer x = tabulate-same _ _ n (λ e h. rw (begins.start e (omega arith), begins.start (e + 1) (omega arith)) (sum_alike x e h))

  pub backed-longer : (g : List Float) (c : ℕ) → backed starts' near' coef' g n c ≡ backed starts near coef g n c
  unfolding backed
  backed-longer g c = fold_to-same _ _ _ n (λ e h out. rw (begins.start e (omega arith), begins.start (e + 1) (omega arith)) (share-alike _ out e h))

  pub wf-longer : n < length starts' → Wf starts' near' coef' n m
  wf-longer l =
      let s = begins.start n (omega arith) in
      let r = begins.room in
      let t = begins.room-coef in
      record {
        ends = l;
        rising = λ e h. rw (begins.start e (omega arith), begins.start (e + 1) (omega arith)) (wf.rising e h);
        room = omega arith;
        room-coef = omega arith;
        inside = λ k h. rw (begins.column k (omega arith)) (wf.inside k (omega arith));
      }

module _ (starts near : List ℕ) (coef : List Float) (n m : ℕ) (wf : Wf starts near coef n m) where
  -- lists with more after them
  pub begins-append : (s r : List ℕ) (c : List Float) → Begins starts near coef (starts ++ s) (near ++ r) (coef ++ c) n
  begins-append s r c =
      let l = wf.ends in
      let p = wf.room in
      let q = wf.room-coef in
      record {
        start = λ e h. get_or-append starts s 0 e (omega arith);
        room = simp length-append (omega arith);
        room-coef = simp length-append (omega arith);
        column = λ k h. get_or-append near r 0 k (omega arith);
        number = λ k h. get_or-append coef c nan k (omega arith);
      }

  -- their front parts
  pub begins-take : Begins starts near coef (take (n + 1) starts) (take (get_or starts n 0) near) (take (get_or starts n 0) coef) n
  begins-take =
      let p = length-take-le (get_or starts n 0) near wf.room in
      let q = length-take-le (get_or starts n 0) coef wf.room-coef in
      record {
        start = λ e h. get_or-take (n + 1) starts e 0 (omega arith);
        room = omega arith;
        room-coef = omega arith;
        column = λ k h. get_or-take (get_or starts n 0) near k 0 h;
        number = λ k h. get_or-take (get_or starts n 0) coef k nan h;
      }
