-- What the lists hold before a row, after its elements are gathered and after it is settled, against the definition of the row. Assumes nothing.
use mathlib.Core.Path.{◌≡◌, refl, sym, ap, ◌∙◌}
use mathlib.Core.Bool.{Bool, true, false}
use mathlib.Core.List.{List, []}
use Prim.Native.Nat.{ℕ, zero, suc, ◌+◌, ◌≤◌, ◌<◌}
use native.Mathlib.Omega.{arith}
use lib.ListN.{length, get_or, set, replicate, length-replicate}
use borrow.Author.Tests.{ne_eqb}
use lib.Ieee.{Float, nan, binary64, add, mul, div}
use Rattle.lists.specs.Lists.{fold_to, sum_to, choose, zero64}
use Rattle.lists.proofs.Bools.{never}
use Rattle.lists.proofs.Laws.{fold_to-none, any_none, any-not, choose-false, sum_to-same}
use Rattle.filter_group.specs.Group.{members}
use Rattle.filter.specs.Filter.{chosen, counts, share, seen, met, weight, columns, product, row_sum, coefficient}
use Rattle.refusal.specs.Refusals.{number_of}
use Rattle.refusal.specs.declared.Refusal.{Refusal}
use Rattle.std.specs.Prelude.{Result, Ok, Err, MatchResult, IfOk}
use Rattle.filter.specs.declared.work.TableMut.{TableMut}
use Rattle.filter_look.specs.Steps.{stamped, Lists, Kept, Gathered}
use Rattle.filter_look.specs.declared.met.Met.{Met}
use Rattle.filter_entries.specs.Entries.{product_at, written, cleared}
use Rattle.filter_row.specs.Row.{Settled, Clean, Rowed}
use Rattle.filter_look.proofs.Chosen.{chosen-same, found_at, found-rising, found-has}
use Rattle.filter_entries.proofs.Writes.{cleared_else, cleared-there, get_or-zeros}

-- ---- before a row

none-chosen : (p : ℕ → Bool) (n : ℕ) → ((i : ℕ) → i < n → p i ≡ false) → chosen p n ≡ []
unfolding chosen
none-chosen p zero h = refl
none-chosen p (suc n) h = choose-false (p n) _ _ (h n (omega arith)) ∙ none-chosen p n (λ i b. h i (omega arith))

module _ (n e : ℕ) (m : Met) (c : Clean n e m) where
  unmarked : (i : ℕ) → i < n → stamped m.stamp.now (e + 1) i ≡ false
  unmarked i lt = ne_eqb (get_or m.stamp.now i 0) (e + 1) (λ q. omega (arith, c.most i lt))

  -- with the row's mark, no element is met yet
  abbrev pub begun : Met
  begun = record m { mark = e + 1; count = 0 }

  pub clean_lists : (cells : ℕ) → cells ≡ n → Lists cells begun
  clean_lists cells q =
      record {
        few = omega (arith, c.few);
        stamps = c.stamps ∙ sym q;
        weights = c.weights ∙ sym q;
        maps = c.maps;
        counted = sym (ap length (none-chosen (stamped m.stamp.now (e + 1)) (length m.stamp.now) (λ i b. unmarked i (omega (arith, c.stamps)))));
      }

  pub clean_gathered : (centroids : List (List Float)) (radius : Float) (planes : List (List Float)) → length centroids ≡ n → Gathered centroids radius planes e 0 begun
  clean_gathered centroids radius planes q =
      record {
        weights = λ i lt. c.zero i (omega arith) ∙ sym (fold_to-none _ zero64);
        stamps = λ i lt. unmarked i (omega arith) ∙ sym (any_none _);
        most = λ i lt. omega (arith, c.most i (omega arith));
      }

-- ---- after it is gathered

-- where no member counts, nothing is added
fold-none : (p : ℕ → Bool) (f : ℕ → Float → Float) (k : ℕ) → ((h : ℕ) → h < k → p h ≡ false) → fold_to (λ h w. choose (p h) (f h w) w) zero64 k ≡ zero64
unfolding fold_to
fold-none p f zero out = refl
fold-none p f (suc k) out = choose-false (p k) _ _ (out k (omega arith)) ∙ fold-none p f k (λ h b. out h (omega arith))

module _ (centroids : List (List Float)) (radius : Float) (planes : List (List Float)) (e : ℕ) where
  pub unmet-weight : (i : ℕ) → met centroids radius planes e i ≡ false → weight centroids radius planes e i ≡ zero64
  unfolding met weight
  unmet-weight i h =
      fold-none (λ g. counts centroids radius (seen centroids radius planes e g) i) (λ g w. add binary64 w (share centroids radius (seen centroids radius planes e g) i)) (members planes)
      (any-not (λ g. counts centroids radius (seen centroids radius planes e g) i) (members planes) h)

  module _ (m : Met) (mark : m.mark ≡ e + 1) (all : Gathered centroids radius planes e (members planes) m) (long : length m.stamp.now ≡ length centroids) where
    marks-are : (i : ℕ) → i < length centroids → stamped m.stamp.now m.mark i ≡ met centroids radius planes e i
    unfolding met
    marks-are i lt = all.stamps i lt

    weights-are : (i : ℕ) → i < length centroids → get_or m.weight.now i nan ≡ weight centroids radius planes e i
    unfolding weight
    weights-are i lt = all.weights i lt

    columns-are : chosen (stamped m.stamp.now m.mark) (length m.stamp.now) ≡ columns centroids radius planes e
    unfolding columns
    columns-are = ap (chosen (stamped m.stamp.now m.mark)) long ∙ chosen-same (stamped m.stamp.now m.mark) (met centroids radius planes e) (length centroids) marks-are

-- ---- after it is settled

written_same : {A : Type 0} (at : ℕ) (f h : ℕ → A) (count : ℕ) (l : List A) → ((k : ℕ) → k < count → f k ≡ h k) → written at f count l ≡ written at h count l
unfolding written fold_to
written_same at f h zero l same = refl
written_same {A} at f h (suc k) l same =
    let here : f k ≡ h k = same k (omega arith) in
    let rest : written at f k l ≡ written at h k l = written_same at f h k l (λ j b. same j (omega arith)) in
    λ i. set (rest i) (at + k) (here i)

module _ (centroids : List (List Float)) (radius : Float) (planes : List (List Float)) (volumes : List Float) (e at : ℕ) (m : Met) (t : TableMut) (number end : ℕ) (m' : Met) (t' : TableMut)
    (mark : m.mark ≡ e + 1) (all : Gathered centroids radius planes e (members planes) m) (l : Lists (length centroids) m) (s : Settled e at volumes m t number end m' t') where
  abbrev cols : List ℕ
  cols = columns centroids radius planes e

  pub many : m.count ≡ length cols
  many = l.counted ∙ ap length (columns-are centroids radius planes e m mark all l.stamps)

  module _ (ok : number ≡ 0) where
    abbrev found : List ℕ
    found = m'.found.now

    at-found : (k : ℕ) → k < m.count → get_or found k 0 ≡ get_or cols k 0
    at-found k lt =
        found_at (stamped m.stamp.now m.mark) (length m.stamp.now) found m.count (s.all ok) l.counted k lt
        ∙ ap (λ (c : List ℕ). get_or c k 0) (columns-are centroids radius planes e m mark all l.stamps)

    there : (k : ℕ) → k < m.count → get_or found k 0 < length centroids
    there k lt = omega (arith, l.stamps, (found-rising (stamped m.stamp.now m.mark) (length m.stamp.now) found m.count (s.all ok) l.counted).below k lt)

    product_is : (k : ℕ) → k < m.count → product_at found m.weight.now volumes k ≡ product centroids radius planes volumes e (get_or cols k 0)
    unfolding product
    product_is k lt =
        ap (λ (w : Float). mul binary64 w (get_or volumes (get_or found k 0) nan)) (weights-are centroids radius planes e m mark all l.stamps (get_or found k 0) (there k lt))
        ∙ ap (λ (i : ℕ). mul binary64 (weight centroids radius planes e i) (get_or volumes i nan)) (at-found k lt)

    sum_is : sum_to (product_at found m.weight.now volumes) m.count ≡ row_sum centroids radius planes volumes e
    unfolding row_sum
    sum_is = sum_to-same (product_at found m.weight.now volumes) (λ k. product centroids radius planes volumes e (get_or cols k 0)) m.count product_is ∙ ap (sum_to (λ k. product centroids radius planes volumes e (get_or cols k 0))) many

    nears-are : t'.near.now ≡ written at (λ k. get_or cols k 0) (length cols) t.near.now
    nears-are = s.nears ok ∙ written_same at (λ k. get_or found k 0) (λ k. get_or cols k 0) m.count t.near.now at-found ∙ ap (λ (n : ℕ). written at (λ k. get_or cols k 0) n t.near.now) many

    coefs-are : t'.coef.now ≡ written at (λ k. coefficient centroids radius planes volumes e (get_or cols k 0)) (length cols) t.coef.now
    coefs-are =
        s.coefs ok
        ∙ written_same at (λ k. div binary64 (product_at found m.weight.now volumes k) (sum_to (product_at found m.weight.now volumes) m.count)) (λ k. coefficient centroids radius planes volumes e (get_or cols k 0)) m.count t.coef.now
        (λ k lt. ap (λ (p : Float). div binary64 p (sum_to (product_at found m.weight.now volumes) m.count)) (product_is k lt) ∙ ap (div binary64 (product centroids radius planes volumes e (get_or cols k 0))) sum_is)
        ∙ ap (λ (n : ℕ). written at (λ k. coefficient centroids radius planes volumes e (get_or cols k 0)) n t.coef.now) many

    -- the weights that were used are zero again, and no others were not
    zero-again : (i : ℕ) → i < length centroids → get_or m'.weight.now i nan ≡ zero64
    zero-again i lt = ap (λ (w : List Float). get_or w i nan) (s.weights ok) ∙ go (stamped m.stamp.now m.mark i) refl
      where
        go : (b : Bool) → stamped m.stamp.now m.mark i ≡ b → get_or (cleared found m.count m.weight.now) i nan ≡ zero64
        go true h =
            let f = found-has (stamped m.stamp.now m.mark) (length m.stamp.now) found m.count (s.all ok) l.counted i (omega (arith, l.stamps)) h in
            rw (sym f.2) (cleared-there found m.count m.weight.now f.0 nan f.1 (omega (arith, f.2, l.weights)))
        go false h =
            cleared_else found m.count m.weight.now i nan (λ j b q. never ((found-rising (stamped m.stamp.now m.mark) (length m.stamp.now) found m.count (s.all ok) l.counted).picked j b) (ap (stamped m.stamp.now m.mark) (sym q) ∙ h))
            ∙ weights-are centroids radius planes e m mark all l.stamps i lt
            ∙ unmet-weight centroids radius planes e i (sym (marks-are centroids radius planes e m mark all l.stamps i lt) ∙ h)

    pub row_clean : length centroids ≤ length m.found.now → Kept m m' → Clean (length centroids) (e + 1) m'
    row_clean room k =
        record {
          few = l.few;
          stamps = k.stamps ∙ l.stamps;
          weights = k.weights ∙ l.weights;
          maps = omega (arith, l.maps, k.maps);
          founds = omega (arith, room, k.founds);
          zero = zero-again;
          most = λ i lt. omega (arith, all.most i lt, ap (λ (w : List ℕ). get_or w i 0) s.stamps);
        }

  pub row_rowed : Rowed centroids radius planes volumes e at t number end t'
  row_rowed = record { ends = s.ends ∙ ap (λ (n : ℕ). at + n) many; numbers = s.numbers; starts = s.starts; nears = nears-are; coefs = coefs-are }

-- ---- by what a settling tells

module _ (centroids : List (List Float)) (radius : Float) (planes : List (List Float)) (volumes : List Float) (e at : ℕ) (m : Met) (t : TableMut) (r : Result ℕ Refusal) (m' : Met) (t' : TableMut)
    (mark : m.mark ≡ e + 1) (all : Gathered centroids radius planes e (members planes) m) (l : Lists (length centroids) m)
    (s : MatchResult r (λ end. Settled e at volumes m t 0 end m' t') (λ k. Settled e at volumes m t (number_of k) (at + m.count) m' t')) where
  pub rowed_by : MatchResult r (λ end. Rowed centroids radius planes volumes e at t 0 end t') (λ k. Rowed centroids radius planes volumes e at t (number_of k) (at + length (columns centroids radius planes e)) t')
  rowed_by = elim r as (λ r. MatchResult r (λ end. Settled e at volumes m t 0 end m' t') (λ k. Settled e at volumes m t (number_of k) (at + m.count) m' t')
      → MatchResult r (λ end. Rowed centroids radius planes volumes e at t 0 end t') (λ k. Rowed centroids radius planes volumes e at t (number_of k) (at + length (columns centroids radius planes e)) t')) [
        | Ok end ↦ λ s. row_rowed centroids radius planes volumes e at m t 0 end m' t' mark all l s
        | Err k ↦ λ s. let is : at + m.count ≡ at + length (columns centroids radius planes e) = ap (λ (n : ℕ). at + n) (many centroids radius planes volumes e at m t (number_of k) (at + m.count) m' t' mark all l s) in
            rw is at (row_rowed centroids radius planes volumes e at m t (number_of k) (at + m.count) m' t' mark all l s)
      ] s

  pub clean_by : length centroids ≤ length m.found.now → Kept m m' → IfOk r (λ _. Clean (length centroids) (e + 1) m')
  clean_by room kept = elim r as (λ r. MatchResult r (λ end. Settled e at volumes m t 0 end m' t') (λ k. Settled e at volumes m t (number_of k) (at + m.count) m' t') → IfOk r (λ _. Clean (length centroids) (e + 1) m'))
      [ Ok end ↦ λ s. row_clean centroids radius planes volumes e at m t 0 end m' t' mark all l s refl room kept | Err k ↦ λ s. tt ] s

-- lists of zeros are clean
pub clean : (n : ℕ) (m : Met) (stamp₀ : List ℕ) (weight₀ : List Float) → n < 65536 → length stamp₀ ≡ n → length weight₀ ≡ n → 1040 ≤ length m.bits.now → n ≤ length m.found.now
    → m.stamp.now ≡ replicate (length stamp₀) 0 → m.weight.now ≡ replicate (length weight₀) zero64 → Clean n 0 m
clean n m stamp₀ weight₀ few sn wn maps founds se we =
    record {
      few = few;
      stamps = ap length se ∙ length-replicate (length stamp₀) 0 ∙ sn;
      weights = ap length we ∙ length-replicate (length weight₀) zero64 ∙ wn;
      maps = maps;
      founds = founds;
      zero = λ i lt. get_or-zeros zero64 nan (length weight₀) m.weight.now i we (omega arith);
      most = λ i lt. omega (arith, get_or-zeros 0 0 (length stamp₀) m.stamp.now i se (omega arith));
    }
