-- The rows, one laid after the other: the three lists after one row more, and the first row's refusal. Assumes nothing.
use mathlib.Core.Path.{◌≡◌, refl, sym, ap, ◌∙◌}
use mathlib.Core.List.{List, [], ◌∷◌, ◌++◌, map, append_assoc}
use Prim.Native.Nat.{ℕ, zero, suc, ◌+◌, ◌-◌, ◌*◌, ◌≤◌, ◌<◌}
use native.Mathlib.Nat.{add-zero}
use native.Mathlib.Numerals.{add-one}
use native.Mathlib.Omega.{arith}
use lib.ListN.{length, get_or, set, drop, length-set, length-append, length-drop}
use lib.Seq.{drop-cons, set-append_seam, append_snoc}
use lib.Dec.{eqb}
use borrow.Author.Tests.{eq-eqb, ne_eqb}
use lib.Ieee.{Float}
use Rattle.lists.specs.Lists.{tabulate, overwrite, fold_to, overlay}
use Rattle.lists.proofs.Laws.{choose-true, choose-false, length-tabulate, overwrite-more, overwrite-set}
use Rattle.filter.specs.Filter.{joined, columns, neighbours, start, coefficient, coefficients}
use Rattle.filter.specs.Build.{too_big, too_short, row_refusal, rows_refusal}
use Rattle.filter.specs.Steps.{room_refusal}
use Rattle.filter_entries.specs.Entries.{written}
use Rattle.filter.specs.Held.{SameTable}
use Rattle.filter.specs.declared.work.TableMut.{TableMut}
use Rattle.filter_row.specs.Row.{Rowed}
use Rattle.filter_rows.specs.Steps.{Filled}
use Rattle.filter_row.proofs.Room.{has_room}

-- ---- what is written from the end of what was laid is laid after it

tabulate_snoc : {A : Type 0} (f : ℕ → A) (n : ℕ) → tabulate f (suc n) ≡ tabulate f n ++ (f n ∷ [])
unfolding tabulate
tabulate_snoc f zero = refl
tabulate_snoc {A} f (suc n) = ap (λ (l : List A). f zero ∷ l) (tabulate_snoc (λ k. f (suc k)) n)

module _ {A : Type 0} (old : List A) where
  -- one place more
  laid_more : (pre : List A) (v : A) → length pre < length old → set (overlay pre old) (length pre) v ≡ overlay (pre ++ (v ∷ [])) old
  unfolding overlay
  laid_more pre v lt =
      ap (λ (r : List A). set (pre ++ r) (length pre) v) (drop-cons old (length pre) v lt)
      ∙ set-append_seam pre (get_or old (length pre) v) (drop (suc (length pre)) old) v
      ∙ sym (append_snoc pre v (drop (suc (length pre)) old))
      ∙ ap (λ (k : ℕ). (pre ++ (v ∷ [])) ++ drop k old) (sym (length-append pre (v ∷ []) ∙ add-one (length pre)))

  pub laid-written : (pre : List A) (f : ℕ → A) (count : ℕ) → length pre + count ≤ length old → written (length pre) f count (overlay pre old) ≡ overlay (pre ++ tabulate f count) old
  unfolding written fold_to tabulate
  laid-written pre f zero fit = ap (λ (l : List A). overlay l old) (sym (append_nil pre))
    where
      append_nil : (l : List A) → l ++ [] ≡ l
      append_nil [] = refl
      append_nil (x ∷ l) = ap (λ (r : List A). x ∷ r) (append_nil l)
  laid-written pre f (suc n) fit =
      let p = pre ++ tabulate f n in
      let e : length pre + n ≡ length p = sym (length-append pre (tabulate f n) ∙ ap (λ (k : ℕ). length pre + k) (length-tabulate f n)) in
      ap (λ (l : List A). set l (length pre + n) (f n)) (laid-written pre f n (omega arith))
      ∙ ap (λ (k : ℕ). set (overlay p old) k (f n)) e ∙ laid_more p (f n) (omega arith)
      ∙ ap (λ (l : List A). overlay l old) (append_assoc pre (tabulate f n) (f n ∷ []) ∙ ap (λ (l : List A). pre ++ l) (sym (tabulate_snoc f n)))

  pub length-laid : (pre : List A) → length pre ≤ length old → length (overlay pre old) ≡ length old
  unfolding overlay
  length-laid pre le = length-append pre (drop (length pre) old) ∙ ap (λ (k : ℕ). length pre + k) (length-drop (length pre) old) ∙ omega arith

  pub laid_none : old ≡ overlay [] old
  unfolding overlay
  laid_none = refl

-- a list by its own places, and another through them
tabulate-own : {A B : Type 0} (f : A → B) (l : List A) (d : A) → tabulate (λ k. f (get_or l k d)) (length l) ≡ map f l
unfolding tabulate
tabulate-own f [] d = refl
tabulate-own {A} {B} f (x ∷ l) d = ap (λ (r : List B). f x ∷ r) (tabulate-own f l d)

map-own : {A : Type 0} (l : List A) → map (λ x. x) l ≡ l
map-own [] = refl
map-own {A} (x ∷ l) = ap (λ (r : List A). x ∷ r) (map-own l)

length-map : {A B : Type 0} (f : A → B) (l : List A) → length (map f l) ≡ length l
length-map f [] = refl
length-map f (x ∷ l) = ap suc (length-map f l)

-- ---- one row more

module _ (centroids : List (List Float)) (radius : Float) (planes : List (List Float)) where
  abbrev cols : ℕ → List ℕ
  cols e = columns centroids radius planes e

  pub start_none : start centroids radius planes 0 ≡ 0
  unfolding start neighbours joined
  start_none = refl

  pub start-more : (e : ℕ) → start centroids radius planes (e + 1) ≡ start centroids radius planes e + length (cols e)
  unfolding start neighbours joined
  start-more e = rw add-one (length-append (neighbours centroids radius planes e) (cols e))

  pub neighbours-none : neighbours centroids radius planes 0 ≡ []
  unfolding neighbours joined
  neighbours-none = refl

  neighbours-more : (e : ℕ) → neighbours centroids radius planes (e + 1) ≡ neighbours centroids radius planes e ++ cols e
  unfolding neighbours joined
  neighbours-more e = rw add-one

  pub near-more : (e : ℕ) (near₀ near near' : List ℕ) → start centroids radius planes e + length (cols e) ≤ length near₀
      → near ≡ overlay (neighbours centroids radius planes e) near₀ → near' ≡ written (start centroids radius planes e) (λ k. get_or (cols e) k 0) (length (cols e)) near
      → near' ≡ overlay (neighbours centroids radius planes (e + 1)) near₀
  unfolding start
  near-more e near₀ near near' fit is new =
      new ∙ ap (written (length (neighbours centroids radius planes e)) (λ k. get_or (cols e) k 0) (length (cols e))) is
      ∙ laid-written near₀ (neighbours centroids radius planes e) (λ k. get_or (cols e) k 0) (length (cols e)) fit
      ∙ ap (λ (l : List ℕ). overlay (neighbours centroids radius planes e ++ l) near₀) (tabulate-own (λ x. x) (cols e) 0 ∙ map-own (cols e))
      ∙ ap (λ (l : List ℕ). overlay l near₀) (sym (neighbours-more e))

  module _ (volumes : List Float) where
    abbrev coefs : ℕ → List Float
    coefs e = coefficients centroids radius planes volumes e

    pub coefficients-none : coefs 0 ≡ []
    unfolding coefficients joined
    coefficients-none = refl

    coefficients-more : (e : ℕ) → coefs (e + 1) ≡ coefs e ++ map (coefficient centroids radius planes volumes e) (cols e)
    unfolding coefficients joined
    coefficients-more e = rw add-one

    -- as many coefficients as neighbours
    pub length-coefficients : (e : ℕ) → length (coefs e) ≡ start centroids radius planes e
    unfolding coefficients start neighbours joined
    length-coefficients zero = refl
    length-coefficients (suc e) =
        length-append (coefs e) (map (coefficient centroids radius planes volumes e) (cols e))
        ∙ ap (λ (k : ℕ). k + length (map (coefficient centroids radius planes volumes e) (cols e))) (length-coefficients e)
        ∙ ap (λ (k : ℕ). start centroids radius planes e + k) (length-map (coefficient centroids radius planes volumes e) (cols e))
        ∙ sym (length-append (neighbours centroids radius planes e) (cols e))

    pub coef-more : (e : ℕ) (coef₀ coef coef' : List Float) → start centroids radius planes e + length (cols e) ≤ length coef₀
        → coef ≡ overlay (coefs e) coef₀ → coef' ≡ written (start centroids radius planes e) (λ k. coefficient centroids radius planes volumes e (get_or (cols e) k 0)) (length (cols e)) coef
        → coef' ≡ overlay (coefs (e + 1)) coef₀
    coef-more e coef₀ coef coef' fit is new =
        let f : ℕ → Float = λ k. coefficient centroids radius planes volumes e (get_or (cols e) k 0) in
        new ∙ ap (written (start centroids radius planes e) f (length (cols e))) is
        ∙ ap (λ (at : ℕ). written at f (length (cols e)) (overlay (coefs e) coef₀)) (sym (length-coefficients e))
        ∙ laid-written coef₀ (coefs e) f (length (cols e)) (omega (arith, length-coefficients e))
        ∙ ap (λ (l : List Float). overlay (coefs e ++ l) coef₀) (tabulate-own (coefficient centroids radius planes volumes e) (cols e) 0)
        ∙ ap (λ (l : List Float). overlay l coef₀) (sym (coefficients-more e))

  -- ---- refusals

  pub row-refusal : (nears coefs' e end : ℕ) → end ≡ start centroids radius planes (e + 1) → room_refusal e end nears coefs' ≡ row_refusal centroids radius planes nears coefs' e
  unfolding row_refusal too_big too_short
  row-refusal nears coefs' e end q = rw q

  module _ (nears coefs' : ℕ) where
    abbrev refusal : ℕ → ℕ
    refusal n = rows_refusal centroids radius planes nears coefs' n

    pub refusal-none : refusal 0 ≡ 0
    unfolding rows_refusal fold_to
    refusal-none = refl

    pub refusal-more : (e r : ℕ) → refusal e ≡ 0 → r ≡ row_refusal centroids radius planes nears coefs' e → refusal (e + 1) ≡ r
    unfolding rows_refusal fold_to
    refusal-more e r none is = rw add-one (choose-true (eqb (refusal e) 0) _ _ (eq-eqb (refusal e) 0 none) ∙ sym is)

    -- a row's refusal is that of all
    pub refusal-stays : (e r : ℕ) → 0 < r → refusal e ≡ r → (more : ℕ) → refusal (e + more) ≡ r
    unfolding rows_refusal fold_to
    refusal-stays e r some is zero = rw (add-zero e) is
    refusal-stays e r some is (suc m) =
        let rest : refusal (e + m) ≡ r = refusal-stays e r some is m in
        let s : e + suc m ≡ suc (e + m) = omega arith in
        rw s (choose-false (eqb (refusal (e + m)) 0) _ _ (ne_eqb (refusal (e + m)) 0 (λ q. omega arith)) ∙ rest)

-- ---- the first place of a list that is written from the front

pub overwrite-first : {A : Type 0} (f : ℕ → A) (l : List A) (x : A) → x ≡ f 0 → set l 0 x ≡ overwrite f 1 (set l 0 x)
unfolding overwrite
overwrite-first f [] x e = refl
overwrite-first {A} f (y ∷ l) x e = ap (λ (v : A). v ∷ l) e

-- ---- the table so far: the rows below e are laid, and none was refused

pub record Laid (centroids : List (List Float)) (radius : Float) (planes : List (List Float)) (volumes : List Float) (starts₀ near₀ : List ℕ) (coef₀ : List Float) (e at : ℕ) (starts near : List ℕ) (coef : List Float) : Type 0 where
  pub at-is : at ≡ start centroids radius planes e
  pub small : at < 2147483648
  pub none : rows_refusal centroids radius planes (length near₀) (length coef₀) e ≡ 0
  pub begins : starts ≡ overwrite (start centroids radius planes) (e + 1) starts₀
  pub nears : near ≡ overlay (neighbours centroids radius planes e) near₀
  pub coefs : coef ≡ overlay (coefficients centroids radius planes volumes e) coef₀
  pub many-starts : length starts ≡ length starts₀
  pub many-nears : length near ≡ length near₀
  pub many-coefs : length coef ≡ length coef₀

module _ (centroids : List (List Float)) (radius : Float) (planes : List (List Float)) (volumes : List Float) where
  pub laid-first : (lent near : List ℕ) (coef : List Float) → Laid centroids radius planes volumes (set lent 0 0) near coef 0 0 (set lent 0 0) near coef
  laid-first lent near coef =
      record {
        at-is = sym (start_none centroids radius planes);
        small = omega arith;
        none = refusal-none centroids radius planes (length near) (length coef);
        begins = overwrite-first (start centroids radius planes) lent 0 (sym (start_none centroids radius planes));
        nears = laid_none near ∙ ap (λ (l : List ℕ). overlay l near) (sym (neighbours-none centroids radius planes));
        coefs = laid_none coef ∙ ap (λ (l : List Float). overlay l coef) (sym (coefficients-none centroids radius planes volumes));
        many-starts = refl;
        many-nears = refl;
        many-coefs = refl;
      }

  module _ (starts₀ near₀ : List ℕ) (coef₀ : List Float) (e at : ℕ) (t : TableMut) (l : Laid centroids radius planes volumes starts₀ near₀ coef₀ e at t.starts.now t.near.now t.coef.now)
      (number end : ℕ) (t' : TableMut) (r : Rowed centroids radius planes volumes e at t number end t') where
    end_is : end ≡ start centroids radius planes (e + 1)
    end_is = r.ends ∙ ap (λ (k : ℕ). k + length (columns centroids radius planes e)) l.at-is ∙ sym (start-more centroids radius planes e)

    room-is : number ≡ room_refusal e end (length near₀) (length coef₀)
    room-is = r.numbers ∙ ap (λ (k : ℕ). room_refusal e end k (length t.coef.now)) l.many-nears ∙ ap (room_refusal e end (length near₀)) l.many-coefs

    refused : rows_refusal centroids radius planes (length near₀) (length coef₀) (e + 1) ≡ number
    refused = refusal-more centroids radius planes (length near₀) (length coef₀) e number l.none (room-is ∙ row-refusal centroids radius planes (length near₀) (length coef₀) e end end_is)

    pub laid-refused : (n : ℕ) → e < n → 0 < number → number ≡ rows_refusal centroids radius planes (length near₀) (length coef₀) n
    laid-refused n lt some =
        sym (rw more at (refusal-stays centroids radius planes (length near₀) (length coef₀) (e + 1) number some refused (n - (e + 1))))
      where
        more : e + 1 + (n - (e + 1)) ≡ n
        more = omega arith

    module _ (ok : number ≡ 0) where
      fits : (4 * (e + 2) + 12 * end ≤ 536870912) × (end ≤ length near₀) × (end ≤ length coef₀)
      fits = has_room e end (length near₀) (length coef₀) (sym room-is ∙ ok)

      pub end-small : end < 2147483648
      end-small = omega (arith, fits.0)

      pub laid_next : e + 1 < length starts₀ → SameTable t t' → Laid centroids radius planes volumes starts₀ near₀ coef₀ (e + 1) end (set t'.starts.now (e + 1) end) t'.near.now t'.coef.now
      laid_next lt same =
          record {
            at-is = end_is;
            small = end-small;
            none = refused ∙ ok;
            begins =
                ap (λ (s : List ℕ). set s (e + 1) end) (r.starts ∙ l.begins) ∙ ap (set (overwrite (start centroids radius planes) (e + 1) starts₀) (e + 1)) end_is
                ∙ overwrite-more (start centroids radius planes) (e + 1) starts₀ lt;
            nears =
                near-more centroids radius planes e near₀ t.near.now t'.near.now (omega (arith, fits.1, r.ends, l.at-is)) l.nears
                (r.nears ok ∙ ap (λ (k : ℕ). written k (λ j. get_or (columns centroids radius planes e) j 0) (length (columns centroids radius planes e)) t.near.now) l.at-is);
            coefs =
                coef-more centroids radius planes volumes e coef₀ t.coef.now t'.coef.now (omega (arith, fits.2, r.ends, l.at-is)) l.coefs
                (r.coefs ok ∙ ap (λ (k : ℕ). written k (λ j. coefficient centroids radius planes volumes e (get_or (columns centroids radius planes e) j 0)) (length (columns centroids radius planes e)) t.coef.now) l.at-is);
            many-starts = length-set t'.starts.now (e + 1) end ∙ same.starts-long ∙ l.many-starts;
            many-nears = same.near-long ∙ l.many-nears;
            many-coefs = same.coef-long ∙ l.many-coefs;
          }

  -- a row is refused, and so are all
  pub filled-refused : (t₀ : TableMut) (e at : ℕ) (t : TableMut) (l : Laid centroids radius planes volumes (set t₀.starts.now 0 0) t₀.near.now t₀.coef.now e at t.starts.now t.near.now t.coef.now)
      (number end : ℕ) (t' : TableMut) (r : Rowed centroids radius planes volumes e at t number end t') → e < length centroids → 0 < number → Filled centroids radius planes volumes t₀ number t'
  filled-refused t₀ e at t l number end t' r lt some =
      record {
        numbers = laid-refused (set t₀.starts.now 0 0) t₀.near.now t₀.coef.now e at t l number end t' r (length centroids) lt some;
        begins = λ q. absurd (omega arith);
        nears = λ q. absurd (omega arith);
        coefs = λ q. absurd (omega arith);
      }

  pub filled-all : (t₀ : TableMut) (n at : ℕ) (t : TableMut) → n ≡ length centroids
      → Laid centroids radius planes volumes (set t₀.starts.now 0 0) t₀.near.now t₀.coef.now n at t.starts.now t.near.now t.coef.now → Filled centroids radius planes volumes t₀ 0 t
  filled-all t₀ n at t e l =
      let k = rw e at l in
      record { numbers = sym k.none; begins = λ _. k.begins ∙ overwrite-set (start centroids radius planes) (length centroids + 1) t₀.starts.now 0 0 (omega arith); nears = λ _. k.nears; coefs = λ _. k.coefs }
