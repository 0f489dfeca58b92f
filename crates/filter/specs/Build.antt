-- What a build of the table hands back: rows 1 to 4 and 8 to 14 of 01's "What a refusal hands back". Definitions only.
use Rattle.std.specs.Prelude.{◌≡◌, Bool, not, ◌||◌, List, [], ◌∷◌, ◌++◌, ℕ, suc, ◌+◌, ◌*◌, length, eqb, Float}
use Rattle.std.proofs.Math.Dec.{ltb}
use Rattle.lists.specs.Lists.{tabulate, fold_to, choose, zero64}
use Rattle.lent.specs.Domain.{too_many_elements, points_bad, volumes_bad, radius_bad}
use Rattle.lent.specs.Refusals.{Test, first_of}
use Rattle.lent.specs.Lent.{Outcome, kept, zeroed, done, number_of, left, Worked, short}
use Rattle.filter_group.specs.Group.{planes_bad, planes_skew}
use Rattle.filter.specs.Filter.{start, neighbours, coefficients}

-- the lists that a build is lent: the three filter lists, then those it works in
pub record Lent : Type 0 where
  pub starts : List ℕ
  pub near : List ℕ
  pub coef : List Float
  pub cell : List (List ℕ)
  pub order : List ℕ
  pub first : List ℕ
  pub sorted : List (List Float)
  pub stamp : List ℕ
  pub weight : List Float
  pub found : List ℕ
  pub bits : List ℕ

-- how many places are needed of the working lists, which are those from `cell` on: "working lists as docs/ fixes them"
abbrev pub words : ℕ
words = 1040

abbrev pub work_needed : ℕ → List ℕ
work_needed n = n ∷ n ∷ suc n ∷ n ∷ n ∷ n ∷ n ∷ words ∷ []

-- and with them of `starts`: "one place an element, one more for row starts"; `near` and `coef` are looked at row by row
abbrev pub needed : ℕ → List ℕ
needed n = suc n ∷ work_needed n

-- the working lists alone, and how long they are
pub record Working : Type 0 where
  pub cell : List (List ℕ)
  pub order : List ℕ
  pub first : List ℕ
  pub sorted : List (List Float)
  pub stamp : List ℕ
  pub weight : List Float
  pub found : List ℕ
  pub bits : List ℕ

abbrev pub work_lengths : Working → List ℕ
work_lengths w = length w.cell ∷ length w.order ∷ length w.first ∷ length w.sorted ∷ length w.stamp ∷ length w.weight ∷ length w.found ∷ length w.bits ∷ []

abbrev pub lengths_of : Lent → List ℕ
lengths_of l =
    length l.starts ∷ length l.cell ∷ length l.order ∷ length l.first ∷ length l.sorted ∷ length l.stamp ∷ length l.weight ∷ length l.found ∷ length l.bits ∷ []

module _ (centroids : List (List Float)) (radius : Float) (planes : List (List Float)) where
  -- 13: "at row e (from 0) 4·(e+2) + 12·entries > 536,870,912, entries counted over rows 0 to e"
  unfoldable pub too_big : ℕ → Bool
  unfolding start
  too_big e = ltb 536870912 (4 * (e + 2) + 12 * start centroids radius planes (e + 1))

  -- 14: "a row's end for neighbours and weights", of which lists there are so many places
  unfoldable pub too_short : ℕ → ℕ → ℕ → Bool
  unfolding start
  too_short nears coefs e = ltb nears (start centroids radius planes (e + 1)) || ltb coefs (start centroids radius planes (e + 1))

  -- "in each filter row 13 goes before 14"
  unfoldable pub row_refusal : ℕ → ℕ → ℕ → ℕ
  unfolding choose too_big too_short
  row_refusal nears coefs e = choose (too_big e) 13 (choose (too_short nears coefs e) 14 0)

  -- that of the first of n rows that has one
  unfoldable pub rows_refusal : ℕ → ℕ → ℕ → ℕ
  unfolding fold_to choose row_refusal
  rows_refusal nears coefs n = fold_to (λ e r. choose (eqb r 0) (row_refusal nears coefs e) r) 0 n

-- 1 to 4, of n elements whose lists differ in count or do not
abbrev pub count_tests : Bool → ℕ → List Float → List Test
count_tests differ n volumes = (differ, 1) ∷ (eqb n 0, 2) ∷ (too_many_elements n, 3) ∷ (volumes_bad volumes, 4) ∷ []

-- 8 to 12, and after them the first 14
abbrev pub filter_tests : List (List Float) → Float → List (List Float) → Bool → List Test
filter_tests centroids radius planes short =
    (radius_bad radius, 8) ∷ (points_bad centroids, 9) ∷ (ltb 3 (length planes), 10) ∷ (planes_bad planes, 11) ∷ (planes_skew planes, 12) ∷ (short, 14) ∷ []

module _ (centroids : List (List Float)) (volumes : List Float) (radius : Float) (planes : List (List Float)) where
  -- what is refused before any row, 0 for none, of lists that are so long: "1 to 13 in order, but the first 14 comes after 12".
  -- A build has no share, rounds or held marks: no 5, 6, 7
  unfoldable pub early : List ℕ → ℕ
  early lengths =
      first_of
      (count_tests (not (eqb (length volumes) (length centroids))) (length centroids) volumes
      ++ filter_tests centroids radius planes (short lengths (needed (length centroids))))

module _ (centroids : List (List Float)) (volumes : List Float) (radius : Float) (planes : List (List Float)) (l : Lent) where
  unfoldable pub outcome : Outcome
  unfolding choose rows_refusal
  outcome =
      let before = early centroids volumes radius planes (lengths_of l) in
      let rows = rows_refusal centroids radius planes (length l.near) (length l.coef) (length centroids) in
      choose (eqb before 0) (choose (eqb rows 0) done (zeroed rows)) (kept before)

  -- what a build answers, and what it leaves in the lists
  pub record Built (answer : ℕ) (l' : Lent) : Type 0 where
    pub number : answer ≡ number_of outcome
    pub starts : l'.starts ≡ left outcome (tabulate (start centroids radius planes) (length centroids + 1)) 0 l.starts
    pub near : l'.near ≡ left outcome (neighbours centroids radius planes (length centroids)) 0 l.near
    pub coef : l'.coef ≡ left outcome (coefficients centroids radius planes volumes (length centroids)) zero64 l.coef
    pub cell : Worked outcome (length centroids) (0 ∷ 0 ∷ 0 ∷ []) l.cell l'.cell
    pub order : Worked outcome (length centroids) 0 l.order l'.order
    pub first : Worked outcome (length centroids + 1) 0 l.first l'.first
    pub sorted : Worked outcome (length centroids) (zero64 ∷ zero64 ∷ zero64 ∷ []) l.sorted l'.sorted
    pub stamp : Worked outcome (length centroids) 0 l.stamp l'.stamp
    pub weight : Worked outcome (length centroids) zero64 l.weight l'.weight
    pub found : Worked outcome (length centroids) 0 l.found l'.found
    pub bits : Worked outcome words 0 l.bits l'.bits
