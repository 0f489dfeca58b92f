-- How near to one the weights of each row add up, and what one nudged element does to it: of the table by the definitions, and of what an accepted
-- build leaves. Assumes nothing.
use mathlib.Core.Path.{◌≡◌, refl, sym, ap, ◌∙◌}
use mathlib.Core.List.{List}
use Prim.Native.Nat.{ℕ, zero, suc, ◌+◌, ◌≤◌}
use native.Mathlib.Nat.{le_refl, le_of_eq}
use native.Mathlib.Omega.{arith}
use lib.Dec.{eqb}
use lib.ListN.{length, get_or}
use lib.Ieee.{Float, nan}
use borrow.Author.Tests.{ne_eqb}
use Rattle.lists.specs.Lists.{tabulate, choose}
use Rattle.lists.proofs.Laws.{get_or-tabulate, choose-false}
use Rattle.filter.specs.Filter.{neighbours, start, coefficients}
use Rattle.filter.specs.Build.{Lent, lengths_of, rows_refusal, early, outcome, Built}
use Rattle.lent.specs.Lent.{kept, zeroed, done, number_of}
use Rattle.filter_rows.proofs.Table.{length-coefficients}
use Rattle.filter_build.proofs.Laws.{roomy}
use Rattle.filter_build.proofs.Formed.{length-laid, get_or-laid, near-are, coef-are, start-at, near-at}
use Rattle.filter_shares.specs.Weights.{meetings, entries, RowsNearOne, DefinedNearOne, BuiltNearOne}
use Rattle.filter_shares.specs.Nudge.{DefinedMove, BuiltMove}
use Rattle.filter_shares.proofs.Meetings.{few-entries}
use Rattle.filter_shares.proofs.Weights.{near-one}
use Rattle.filter_shares.proofs.Rows.{Table, weight-sum-is}
use Rattle.filter_shares.proofs.Nudge.{rows-move}

-- an answer of 0 says that nothing is refused before the rows
none-early : (k r : ℕ) → number_of (choose (eqb k 0) (choose (eqb r 0) done (zeroed r)) (kept k)) ≡ 0 → k ≡ 0
none-early zero r h = refl
none-early (suc k) r h = absurd (let e : suc k ≡ 0 = sym (ap number_of (choose-false (eqb (suc k) 0) (choose (eqb r 0) done (zeroed r)) (kept (suc k)) (ne_eqb (suc k) 0 (λ q. omega arith)))) ∙ h in omega arith)

module _ (centroids : List (List Float)) (radius : Float) (planes : List (List Float)) (volumes : List Float) where
  -- any three lists that begin with the filter's table
  pub rows-near-one : (starts near : List ℕ) (coef : List Float) → Table centroids radius planes volumes starts near coef → RowsNearOne centroids radius planes volumes starts coef
  rows-near-one starts near coef t =
      record {
        by-meetings = λ e h p. rw (weight-sum-is centroids radius planes volumes starts near coef t e h)
            (near-one centroids radius planes e volumes (meetings centroids radius planes e) (few-entries centroids radius planes e) p);
        by-neighbours = λ e h p. rw (weight-sum-is centroids radius planes volumes starts near coef t e h)
            (near-one centroids radius planes e volumes (entries centroids radius planes e) (le_refl (entries centroids radius planes e)) p);
        fewer = few-entries centroids radius planes;
      }

  pub defined-table : Table centroids radius planes volumes (tabulate (start centroids radius planes) (length centroids + 1)) (neighbours centroids radius planes (length centroids))
      (coefficients centroids radius planes volumes (length centroids))
  unfolding start
  defined-table =
      record {
        begins = λ e h. get_or-tabulate (start centroids radius planes) (length centroids + 1) e 0 (omega arith);
        room = le_refl (start centroids radius planes (length centroids));
        room-coef = le_of_eq (sym (length-coefficients centroids radius planes volumes (length centroids)));
        column = λ k h. refl;
        number = λ k h. refl;
      }

  pub defined-near-one : DefinedNearOne centroids radius planes volumes
  defined-near-one = rows-near-one _ _ _ defined-table

  pub defined-move : DefinedMove centroids radius planes volumes
  defined-move = rows-move centroids radius planes volumes _ _ _ defined-table

  module _ (l l' : Lent) (b : Built centroids volumes radius planes l 0 l') where
    abbrev near : List ℕ
    near = neighbours centroids radius planes (length centroids)

    abbrev coef : List Float
    coef = coefficients centroids radius planes volumes (length centroids)

    pub built-table : Table centroids radius planes volumes l'.starts l'.near l'.coef
    unfolding start
    built-table =
        let many = length-coefficients centroids radius planes volumes (length centroids) in
        record {
          begins = start-at centroids volumes radius planes l l' b;
          room = let m = length-laid near l.near in let e = ap length (near-are centroids volumes radius planes l l' b) in omega arith;
          room-coef = let m = length-laid coef l.coef in let e = ap length (coef-are centroids volumes radius planes l l' b) in omega arith;
          column = near-at centroids volumes radius planes l l' b;
          number = λ k h. ap (λ (s : List Float). get_or s k nan) (coef-are centroids volumes radius planes l l' b) ∙ get_or-laid coef l.coef k nan (omega arith);
        }

    few : length centroids ≤ 65535
    unfolding outcome
    few =
        let e = none-early (early centroids volumes radius planes (lengths_of l)) (rows_refusal centroids radius planes (length l.near) (length l.coef) (length centroids)) (sym b.number) in
        let r = roomy centroids volumes radius planes (length l.starts) (record { cell = l.cell; order = l.order; first = l.first; sorted = l.sorted; stamp = l.stamp; weight = l.weight; found = l.found; bits = l.bits }) e in
        omega (arith, r.few)

  pub built-near-one : BuiltNearOne centroids radius planes volumes
  built-near-one l l' b = rows-near-one l'.starts l'.near l'.coef (built-table l l' b)

  pub built-move : BuiltMove centroids radius planes volumes
  built-move l l' b = rows-move centroids radius planes volumes l'.starts l'.near l'.coef (built-table l l' b) (few l l' b)
