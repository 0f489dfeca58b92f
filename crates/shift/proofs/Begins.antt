-- A shift as it begins: it passes 20's test, and nothing is counted. Assumes nothing.
use mathlib.Core.Path.{◌≡◌, refl, sym, ap, subst, ◌∙◌}
use mathlib.Core.Bool.{Bool, true, false}
use mathlib.Core.List.{List, []}
use mathlib.Core.Logic.{⊎_elim}
use Prim.Native.Nat.{ℕ, ◌≤◌, ◌<◌}
use native.Mathlib.Omega.{arith}
use lib.Dec.{ltb}
use lib.ListN.{length, get_or, replicate, get_or-replicate, get_or-eq_default}
use borrow.Author.Tests.{lt-ltb, le-ltb}
use lib.Seq.{ext_get_or}
use Rattle.lists.specs.Lists.{tabulate, overwrite}
use Rattle.lists.proofs.Laws.{length-tabulate, get_or-tabulate, length-overwrite, get_or-overwrite-below, get_or-overwrite-above, choose-true, choose-false}
use Rattle.lists.proofs.Bools.{le-or-lt}
use Rattle.shift.specs.declared.Shift.{Shift}
use Rattle.shift.specs.declared.ShiftBegun.{ShiftBegun}
use Rattle.shift.specs.Grants.{share_at, limit_at, granted_at, share_of, limit_of, unfit_jobs, fresh, no_shift, begin_of, wrong_numbers, wrong_at}
use Rattle.shift.proofs.Sums.{sum-zero}
use Rattle.shift.proofs.Tests.{in-range, Fit, fit, passing, right-first}
use Rattle.shift.proofs.Calls.{Running}

pub record Begun (s : Shift) : Type 0 where
  pub running : Running s
  pub nothing : (j : ℕ) → granted_at s j ≡ 0
  pub shares : (j : ℕ) → j < s.jobs → 1 ≤ share_at s j
  pub few : s.jobs ≤ 16

zeros : (j : ℕ) → get_or {A = ℕ} (replicate 16 0) j 0 ≡ 0
zeros j = ⊎_elim (λ (h : 16 ≤ j). get_or-eq_default (replicate 16 0) 0 h) (λ (h : j < 16). get_or-replicate 16 j 0 0 h) (le-or-lt 16 j)

-- what is written before the end of the jobs is all
pub filled_up : (f : ℕ → ℕ) (n : ℕ) → n ≤ 16 → ((k : ℕ) → n ≤ k → f k ≡ 0) → overwrite f n (replicate 16 0) ≡ tabulate f 16
filled_up f n few past =
    ext_get_or 0 (overwrite f n (replicate 16 0)) (tabulate f 16) (length-overwrite f n (replicate 16 0) ∙ sym (length-tabulate f 16)) (λ k h. at k (omega (arith, length-overwrite f n (replicate 16 0))))
  where
    at : (k : ℕ) → k < 16 → get_or (overwrite f n (replicate 16 0)) k 0 ≡ get_or (tabulate f 16) k 0
    at k h =
        ⊎_elim
        (λ (p : n ≤ k). get_or-overwrite-above f n (replicate 16 0) k 0 p ∙ zeros k ∙ sym (get_or-tabulate f 16 k 0 h ∙ past k p))
        (λ (p : k < n). get_or-overwrite-below f n (replicate 16 0) k 0 p h ∙ sym (get_or-tabulate f 16 k 0 h))
        (le-or-lt n k)

pub share_past : (jobs : List (List ℕ)) (k : ℕ) → length jobs ≤ k → share_of jobs k ≡ 0
unfolding share_of
share_past jobs k h = rw (get_or-eq_default jobs [] h)

pub limit_past : (jobs : List (List ℕ)) (k : ℕ) → length jobs ≤ k → limit_of jobs k ≡ 0
unfolding limit_of
limit_past jobs k h = rw (get_or-eq_default jobs [] h)

module _ (jobs : List (List ℕ)) (f : Fit jobs) where
  share-is : (j : ℕ) → j < 16 → share_at (fresh jobs) j ≡ share_of jobs j
  unfolding fresh
  share-is j h = get_or-tabulate (share_of jobs) 16 j 0 h

  limit_is : (j : ℕ) → j < 16 → limit_at (fresh jobs) j ≡ limit_of jobs j
  unfolding fresh
  limit_is j h = get_or-tabulate (limit_of jobs) 16 j 0 h

  none_is : (j : ℕ) → granted_at (fresh jobs) j ≡ 0
  unfolding fresh
  none_is j = zeros j

  right-at-first : (j : ℕ) → j < 16 → wrong_numbers (ltb j (length jobs)) (share_of jobs j) (limit_of jobs j) 0 ≡ false
  unfolding share_of limit_of wrong_numbers
  right-at-first j h =
      ⊎_elim
      (λ (p : length jobs ≤ j). rw (le-ltb j (length jobs) p, get_or-eq_default jobs [] p))
      (λ (p : j < length jobs). rw (lt-ltb j (length jobs) p) (right-first (share_of jobs j) (limit_of jobs j) (f.each j p)))
      (le-or-lt (length jobs) j)

  wrong-none : (j : ℕ) → j < 16 → wrong_at (fresh jobs) j ≡ false
  unfolding fresh
  wrong-none j h =
      ap (wrong_numbers (ltb j (length jobs)) (share_at (fresh jobs) j) (limit_at (fresh jobs) j)) (none_is j)
      ∙ ap (λ (limit : ℕ). wrong_numbers (ltb j (length jobs)) (share_at (fresh jobs) j) limit 0) (limit_is j h)
      ∙ ap (λ (share : ℕ). wrong_numbers (ltb j (length jobs)) share (limit_of jobs j) 0) (share-is j h)
      ∙ right-at-first j h

  pub fresh-begun : Begun (fresh jobs)
  unfolding fresh
  fresh-begun =
      record {
        running =
            record {
              passes = passing (fresh jobs) (record { one = f.one; few = f.few; each = wrong-none; counted = omega (arith, sum-zero (granted_at (fresh jobs)) 16 (λ k h. none_is k)) });
              long = refl;
            };
        nothing = none_is;
        shares = λ j h. subst (λ (n : ℕ). 1 ≤ n) (sym (share-is j (omega (arith, f.few)))) (in-range (share_of jobs j) (limit_of jobs j) (f.each j h)).one;
        few = f.few;
      }

-- a beginning that is not refused
pub begins : (jobs : List (List ℕ)) → (begin_of jobs).refused ≡ 0 → Begun (begin_of jobs).shift
unfolding begin_of
begins jobs e = go (unfit_jobs jobs) refl
  where
    go : (t : Bool) → unfit_jobs jobs ≡ t → Begun (begin_of jobs).shift
    go true u = absurd (omega (arith, sym (ap (λ (b : ShiftBegun). b.refused) (choose-true (unfit_jobs jobs) (record { refused = 30; shift = no_shift }) (record { refused = 0; shift = fresh jobs }) u)) ∙ e))
    go false u = subst Begun (ap (λ (b : ShiftBegun). b.shift) (sym (choose-false (unfit_jobs jobs) (record { refused = 30; shift = no_shift }) (record { refused = 0; shift = fresh jobs }) u))) (fresh-begun jobs (fit jobs u))
