-- What holds of whole lists of calls: `specs/Shared.antt`, proved. Assumes nothing.
use mathlib.Core.Path.{◌≡◌, refl, sym, ap, subst, ◌∙◌}
use mathlib.Core.Bool.{Bool, true, not, ◌&&◌, ◌||◌}
use mathlib.Core.List.{List, [], ◌∷◌}
use mathlib.Core.Logic.{⊎_elim}
use Prim.Native.Nat.{ℕ, ◌+◌, ◌*◌, ◌/◌, ◌≤◌, ◌<◌}
use native.Mathlib.Nat.{zero-mul, mul-le-mul_right, mul-lt-mul_of_pos_right, div-lt_iff_lt-mul}
use native.Mathlib.Omega.{arith}
use lib.Dec.{eqb}
use lib.ListN.{get_or}
use borrow.Author.Tests.{eq-eqb, ne_eqb}
use Rattle.lists.specs.Lists.{choose, any_to, fold_to, tabulate}
use Rattle.lists.proofs.Laws.{choose-true, choose-false, both}
use Rattle.lists.proofs.Bools.{eq-or_ne, never}
use Rattle.shift.specs.declared.Shift.{Shift}
use Rattle.shift.specs.Grants.{share_at, limit_at, granted_at, sum_of, share_of, limit_of, unfit_jobs, fresh, begin_of, wrong_numbers, fails_test, unknown_job, is_named, waits, sooner, turn, chosen_of, granted_to, grant_of}
use Rattle.shift.specs.Shared.{Calls, left, replies, grants, grants_to, waits_at_each, Fixed, Shared, SmallMet}
use Rattle.shift.proofs.Sums.{sum-zero, sum_below, sum-times, times-sum}
use Rattle.shift.proofs.Tests.{passed, right-at}
use Rattle.shift.proofs.Calls.{Kept, Made, outcome, somebody, Running, raised-here, raised-other, raised-sum, runs_on, fixed-raised, fixed}
use Rattle.shift.proofs.Begins.{Begun, begins}

-- ---- one call
module _ (s : Shift) (named : List ℕ) (r : Running s) where
  call-adds : sum_of (granted_at (grant_of s named).shift) 16 ≡ sum_of (granted_at s) 16 + choose (eqb (grant_of s named).refused 0) 1 0
  call-adds =
      ⊎_elim
      (λ (k : Kept s named).
      ap (λ (t : Shift). sum_of (granted_at t) 16) k.same ∙ more (sum_of (granted_at s) 16) _ 0 refl (choose-false _ 1 0 k.unmade))
      (λ (m : Made s named).
      ap (λ (t : Shift). sum_of (granted_at t) 16) m.after ∙ raised-sum s r (grant_of s named).job m.few ∙ ap (λ (n : ℕ). sum_of (granted_at s) 16 + n) (sym (choose-true _ 1 0 m.made)))
      (outcome s named)
    where
      more : (a b c : ℕ) → c ≡ 0 → b ≡ c → a ≡ a + b
      more a b c p q = omega arith

  call-adds-to : (j : ℕ) → granted_at (grant_of s named).shift j ≡ granted_at s j + choose (eqb (grant_of s named).refused 0 && eqb (grant_of s named).job j) 1 0
  call-adds-to j =
      ⊎_elim
      (λ (k : Kept s named).
      ap (λ (t : Shift). granted_at t j) k.same ∙ none (granted_at s j) _ (choose-false _ 1 0 (rw k.unmade)))
      (λ (m : Made s named).
      ⊎_elim
      (λ (q : j ≡ (grant_of s named).job).
      ap (λ (t : Shift). granted_at t j) m.after ∙ subst (λ (i : ℕ). granted_at (granted_to s (grant_of s named).job) i ≡ granted_at s i + 1) (sym q) (raised-here s r (grant_of s named).job m.few)
      ∙ ap (λ (n : ℕ). granted_at s j + n) (sym (choose-true _ 1 0 (rw m.made (eq-eqb (grant_of s named).job j (sym q))))))
      (λ (q : j ≡ (grant_of s named).job → ⊥).
      ap (λ (t : Shift). granted_at t j) m.after ∙ raised-other s r (grant_of s named).job m.few j q
      ∙ none (granted_at s j) _ (choose-false _ 1 0 (rw m.made (ne_eqb (grant_of s named).job j (λ (p : (grant_of s named).job ≡ j). q (sym p))))))
      (eq-or_ne j (grant_of s named).job))
      (outcome s named)
    where
      none : (a b : ℕ) → b ≡ 0 → a ≡ a + b
      none a b q = omega arith

-- ---- lists of calls
pub on : (s : Shift) (calls : Calls) → Running s → Running (left s calls)
unfolding left
on s [] r = r
on s (named ∷ more) r = on (grant_of s named).shift more (runs_on s named r)

adds : (s : Shift) (calls : Calls) → Running s → sum_of (granted_at (left s calls)) 16 ≡ sum_of (granted_at s) 16 + grants (replies s calls)
unfolding left replies grants
adds s [] r = omega arith
adds s (named ∷ more) r = omega (arith, adds (grant_of s named).shift more (runs_on s named r), call-adds s named r)

adds-to : (s : Shift) (calls : Calls) (j : ℕ) → Running s → granted_at (left s calls) j ≡ granted_at s j + grants_to j (replies s calls)
unfolding left replies grants_to
adds-to s [] j r = omega arith
adds-to s (named ∷ more) j r = omega (arith, adds-to (grant_of s named).shift more j (runs_on s named r), call-adds-to s named r j)

stay : (s : Shift) (calls : Calls) → Fixed s (left s calls)
unfolding left
stay s [] = record { jobs = refl; share = refl; limit = refl }
stay s (named ∷ more) =
    let here = fixed s named in
    let later = stay (grant_of s named).shift more in
    record { jobs = later.jobs ∙ here.jobs; share = later.share ∙ here.share; limit = later.limit ∙ here.limit }

-- ---- fairness: no job is ahead of a waiting one by more than one grant of that one
module _ (j : ℕ) (few : j < 16) where
  abbrev Even : Shift → Type 0
  Even s = (k : ℕ) → k < 16 → granted_at s k * share_at s j ≤ (granted_at s j + 1) * share_at s k

  even-made : (s : Shift) (i : ℕ) → Running s → i < 16 → (granted_at s i + 1) * share_at s j ≤ (granted_at s j + 1) * share_at s i → Even s → Even (granted_to s i)
  even-made s i r h chosen e k few-k =
      subst (λ (l : List ℕ). granted_at (granted_to s i) k * get_or l j 0 ≤ (granted_at (granted_to s i) j + 1) * get_or l k 0) (sym (fixed-raised s i).share)
      (⊎_elim
      (λ (p : k ≡ i).
      -- the job that is granted
      subst (λ (m : ℕ). m * share_at s j ≤ (granted_at (granted_to s i) j + 1) * share_at s k) (sym (ap (granted_at (granted_to s i)) p ∙ raised-here s r i h))
      (subst (λ (m : ℕ). (granted_at s i + 1) * share_at s j ≤ (granted_at (granted_to s i) j + 1) * share_at s m) (sym p) (at_least (granted_at s i + 1) (share_at s i) chosen)))
      (λ (p : k ≡ i → ⊥).
      subst (λ (m : ℕ). m * share_at s j ≤ (granted_at (granted_to s i) j + 1) * share_at s k) (sym (raised-other s r i h k p)) (at_least (granted_at s k) (share_at s k) (e k few-k)))
      (eq-or_ne k i))
    where
      -- the waiting job's count does not fall
      grows : granted_at s j ≤ granted_at (granted_to s i) j
      grows =
          ⊎_elim
          (λ (q : j ≡ i). subst (λ (m : ℕ). granted_at s m ≤ granted_at (granted_to s i) m) (sym q) (omega (arith, raised-here s r i h)))
          (λ (q : j ≡ i → ⊥). omega (arith, raised-other s r i h j q))
          (eq-or_ne j i)

      at_least : (a b : ℕ) → a * share_at s j ≤ (granted_at s j + 1) * b → a * share_at s j ≤ (granted_at (granted_to s i) j + 1) * b
      at_least a b q = omega (arith, mul-le-mul_right {m = granted_at s j + 1} {n = granted_at (granted_to s i) j + 1} b (omega (arith, grows)))

  even_call : (s : Shift) (named : List ℕ) → Running s → (not (eqb (grant_of s named).refused 0) || waits s (is_named named) j) ≡ true → Even s → Even (grant_of s named).shift
  even_call s named r w e =
      ⊎_elim
      (λ (k : Kept s named). subst (λ (t : Shift). Even t) (sym k.same) e)
      (λ (m : Made s named). subst (λ (t : Shift). Even t) (sym m.after) (even-made s (grant_of s named).job r m.few (m.first.smallest j few (subst (λ (t : Bool). (not t || waits s (is_named named) j) ≡ true) m.made w)) e))
      (outcome s named)

  even : (s : Shift) (calls : Calls) → Running s → waits_at_each j s calls ≡ true → Even s → Even (left s calls)
  unfolding left waits_at_each
  even s [] r w e = e
  even s (named ∷ more) r w e =
      let parts = both (not (eqb (grant_of s named).refused 0) || waits s (is_named named) j) (waits_at_each j (grant_of s named).shift more) w in
      even (grant_of s named).shift more (runs_on s named r) parts.1 (even_call s named r parts.0 e)

  -- summed over all jobs
  pub behind : (s : Shift) → 1 ≤ share_at s j → Even s → sum_of (granted_at s) 16 * share_at s j < (granted_at s j + 1) * sum_of (share_at s) 16
  behind s one e =
      subst (λ (m : ℕ). m < (granted_at s j + 1) * sum_of (share_at s) 16) (sum-times (granted_at s) (share_at s j) 16)
      (subst (λ (m : ℕ). sum_of (λ k. granted_at s k * share_at s j) 16 < m) (times-sum (share_at s) (granted_at s j + 1) 16)
      (sum_below (λ k. granted_at s k * share_at s j) (λ k. (granted_at s j + 1) * share_at s k) 16 j few e (own (granted_at s j) (share_at s j) one)))
    where
      own : (g m : ℕ) → 1 ≤ m → g * m < (g + 1) * m
      own g m h = mul-lt-mul_of_pos_right {m = g} {n = g + 1} {k = m} (omega arith) h

-- ---- from a shift's beginning
module _ (jobs : List (List ℕ)) (e : (begin_of jobs).refused ≡ 0) (calls : Calls) where
  abbrev s₀ : Shift
  s₀ = (begin_of jobs).shift

  began : Begun s₀
  began = begins jobs e

  all-added : sum_of (granted_at (left s₀ calls)) 16 ≡ grants (replies s₀ calls)
  all-added = omega (arith, adds s₀ calls began.running, sum-zero (granted_at s₀) 16 (λ k h. began.nothing k))

  each-added : (j : ℕ) → granted_at (left s₀ calls) j ≡ grants_to j (replies s₀ calls)
  each-added j = omega (arith, adds-to s₀ calls j began.running, began.nothing j)

  most : grants (replies s₀ calls) ≤ 1000000
  most = omega (arith, all-added, (passed (left s₀ calls) (on s₀ calls began.running).passes).counted)

  limited : (j : ℕ) → j < 16 → grants_to j (replies s₀ calls) ≤ limit_at s₀ j
  limited j h =
      omega (arith, each-added j, (right-at (left s₀ calls) (passed (left s₀ calls) (on s₀ calls began.running).passes) j h).within, ap (λ (l : List ℕ). get_or l j 0) (stay s₀ calls).limit)

  -- S · share is below (granted + 1) · the sum of all shares
  below : (j : ℕ) → j < s₀.jobs → waits_at_each j s₀ calls ≡ true → grants (replies s₀ calls) * share_at s₀ j < (grants_to j (replies s₀ calls) + 1) * sum_of (share_at s₀) 16
  below j h w =
      subst (λ (m : ℕ). m * share_at s₀ j < (grants_to j (replies s₀ calls) + 1) * sum_of (share_at s₀) 16) all-added
      (subst (λ (m : ℕ). sum_of (granted_at (left s₀ calls)) 16 * share_at s₀ j < (m + 1) * sum_of (share_at s₀) 16) (each-added j)
      (subst (λ (l : List ℕ). sum_of (granted_at (left s₀ calls)) 16 * get_or l j 0 < (granted_at (left s₀ calls) j + 1) * sum_of (λ k. get_or l k 0) 16) (stay s₀ calls).share
      (behind j (few j h) (left s₀ calls) (subst (λ (l : List ℕ). 1 ≤ get_or l j 0) (sym (stay s₀ calls).share) (began.shares j h)) (even j (few j h) s₀ calls began.running w start))))
    where
      few : (j : ℕ) → j < s₀.jobs → j < 16
      few j h = omega (arith, began.few)

      start : (k : ℕ) → k < 16 → granted_at s₀ k * share_at s₀ j ≤ (granted_at s₀ j + 1) * share_at s₀ k
      start k h = subst (λ (m : ℕ). m * share_at s₀ j ≤ (granted_at s₀ j + 1) * share_at s₀ k) (sym (began.nothing k)) (omega (arith, zero-mul (share_at s₀ j)))

  some_share : (j : ℕ) → j < s₀.jobs → 0 < sum_of (share_at s₀) 16
  some_share j h = omega (arith, sum_below (λ _. 0) (share_at s₀) 16 j (omega (arith, began.few)) (λ k a. omega arith) (began.shares j h))

  fairly : (j : ℕ) → j < s₀.jobs → waits_at_each j s₀ calls ≡ true → grants (replies s₀ calls) * share_at s₀ j / sum_of (share_at s₀) 16 ≤ grants_to j (replies s₀ calls)
  fairly j h w = omega (arith, (div-lt_iff_lt-mul {k = sum_of (share_at s₀) 16} {x = grants (replies s₀ calls) * share_at s₀ j} {y = grants_to j (replies s₀ calls) + 1} (some_share j h)).1 (below j h w))

pub shared : Shared
shared =
    record {
      first = λ s named e. ⊎_elim (λ (k : Kept s named). never (eq-eqb _ 0 e) k.unmade) (λ (m : Made s named). m.first) (outcome s named);
      kept = λ s named e. ⊎_elim (λ (k : Kept s named). k.same) (λ (m : Made s named). never m.made e) (outcome s named);
      granted = somebody;
      fixed = stay;
      passes = λ jobs e calls. (on (begin_of jobs).shift calls (begins jobs e).running).passes;
      adds-up = all-added;
      each-count = each-added;
      at_most = most;
      within-limit = limited;
      fair = fairly;
    }

pub small-met : SmallMet
unfolding begin_of unfit_jobs fresh share_of limit_of sum_of waits_at_each replies grants grants_to grant_of fails_test wrong_numbers unknown_job is_named sooner turn chosen_of granted_to choose any_to fold_to tabulate
small-met = record { begun = refl; waiting = refl; made = refl; its = refl; part = refl }
