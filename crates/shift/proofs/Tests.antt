-- What the tests of a beginning and of a shift leave when they are passed. Assumes nothing.
use mathlib.Core.Path.{◌≡◌, refl, subst}
use mathlib.Core.Bool.{Bool, true, false, not, ◌&&◌, ◌||◌}
use mathlib.Core.List.{List, []}
use Prim.Native.Nat.{ℕ, zero, suc, ◌+◌, ◌≤◌, ◌<◌}
use native.Mathlib.Numerals.{add-one}
use native.Mathlib.Omega.{arith}
use lib.Dec.{ltb, leb, eqb}
use lib.ListN.{length, get_or}
use Rattle.std.specs.List.{list_any}
use Rattle.std.proofs.lemmas.List.Folds.{list_any_at}
use Rattle.lists.proofs.Bools.{never}
use borrow.Author.Tests.{ltb-false, leb-true, eqb-true, not-false, le-ltb}
use Rattle.lists.specs.Lists.{any_to}
use Rattle.lists.proofs.Laws.{any_none, any-more, any-not, neither, both}
use Rattle.shift.specs.declared.Shift.{Shift}
use Rattle.shift.specs.Grants.{in_range, share_at, limit_at, granted_at, share_of, limit_of, sum_of, unfit_jobs, wrong_numbers, wrong_at, fails_test}

all3 : (a b c : Bool) → (a && b && c) ≡ true → (a ≡ true) × (b ≡ true) × (c ≡ true)
all3 a b c e = let front = both (a && b) c e in ((both a b front.0).0, (both a b front.0).1, front.1)

none3 : (a b c : Bool) → (a || b || c) ≡ false → (a ≡ false) × (b ≡ false) × (c ≡ false)
none3 a b c e = let front = neither (a || b) c e in ((neither a b front.0).0, (neither a b front.0).1, front.1)

pub record InRange (share limit : ℕ) : Type 0 where
  pub one : 1 ≤ share
  pub few : share ≤ 1000
  pub most : limit ≤ 1000000

pub in-range : (share limit : ℕ) → in_range share limit ≡ true → InRange share limit
in-range share limit e =
    record {
      one = leb-true 1 share (all3 (leb 1 share) (leb share 1000) (leb limit 1000000) e).0;
      few = leb-true share 1000 (all3 (leb 1 share) (leb share 1000) (leb limit 1000000) e).1;
      most = leb-true limit 1000000 (all3 (leb 1 share) (leb share 1000) (leb limit 1000000) e).2;
    }

-- a test that no element passes is passed at no index
none_at : (p : List ℕ → Bool) (xs : List (List ℕ)) → list_any p xs ≡ false → (j : ℕ) → j < length xs → p (get_or xs j []) ≡ false
none_at p xs e j h = tested (p (get_or xs j [])) refl
  where
    tested : (t : Bool) → p (get_or xs j []) ≡ t → t ≡ false
    tested true q = never (list_any_at p xs j [] h q) e
    tested false q = refl

-- ---- a beginning
pub record Fit (jobs : List (List ℕ)) : Type 0 where
  pub one : 1 ≤ length jobs
  pub few : length jobs ≤ 16
  pub each : (j : ℕ) → j < length jobs → in_range (share_of jobs j) (limit_of jobs j) ≡ true

pub fit : (jobs : List (List ℕ)) → unfit_jobs jobs ≡ false → Fit jobs
unfolding unfit_jobs share_of limit_of
fit jobs e =
    let out : List ℕ → Bool = λ (job : List ℕ). not (in_range (get_or job 0 0) (get_or job 1 0)) in
    let parts = none3 (ltb (length jobs) 1) (ltb 16 (length jobs)) (list_any out jobs) e in
    record {
      one = ltb-false (length jobs) 1 parts.0;
      few = ltb-false 16 (length jobs) parts.1;
      each = λ j h. not-false (in_range (share_of jobs j) (limit_of jobs j)) (none_at out jobs parts.2 j h);
    }

pub few_jobs : (jobs : List (List ℕ)) → unfit_jobs jobs ≡ false → length jobs ≤ 16
few_jobs jobs e = (fit jobs e).few

-- ---- a shift
pub record Passed (s : Shift) : Type 0 where
  pub one : 1 ≤ s.jobs
  pub few : s.jobs ≤ 16
  pub each : (j : ℕ) → j < 16 → wrong_at s j ≡ false
  pub counted : sum_of (granted_at s) 16 ≤ 1000000

pub passed : (s : Shift) → fails_test s ≡ false → Passed s
unfolding fails_test
passed s e =
    let parts = neither (ltb s.jobs 1 || ltb 16 s.jobs || any_to (wrong_at s) 16) (ltb 1000000 (sum_of (granted_at s) 16)) e in
    let front = none3 (ltb s.jobs 1) (ltb 16 s.jobs) (any_to (wrong_at s) 16) parts.0 in
    record {
      one = ltb-false s.jobs 1 front.0;
      few = ltb-false 16 s.jobs front.1;
      each = λ j h. any-not (wrong_at s) 16 front.2 j h;
      counted = ltb-false 1000000 (sum_of (granted_at s) 16) parts.1;
    }

any-never : (p : ℕ → Bool) (n : ℕ) → ((k : ℕ) → k < n → p k ≡ false) → any_to p n ≡ false
any-never p zero h = any_none p
any-never p (suc n) h = subst (λ (m : ℕ). any_to p m ≡ false) (add-one n) (any-more p n (any-never p n (λ k a. h k (omega arith))) (h n (omega arith)))

pub passing : (s : Shift) → Passed s → fails_test s ≡ false
unfolding fails_test
passing s p =
    rw (le-ltb s.jobs 1 p.one, le-ltb 16 s.jobs p.few, any-never (wrong_at s) 16 p.each, le-ltb 1000000 (sum_of (granted_at s) 16) p.counted)

-- each place's count is within its limit, and the limit small
pub record Right (share limit granted : ℕ) : Type 0 where
  pub within : granted ≤ limit
  pub most : limit ≤ 1000000

pub right : (job : Bool) (share limit granted : ℕ) → wrong_numbers job share limit granted ≡ false → Right share limit granted
unfolding wrong_numbers
right true share limit granted e =
    record {
      within = ltb-false limit granted (neither (not (in_range share limit)) (ltb limit granted) e).1;
      most = (in-range share limit (not-false (in_range share limit) (neither (not (in_range share limit)) (ltb limit granted) e).0)).most;
    }
right false share limit granted e =
    let zeros = all3 (eqb share 0) (eqb limit 0) (eqb granted 0) (not-false (eqb share 0 && eqb limit 0 && eqb granted 0) e) in
    let no-limit : limit ≡ 0 = eqb-true limit 0 zeros.1 in
    let no-grant : granted ≡ 0 = eqb-true granted 0 zeros.2 in
    record { within = omega arith; most = omega arith }

pub right-at : (s : Shift) → Passed s → (j : ℕ) → j < 16 → Right (share_at s j) (limit_at s j) (granted_at s j)
right-at s p j h = right (ltb j s.jobs) (share_at s j) (limit_at s j) (granted_at s j) (p.each j h)

pub room : (s : Shift) (j : ℕ) → fails_test s ≡ false → j < 16 → granted_at s j ≤ 1000000
room s j e h = let r = right-at s (passed s e) j h in omega (arith, r.within, r.most)

-- a waiting job is one of the shift's, so it has a share
pub has-share : (job : Bool) (share limit granted : ℕ) → wrong_numbers job share limit granted ≡ false → granted < limit → 1 ≤ share
unfolding wrong_numbers
has-share true share limit granted e h = (in-range share limit (not-false (in_range share limit) (neither (not (in_range share limit)) (ltb limit granted) e).0)).one
has-share false share limit granted e h =
    absurd (omega (arith, eqb-true limit 0 (all3 (eqb share 0) (eqb limit 0) (eqb granted 0) (not-false (eqb share 0 && eqb limit 0 && eqb granted 0) e)).1))

-- one more granted below the limit is still right
pub one_more : (job : Bool) (share limit granted : ℕ) → wrong_numbers job share limit granted ≡ false → granted < limit → wrong_numbers job share limit (granted + 1) ≡ false
unfolding wrong_numbers
one_more true share limit granted e h =
    rw ((neither (not (in_range share limit)) (ltb limit granted) e).0, le-ltb limit (granted + 1) (omega arith))
one_more false share limit granted e h =
    absurd (omega (arith, eqb-true limit 0 (all3 (eqb share 0) (eqb limit 0) (eqb granted 0) (not-false (eqb share 0 && eqb limit 0 && eqb granted 0) e)).1))

-- numbers as a shift begins with them
pub right-first : (share limit : ℕ) → in_range share limit ≡ true → wrong_numbers true share limit 0 ≡ false
unfolding wrong_numbers
right-first share limit e = rw (e, le-ltb limit 0 (omega arith))
