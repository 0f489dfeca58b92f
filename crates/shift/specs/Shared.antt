-- What holds of whole lists of calls, each given the shift as the last one left it, refused ones among them. Statements only; `shared` (proofs/Shared.antt) proves them.
use Rattle.std.specs.Prelude.{◌≡◌, Bool, true, false, not, ◌&&◌, ◌||◌, List, [], ◌∷◌, ℕ, ◌+◌, ◌*◌, ◌/◌, ◌≤◌, ◌<◌, eqb}
use Rattle.lists.specs.Lists.{choose}
use Rattle.shift.specs.declared.Shift.{Shift}
use Rattle.shift.specs.declared.ShiftGrant.{ShiftGrant}
use Rattle.shift.specs.Grants.{share_at, limit_at, granted_at, sum_of, begin_of, fails_test, unknown_job, is_named, waits, grant_of}

-- a call's names, and a list of calls
abbrev pub Calls : Type 0
Calls = List (List ℕ)

-- the shift that the last call leaves
unfoldable pub left : Shift → Calls → Shift
left s [] = s
left s (named ∷ more) = left (grant_of s named).shift more

-- the replies
unfoldable pub replies : Shift → Calls → List ShiftGrant
replies s [] = []
replies s (named ∷ more) = grant_of s named ∷ replies (grant_of s named).shift more

-- how many of the replies are grants, and grants to job j
unfoldable pub grants : List ShiftGrant → ℕ
grants [] = 0
grants (r ∷ more) = choose (eqb r.refused 0) 1 0 + grants more

unfoldable pub grants_to : ℕ → List ShiftGrant → ℕ
grants_to j [] = 0
grants_to j (r ∷ more) = choose (eqb r.refused 0 && eqb r.job j) 1 0 + grants_to j more

-- job j waits at each of the grants that are made
unfoldable pub waits_at_each : ℕ → Shift → Calls → Bool
waits_at_each j s [] = true
waits_at_each j s (named ∷ more) = (not (eqb (grant_of s named).refused 0) || waits s (is_named named) j) && waits_at_each j (grant_of s named).shift more

-- "the waiting job with the smallest (granted + 1)/share, compared without rounding, the lowest job on a tie"
pub record First (s : Shift) (named : List ℕ) (j : ℕ) : Type 0 where
  pub waiting : waits s (is_named named) j ≡ true
  pub smallest : (k : ℕ) → k < 16 → waits s (is_named named) k ≡ true → (granted_at s j + 1) * share_at s k ≤ (granted_at s k + 1) * share_at s j
  pub lowest : (k : ℕ) → k < j → waits s (is_named named) k ≡ true → (granted_at s j + 1) * share_at s k < (granted_at s k + 1) * share_at s j

-- "fixed for the shift like its limit"
pub record Fixed (s t : Shift) : Type 0 where
  pub jobs : t.jobs ≡ s.jobs
  pub share : t.share ≡ s.share
  pub limit : t.limit ≡ s.limit

pub record Shared : Type 0 where
  pub first : (s : Shift) (named : List ℕ) → (grant_of s named).refused ≡ 0 → First s named (grant_of s named).job
  pub kept : (s : Shift) (named : List ℕ) → eqb (grant_of s named).refused 0 ≡ false → (grant_of s named).shift ≡ s
  -- 31 only "when no job waits or the shift is used up": where a job waits and there is room, the question is granted
  pub granted : (s : Shift) (named : List ℕ) → fails_test s ≡ false → unknown_job s.jobs named ≡ false → (sum_of (granted_at s) 16 ≡ 1000000 → ⊥)
      → (k : ℕ) → k < 16 → waits s (is_named named) k ≡ true → (grant_of s named).refused ≡ 0
  pub fixed : (s : Shift) (calls : Calls) → Fixed s (left s calls)
  -- "every shift so run passes" 20's test
  pub passes : (jobs : List (List ℕ)) → (begin_of jobs).refused ≡ 0 → (calls : Calls) → fails_test (left (begin_of jobs).shift calls) ≡ false
  -- "The counts add up to the grants made in the shift", each job's to those made to it
  pub adds-up : (jobs : List (List ℕ)) → (begin_of jobs).refused ≡ 0 → (calls : Calls)
      → sum_of (granted_at (left (begin_of jobs).shift calls)) 16 ≡ grants (replies (begin_of jobs).shift calls)
  pub each-count : (jobs : List (List ℕ)) → (begin_of jobs).refused ≡ 0 → (calls : Calls) (j : ℕ)
      → granted_at (left (begin_of jobs).shift calls) j ≡ grants_to j (replies (begin_of jobs).shift calls)
  -- "a shift grants at most 1,000,000 questions", and a job at most its limit
  pub at_most : (jobs : List (List ℕ)) → (begin_of jobs).refused ≡ 0 → (calls : Calls) → grants (replies (begin_of jobs).shift calls) ≤ 1000000
  pub within-limit : (jobs : List (List ℕ)) → (begin_of jobs).refused ≡ 0 → (calls : Calls) (j : ℕ) → j < 16
      → grants_to j (replies (begin_of jobs).shift calls) ≤ limit_at (begin_of jobs).shift j
  -- "A job waiting at each of the shift's first S grants has at least the whole part of S·share/(sum of all shares) of them, however the others come and go":
  -- S is the number of grants made in a list of calls, a longer list's front among these
  pub fair : (jobs : List (List ℕ)) → (begin_of jobs).refused ≡ 0 → (calls : Calls) (j : ℕ) → j < (begin_of jobs).shift.jobs
      → waits_at_each j (begin_of jobs).shift calls ≡ true
      → grants (replies (begin_of jobs).shift calls) * share_at (begin_of jobs).shift j / sum_of (share_at (begin_of jobs).shift) 16
      ≤ grants_to j (replies (begin_of jobs).shift calls)

-- ---- that a shift can be so: shares 1, 1 and 10; job 2 waits at both grants, and between them a call is refused by 30 and one by 31
abbrev pub small : List (List ℕ)
small = (1 ∷ 5 ∷ []) ∷ (1 ∷ 5 ∷ []) ∷ (10 ∷ 5 ∷ []) ∷ []

abbrev pub small_calls : Calls
small_calls = (0 ∷ 1 ∷ 2 ∷ []) ∷ (3 ∷ 2 ∷ []) ∷ [] ∷ (2 ∷ 0 ∷ 2 ∷ []) ∷ []

pub record SmallMet : Type 0 where
  pub begun : (begin_of small).refused ≡ 0
  pub waiting : waits_at_each 2 (begin_of small).shift small_calls ≡ true
  pub made : grants (replies (begin_of small).shift small_calls) ≡ 2
  pub its : grants_to 2 (replies (begin_of small).shift small_calls) ≡ 2
  pub part : 2 * share_at (begin_of small).shift 2 / sum_of (share_at (begin_of small).shift) 16 ≡ 1
