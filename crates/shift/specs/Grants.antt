-- One solver for up to sixteen jobs: a shift's beginning, and the grant of one question. Definitions only.
use Rattle.std.specs.Prelude.{Bool, true, false, not, ◌&&◌, ◌||◌, List, [], Option, Some, None, Result, Ok, Err, ℕ, zero, suc, ◌+◌, ◌*◌, eqb, ltb, leb, length, get_or, set, replicate}
use Rattle.std.specs.List.{list_any}
use Rattle.lists.specs.Lists.{tabulate, fold_to, any_to, choose}
use Rattle.refusal.specs.declared.Refusal.{Refusal}
use Rattle.refusal.specs.Refusals.{number_of}
use Rattle.shift.specs.declared.checks.Job.{Job}
use Rattle.shift.specs.declared.Shift.{Shift}
use Rattle.shift.specs.declared.ShiftBegun.{ShiftBegun}
use Rattle.shift.specs.declared.ShiftGrant.{ShiftGrant}

-- a job's numbers in a shift
abbrev pub share_at : Shift → ℕ → ℕ
share_at s j = get_or s.share j 0

abbrev pub limit_at : Shift → ℕ → ℕ
limit_at s j = get_or s.limit j 0

abbrev pub granted_at : Shift → ℕ → ℕ
granted_at s j = get_or s.granted j 0

abbrev pub job_at : Shift → ℕ → Job
job_at s j = record { share = share_at s j; limit = limit_at s j; granted = granted_at s j }

-- f 0 + f 1 .. + f (n - 1)
unfoldable pub sum_of : (ℕ → ℕ) → ℕ → ℕ
sum_of f zero = 0
sum_of f (suc n) = sum_of f n + f n

-- "a share from 1 to 1,000", a "limit of questions, 0 to 1,000,000"
abbrev pub in_range : ℕ → ℕ → Bool
in_range share limit = leb 1 share && leb share 1000 && leb limit 1000000

-- ---- a shift's beginning, from each job's share and limit
unfoldable pub share_of : List (List ℕ) → ℕ → ℕ
share_of jobs j = get_or (get_or jobs j []) 0 0

unfoldable pub limit_of : List (List ℕ) → ℕ → ℕ
limit_of jobs j = get_or (get_or jobs j []) 1 0

-- "30, kept, for more than sixteen jobs or none, or a share, limit [..] out of range"
unfoldable pub unfit_jobs : List (List ℕ) → Bool
unfit_jobs jobs = ltb (length jobs) 1 || ltb 16 (length jobs) || list_any (λ job. not (in_range (get_or job 0 0) (get_or job 1 0))) jobs

-- "All counts begin a shift at 0."
unfoldable pub fresh : List (List ℕ) → Shift
fresh jobs = record { jobs = length jobs; share = tabulate (share_of jobs) 16; limit = tabulate (limit_of jobs) 16; granted = replicate 16 0 }

-- no shift
unfoldable pub no_shift : Shift
no_shift = record { jobs = 0; share = replicate 16 0; limit = replicate 16 0; granted = replicate 16 0 }

-- what C is told of a beginning
abbrev pub begun : Result Shift Refusal → ShiftBegun
begun (Ok s) = record { refused = 0; shift = s }
begun (Err r) = record { refused = number_of r; shift = no_shift }

unfoldable pub begin_of : List (List ℕ) → ShiftBegun
begin_of jobs = choose (unfit_jobs jobs) (record { refused = 30; shift = no_shift }) (record { refused = 0; shift = fresh jobs })

-- ---- 20's test: 1 to 16 jobs, each with share and limit in range and a count not above its limit; zeros past the jobs; at most 1,000,000 counted
unfoldable pub wrong_numbers : Bool → ℕ → ℕ → ℕ → Bool
wrong_numbers true share limit granted = not (in_range share limit) || ltb limit granted
wrong_numbers false share limit granted = not (eqb share 0 && eqb limit 0 && eqb granted 0)

abbrev pub wrong_at : Shift → ℕ → Bool
wrong_at s j = wrong_numbers (ltb j s.jobs) (share_at s j) (limit_at s j) (granted_at s j)

unfoldable pub fails_test : Shift → Bool
fails_test s = ltb s.jobs 1 || ltb 16 s.jobs || any_to (wrong_at s) 16 || ltb 1000000 (sum_of (granted_at s) 16)

-- ---- a grant
-- 30: a "job number out of range"
unfoldable pub unknown_job : ℕ → List ℕ → Bool
unknown_job jobs named = list_any (λ job. leb jobs job) named

unfoldable pub is_named : List ℕ → ℕ → Bool
is_named named j = any_to (λ k. eqb (get_or named k 0) j) (length named)

-- "The jobs named with the call for it wait, once each, save those at their own limit of questions"
abbrev pub waits : Shift → (ℕ → Bool) → ℕ → Bool
waits s named j = named j && ltb (granted_at s j) (limit_at s j)

-- (granted + 1)/share of a is below that of b, "compared without rounding": by cross products
unfoldable pub sooner : ℕ → ℕ → ℕ → ℕ → Bool
sooner granted-a share-a granted-b share-b = ltb ((granted-a + 1) * share-b) ((granted-b + 1) * share-a)

-- job j is looked at when `best` is chosen of those below it: 16 is nobody
unfoldable pub turn : Shift → (ℕ → Bool) → ℕ → ℕ → ℕ
turn s named j best = choose (waits s named j && (leb 16 best || sooner (granted_at s j) (share_at s j) (granted_at s best) (share_at s best))) j best

-- nobody's place
abbrev pub place_of : Option ℕ → ℕ
place_of None = 16
place_of (Some j) = j

-- "the waiting job with the smallest (granted + 1)/share [..] the lowest job on a tie"
unfoldable pub chosen_of : Shift → List ℕ → ℕ
chosen_of s named = fold_to (turn s (is_named named)) 16 16

-- "A grant adds one to its job's count and changes nothing else."
unfoldable pub granted_to : Shift → ℕ → Shift
granted_to s j = record { jobs = s.jobs; share = s.share; limit = s.limit; granted = set s.granted j (granted_at s j + 1) }

abbrev pub refused_with : ℕ → Shift → ShiftGrant
refused_with number s = record { refused = number; job = 0; shift = s }

-- what C is told of a grant, and of the shift that it leaves
abbrev pub granted_by : Result ℕ Refusal → Shift → ShiftGrant
granted_by (Ok j) s = record { refused = 0; job = j; shift = s }
granted_by (Err r) s = refused_with (number_of r) s

-- "20, kept, first [..] 30, kept [..] after it 31, kept, when no job waits or the shift is used up"
unfoldable pub grant_of : Shift → List ℕ → ShiftGrant
grant_of s named =
    choose (fails_test s) (refused_with 20 s)
    (choose (unknown_job s.jobs named) (refused_with 30 s)
    (choose (leb 16 (chosen_of s named) || eqb (sum_of (granted_at s) 16) 1000000) (refused_with 31 s)
    (record { refused = 0; job = chosen_of s named; shift = granted_to s (chosen_of s named) })))
