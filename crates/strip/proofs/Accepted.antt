-- What an accepted strip says of itself: its length, its counts, and that they are the job's. Assumes nothing.
use borrow.Author.Tests.{eqb-true, ltb-true, not-true, not-false}
use mathlib.Core.Path.{◌≡◌, refl, ap}
use mathlib.Core.Bool.{Bool, true, false}
use mathlib.Core.List.{List}
use Prim.Native.Nat.{ℕ, ◌+◌, ◌*◌, ◌≤◌}
use native.Mathlib.Omega.{arith}
use lib.Dec.{eqb}
use lib.ListN.{length}
use Rattle.lists.proofs.Laws.{choose-true, choose-false, any-not, both}
use Rattle.lists.specs.Lists.{choose, any_to}
use Rattle.std.specs.Prelude.{Ok, Err}
use Rattle.refusal.specs.declared.Refusal.{Refusal}
use Rattle.refusal.specs.declared.Refusal.TheVariants.{StripMalformed}
use Rattle.strip.specs.declared.Job.{Job}
use Rattle.strip.specs.Strip.{kind_of, head_at, place_at, stands, misplaced, word_at, words_of, elements_of, mirrors_of, job_of, accepted, check_strip}

-- the length and the places of an accepted strip
pub accepted-length : (bytes : List ℕ) → accepted bytes ≡ true → length bytes ≡ 4 * words_of (elements_of bytes) (mirrors_of bytes)
unfolding accepted
accepted-length bytes e = eqb-true _ _ (both _ _ e).0

pub accepted-places : (bytes : List ℕ) → accepted bytes ≡ true → any_to (misplaced bytes) (words_of (elements_of bytes) (mirrors_of bytes)) ≡ false
unfolding accepted
accepted-places bytes e = not-true _ (both (eqb (length bytes) (4 * words_of (elements_of bytes) (mirrors_of bytes))) _ e).1

module _ (bytes : List ℕ) where
  -- a strip is refused by 22 alone
  pub check-refused : (why : Refusal) → check_strip bytes ≡ Err why → (accepted bytes ≡ false) × (why ≡ StripMalformed)
  unfolding check_strip
  check-refused why e = go (accepted bytes) refl
    where
      go : (t : Bool) → accepted bytes ≡ t → (accepted bytes ≡ false) × (why ≡ StripMalformed)
      go false q = (q, cc (choose-false (accepted bytes) (Ok (job_of (word_at bytes))) (Err StripMalformed) q))
      go true q =
          let z : ◌≡◌ {A = ℕ} 0 1 = cc (choose-true (accepted bytes) (Ok (job_of (word_at bytes))) (Err StripMalformed) q) in absurd (omega arith)

  pub check-read : (job : Job) → check_strip bytes ≡ Ok job → (accepted bytes ≡ true) × (job ≡ job_of (word_at bytes))
  unfolding check_strip
  check-read job e = go (accepted bytes) refl
    where
      go : (t : Bool) → accepted bytes ≡ t → (accepted bytes ≡ true) × (job ≡ job_of (word_at bytes))
      go true q = (q, cc (choose-true (accepted bytes) (Ok (job_of (word_at bytes))) (Err StripMalformed) q))
      go false q =
          let z : ◌≡◌ {A = ℕ} 0 1 = cc (choose-false (accepted bytes) (Ok (job_of (word_at bytes))) (Err StripMalformed) q) in absurd (omega arith)

  -- the counts of the job are those of the strip
  pub counts : (job : Job) → check_strip bytes ≡ Ok job → (job.elements ≡ elements_of bytes) × (job.mirrors ≡ mirrors_of bytes)
  unfolding job_of
  counts job e = (ap (λ (j : Job). j.elements) (check-read job e).1, ap (λ (j : Job). j.mirrors) (check-read job e).1)

  -- the strip's length goes by the job's counts
  pub sized : (job : Job) → check_strip bytes ≡ Ok job → length bytes ≡ 4 * words_of job.elements job.mirrors
  sized job e = rw ((counts job e).0, (counts job e).1) (accepted-length bytes (check-read job e).0)

  -- "planes (0 to 3)"
  few-mirrors : accepted bytes ≡ true → mirrors_of bytes ≤ 3
  unfolding misplaced place_at head_at stands choose
  few-mirrors e =
      let stood : stands (place_at (elements_of bytes) (mirrors_of bytes) 9) 9 (word_at bytes 9) ≡ true =
      not-false _ (any-not (misplaced bytes) _ (accepted-places bytes e) 9 (omega arith)) in
      omega (arith, ltb-true (mirrors_of bytes) 4 (both (eqb (kind_of (word_at bytes 9)) 6) _ stood).1)

  -- so whoever has room for the elements has room for the strip: 64 bytes an element, and at most 260 besides
  pub reach : (job : Job) → check_strip bytes ≡ Ok job → length bytes ≤ 64 * job.elements + 260
  reach job e = omega (arith, sized job e, (counts job e).1, few-mirrors (check-read job e).0)
