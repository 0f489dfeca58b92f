-- What one call comes to, and what it keeps of a shift that passes 20's test. Assumes nothing.
use mathlib.Core.Path.{◌≡◌, refl, sym, ap, subst, ◌∙◌}
use mathlib.Core.Bool.{Bool, true, false}
use mathlib.Core.List.{List}
use mathlib.Core.Logic.{◌⊎◌, inl, inr, ⊎_elim}
use Prim.Native.Nat.{ℕ, ◌+◌, ◌≤◌, ◌<◌}
use native.Mathlib.Omega.{arith}
use lib.Dec.{leb, ltb, eqb}
use lib.ListN.{length, length-set}
use lib.Seq.{get_or-set_same, get_or-set_other}
use borrow.Author.Tests.{ltb-true, leb-false, eqb-false, lt-leb, ne_eqb}
use Rattle.lists.proofs.Laws.{neither, both}
use Rattle.lists.proofs.Bools.{eq-or_ne, never}
use Rattle.shift.specs.declared.Shift.{Shift}
use Rattle.shift.specs.declared.ShiftGrant.{ShiftGrant}
use Rattle.shift.specs.Grants.{share_at, limit_at, granted_at, sum_of, wrong_numbers, wrong_at, fails_test, unknown_job, is_named, waits, chosen_of, granted_to, refused_with, grant_of}
use Rattle.shift.specs.Shared.{First, Fixed}
use Rattle.shift.proofs.Sums.{sum-raised}
use Rattle.shift.proofs.Tests.{Passed, passed, passing, has-share, one_more}
use Rattle.shift.proofs.Replies.{nobody, refused_20, refused_30, refused_31, granted}
use Rattle.shift.proofs.First.{Nobody, Best, best_of}

-- ---- the two ways that a call can go
pub record Kept (s : Shift) (named : List ℕ) : Type 0 where
  pub unmade : eqb (grant_of s named).refused 0 ≡ false
  pub same : (grant_of s named).shift ≡ s

pub record Made (s : Shift) (named : List ℕ) : Type 0 where
  pub made : eqb (grant_of s named).refused 0 ≡ true
  pub passes : fails_test s ≡ false
  pub few : (grant_of s named).job < 16
  pub first : First s named (grant_of s named).job
  pub room : sum_of (granted_at s) 16 ≡ 1000000 → ⊥
  pub after : (grant_of s named).shift ≡ granted_to s (grant_of s named).job

module _ (s : Shift) (named : List ℕ) where
  kept_by : (number : ℕ) → eqb number 0 ≡ false → refused_with number s ≡ grant_of s named → Kept s named
  kept_by number n e = record { unmade = ap (λ (r : ShiftGrant). eqb r.refused 0) (sym e) ∙ n; same = ap (λ (r : ShiftGrant). r.shift) (sym e) }

  shared : Passed s → (k : ℕ) → k < 16 → waits s (is_named named) k ≡ true → 1 ≤ share_at s k
  shared p k h w = has-share (ltb k s.jobs) (share_at s k) (limit_at s k) (granted_at s k) (p.each k h) (ltb-true (granted_at s k) (limit_at s k) (both (is_named named k) (ltb (granted_at s k) (limit_at s k)) w).1)

  -- whoever is chosen goes first
  chosen-first : fails_test s ≡ false → chosen_of s named < 16 → First s named (chosen_of s named)
  unfolding chosen_of
  chosen-first e h =
      ⊎_elim
      (λ (n : Nobody s (is_named named) (shared (passed s e)) 16 (chosen_of s named)). absurd (omega (arith, n.none)))
      (λ (b : Best s (is_named named) (shared (passed s e)) 16 (chosen_of s named)). record { waiting = b.waiting; smallest = b.smallest; lowest = b.lowest })
      (best_of s (is_named named) (shared (passed s e)) 16 (omega arith))

  -- where somebody waits and there is room, the question is granted
  pub somebody : fails_test s ≡ false → unknown_job s.jobs named ≡ false → (sum_of (granted_at s) 16 ≡ 1000000 → ⊥) → (k : ℕ) → k < 16 → waits s (is_named named) k ≡ true → (grant_of s named).refused ≡ 0
  unfolding chosen_of
  somebody e f room k h w =
      ⊎_elim
      (λ (n : Nobody s (is_named named) (shared (passed s e)) 16 (chosen_of s named)). never w (n.idle k h))
      (λ (b : Best s (is_named named) (shared (passed s e)) 16 (chosen_of s named)).
      sym (ap (λ (r : ShiftGrant). r.refused) (granted s named (chosen_of s named) (sum_of (granted_at s) 16) e f refl refl (rw (lt-leb 16 (chosen_of s named) b.below, ne_eqb (sum_of (granted_at s) 16) 1000000 room)))))
      (best_of s (is_named named) (shared (passed s e)) 16 (omega arith))

  made_by : fails_test s ≡ false → unknown_job s.jobs named ≡ false → nobody s named (chosen_of s named) (sum_of (granted_at s) 16) ≡ false → Made s named
  made_by e f t =
      let parts = neither (leb 16 (chosen_of s named)) (eqb (sum_of (granted_at s) 16) 1000000) t in
      let is : ◌≡◌ {A = ShiftGrant} (record { refused = 0; job = chosen_of s named; shift = granted_to s (chosen_of s named) }) (grant_of s named) = granted s named (chosen_of s named) (sum_of (granted_at s) 16) e f refl refl t in
      let job : chosen_of s named ≡ (grant_of s named).job = ap (λ (r : ShiftGrant). r.job) is in
      record {
        made = ap (λ (r : ShiftGrant). eqb r.refused 0) (sym is);
        passes = e;
        few = subst (λ (j : ℕ). j < 16) job (leb-false 16 (chosen_of s named) parts.0);
        first = subst (First s named) job (chosen-first e (leb-false 16 (chosen_of s named) parts.0));
        room = eqb-false (sum_of (granted_at s) 16) 1000000 parts.1;
        after = ap (λ (r : ShiftGrant). r.shift) (sym is) ∙ ap (granted_to s) job;
      }

  pub outcome : Kept s named ⊎ Made s named
  outcome = tested (fails_test s) refl
    where
      chosen : fails_test s ≡ false → unknown_job s.jobs named ≡ false → (t : Bool) → nobody s named (chosen_of s named) (sum_of (granted_at s) 16) ≡ t → Kept s named ⊎ Made s named
      chosen e f true t = inl (kept_by 31 refl (refused_31 s named (chosen_of s named) (sum_of (granted_at s) 16) e f refl refl t))
      chosen e f false t = inr (made_by e f t)

      numbered : fails_test s ≡ false → (t : Bool) → unknown_job s.jobs named ≡ t → Kept s named ⊎ Made s named
      numbered e true f = inl (kept_by 30 refl (refused_30 s named e f))
      numbered e false f = chosen e f (nobody s named (chosen_of s named) (sum_of (granted_at s) 16)) refl

      tested : (t : Bool) → fails_test s ≡ t → Kept s named ⊎ Made s named
      tested true e = inl (kept_by 20 refl (refused_20 s named e))
      tested false e = numbered e (unknown_job s.jobs named) refl

-- ---- a shift on its way
pub record Running (s : Shift) : Type 0 where
  pub passes : fails_test s ≡ false
  pub long : length s.granted ≡ 16

module _ (s : Shift) (r : Running s) (j : ℕ) (few : j < 16) where
  pub raised-here : granted_at (granted_to s j) j ≡ granted_at s j + 1
  unfolding granted_to
  raised-here = get_or-set_same s.granted j (granted_at s j + 1) 0 (omega (arith, r.long))

  pub raised-other : (k : ℕ) → (k ≡ j → ⊥) → granted_at (granted_to s j) k ≡ granted_at s k
  unfolding granted_to
  raised-other k ne = get_or-set_other s.granted j k (granted_at s j + 1) 0 ne

  pub raised-sum : sum_of (granted_at (granted_to s j)) 16 ≡ sum_of (granted_at s) 16 + 1
  raised-sum = sum-raised (granted_at (granted_to s j)) (granted_at s) j 16 few raised-here raised-other

  pub raised-running : granted_at s j < limit_at s j → (sum_of (granted_at s) 16 ≡ 1000000 → ⊥) → Running (granted_to s j)
  unfolding granted_to
  raised-running below room =
      let p = passed s r.passes in
      record {
        passes =
            passing (granted_to s j)
            (record {
              one = p.one;
              few = p.few;
              each = right;
              counted = subst (λ (n : ℕ). n ≤ 1000000) (sym raised-sum) (under (sum_of (granted_at s) 16) p.counted room);
            });
        long = length-set s.granted j (granted_at s j + 1) ∙ r.long;
      }
    where
      right : (k : ℕ) → k < 16 → wrong_at (granted_to s j) k ≡ false
      right k h =
          ⊎_elim
          (λ (q : k ≡ j).
          subst (λ (m : ℕ). wrong_at (granted_to s j) m ≡ false) (sym q)
          (ap (wrong_numbers (ltb j s.jobs) (share_at s j) (limit_at s j)) raised-here ∙ one_more (ltb j s.jobs) (share_at s j) (limit_at s j) (granted_at s j) ((passed s r.passes).each j few) below))
          (λ (q : k ≡ j → ⊥). ap (wrong_numbers (ltb k s.jobs) (share_at s k) (limit_at s k)) (raised-other k q) ∙ (passed s r.passes).each k h)
          (eq-or_ne k j)

      under : (n : ℕ) → n ≤ 1000000 → (n ≡ 1000000 → ⊥) → n + 1 ≤ 1000000
      under n h ne = ⊎_elim (λ (q : n ≡ 1000000). absurd (ne q)) (λ (q : n ≡ 1000000 → ⊥). omega arith) (eq-or_ne n 1000000)

-- a call leaves the shift on its way
pub runs_on : (s : Shift) (named : List ℕ) → Running s → Running (grant_of s named).shift
runs_on s named r =
    ⊎_elim
    (λ (k : Kept s named). subst Running (sym k.same) r)
    (λ (m : Made s named).
    subst Running (sym m.after)
    (raised-running s r (grant_of s named).job m.few
    (ltb-true _ _ (both (is_named named (grant_of s named).job) (ltb (granted_at s (grant_of s named).job) (limit_at s (grant_of s named).job)) m.first.waiting).1)
    m.room))
    (outcome s named)

-- and its jobs, shares and limits as they were
pub fixed-raised : (s : Shift) (j : ℕ) → Fixed s (granted_to s j)
unfolding granted_to
fixed-raised s j = record { jobs = refl; share = refl; limit = refl }

pub fixed : (s : Shift) (named : List ℕ) → Fixed s (grant_of s named).shift
fixed s named =
    ⊎_elim
    (λ (k : Kept s named). subst (Fixed s) (sym k.same) (record { jobs = refl; share = refl; limit = refl }))
    (λ (m : Made s named). subst (Fixed s) (sym m.after) (fixed-raised s (grant_of s named).job))
    (outcome s named)
