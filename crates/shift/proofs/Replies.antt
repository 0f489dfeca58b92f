-- A beginning and a grant as their definitions have them, each way out for itself. Assumes nothing.
use mathlib.Core.Path.{◌≡◌, sym, ap, ◌∙◌}
use mathlib.Core.Bool.{Bool, true, false, ◌||◌}
use mathlib.Core.List.{List}
use Prim.Native.Nat.{ℕ}
use lib.Dec.{leb, eqb}
use lib.ListN.{length, replicate}
use Rattle.lists.specs.Lists.{tabulate}
use Rattle.lists.proofs.Laws.{choose-true, choose-false}
use Rattle.shift.specs.declared.Shift.{Shift}
use Rattle.shift.specs.declared.ShiftBegun.{ShiftBegun}
use Rattle.shift.specs.declared.ShiftGrant.{ShiftGrant}
use Rattle.shift.specs.Grants.{share_of, limit_of, granted_at, sum_of, unfit_jobs, fresh, begin_of, fails_test, unknown_job, chosen_of, granted_to, refused_with, grant_of}

module _ (jobs : List (List ℕ)) where
  pub begun-fit : (share limit : List ℕ) → unfit_jobs jobs ≡ false → share ≡ tabulate (share_of jobs) 16 → limit ≡ tabulate (limit_of jobs) 16
      → ◌≡◌ {A = ShiftBegun} (record { refused = 0; shift = record { jobs = length jobs; share = share; limit = limit; granted = replicate 16 0 } }) (begin_of jobs)
  unfolding begin_of fresh
  begun-fit share limit e p q = rw (p, q) (sym (choose-false _ _ _ e))

module _ (s : Shift) (named : List ℕ) where
  pub refused_20 : fails_test s ≡ true → refused_with 20 s ≡ grant_of s named
  unfolding grant_of
  refused_20 e = sym (choose-true _ _ _ e)

  pub refused_30 : fails_test s ≡ false → unknown_job s.jobs named ≡ true → refused_with 30 s ≡ grant_of s named
  unfolding grant_of
  refused_30 e f = sym (choose-false _ _ _ e ∙ choose-true _ _ _ f)

  abbrev pub nobody : ℕ → ℕ → Bool
  nobody job total = leb 16 job || eqb total 1000000

  pub refused_31 : (job total : ℕ) → fails_test s ≡ false → unknown_job s.jobs named ≡ false → job ≡ chosen_of s named → total ≡ sum_of (granted_at s) 16 → nobody job total ≡ true → refused_with 31 s ≡ grant_of s named
  unfolding grant_of
  refused_31 job total e f p q t = sym (choose-false _ _ _ e ∙ choose-false _ _ _ f ∙ choose-true _ _ _ (sym (ap (λ (m : ℕ). nobody m total) p ∙ ap (nobody (chosen_of s named)) q) ∙ t))

  pub granted : (job total : ℕ) → fails_test s ≡ false → unknown_job s.jobs named ≡ false → job ≡ chosen_of s named → total ≡ sum_of (granted_at s) 16 → nobody job total ≡ false
      → ◌≡◌ {A = ShiftGrant} (record { refused = 0; job = job; shift = granted_to s job }) (grant_of s named)
  unfolding grant_of
  granted job total e f p q t =
      ap (λ (m : ℕ). record { refused = 0; job = m; shift = granted_to s m }) p
      ∙ sym (choose-false _ _ _ e ∙ choose-false _ _ _ f ∙ choose-false _ _ _ (sym (ap (λ (m : ℕ). nobody m total) p ∙ ap (nobody (chosen_of s named)) q) ∙ t))
