-- The turns over the jobs end at the waiting job with the smallest fraction, the lowest on a tie. Assumes nothing.
use mathlib.Core.Path.{◌≡◌, refl, sym, ap, subst, ◌∙◌}
use mathlib.Core.Bool.{Bool, true, false}
use mathlib.Core.Logic.{◌⊎◌, inl, inr, ⊎_elim}
use Prim.Native.Nat.{ℕ, zero, suc, ◌+◌, ◌*◌, ◌≤◌, ◌<◌}
use native.Mathlib.Nat.{mul_right_comm, mul-le-mul_right, mul-lt-mul_of_pos_right, lt_of_mul-lt-mul_right, lt_of_lt_of_le, not-suc-le-zero, le_of_lt}
use native.Mathlib.Omega.{arith}
use lib.Dec.{leb}
use borrow.Author.Tests.{ltb-true, ltb-false, lt-leb}
use Rattle.lists.specs.Lists.{fold_to}
use Rattle.lists.proofs.Laws.{choose-true, choose-false}
use Rattle.lists.proofs.Bools.{never, or-true, and-right-false}
use Rattle.shift.proofs.Sums.{lt-or-eq}
use Rattle.shift.specs.declared.Shift.{Shift}
use Rattle.shift.specs.Grants.{granted_at, share_at, waits, sooner, turn}

-- A/a below B/b, and B/b not above C/c: A/a is below C/c
cross : (A a B b C c : ℕ) → 1 ≤ c → A * b < B * a → B * c ≤ C * b → A * c < C * a
cross A a B b C c one h k =
    lt_of_mul-lt-mul_right b
    (subst (λ (m : ℕ). m < C * a * b) (mul_right_comm A b c)
    (subst (λ (m : ℕ). A * b * c < m) (mul_right_comm C b a)
    (lt_of_lt_of_le (subst (λ (m : ℕ). A * b * c < m) (mul_right_comm B a c) (mul-lt-mul_of_pos_right h one)) (mul-le-mul_right a k))))

module _ (s : Shift) (named : ℕ → Bool) (has-share : (k : ℕ) → k < 16 → waits s named k ≡ true → 1 ≤ share_at s k) where
  -- after the jobs below n: nobody waits, or this one goes first
  pub record Nobody (n best : ℕ) : Type 0 where
    pub none : best ≡ 16
    pub idle : (k : ℕ) → k < n → waits s named k ≡ false

  pub record Best (n best : ℕ) : Type 0 where
    pub below : best < n
    pub waiting : waits s named best ≡ true
    pub smallest : (k : ℕ) → k < n → waits s named k ≡ true → (granted_at s best + 1) * share_at s k ≤ (granted_at s k + 1) * share_at s best
    pub lowest : (k : ℕ) → k < best → waits s named k ≡ true → (granted_at s best + 1) * share_at s k < (granted_at s k + 1) * share_at s best

  abbrev smaller : ℕ → ℕ → Bool
  smaller n best = sooner (granted_at s n) (share_at s n) (granted_at s best) (share_at s best)

  passed-by : (n best : ℕ) → waits s named n ≡ false → turn s named n best ≡ best
  unfolding turn
  passed-by n best e = choose-false _ n best (rw e)

  first_one : (n : ℕ) → waits s named n ≡ true → turn s named n 16 ≡ n
  unfolding turn
  first_one n e = choose-true _ n 16 (rw e)

  overtaken : (n best : ℕ) → waits s named n ≡ true → smaller n best ≡ true → turn s named n best ≡ n
  unfolding turn
  overtaken n best e t = choose-true _ n best (rw (e, t) (or-true (leb 16 best)))

  stays : (n best : ℕ) → best < 16 → smaller n best ≡ false → turn s named n best ≡ best
  unfolding turn
  stays n best h t = choose-false _ n best (rw (t, lt-leb 16 best h) (and-right-false (waits s named n) false refl))

  more : (n best : ℕ) → n < 16 → Nobody n best ⊎ Best n best → Nobody (suc n) (turn s named n best) ⊎ Best (suc n) (turn s named n best)
  unfolding sooner
  more n best few = ⊎_elim (λ (b : Nobody n best). idle b (waits s named n) refl) (λ (b : Best n best). led b (waits s named n) refl)
    where
      idle : Nobody n best → (t : Bool) → waits s named n ≡ t → Nobody (suc n) (turn s named n best) ⊎ Best (suc n) (turn s named n best)
      idle b false e =
          inl
          (subst (Nobody (suc n)) (sym (passed-by n best e))
          (record { none = b.none; idle = λ k h. ⊎_elim (λ (a : k < n). b.idle k a) (λ (q : n ≡ k). subst (λ (m : ℕ). waits s named m ≡ false) q e) (lt-or-eq k n h) }))
      idle b true e =
          inr
          (subst (Best (suc n)) (sym (ap (turn s named n) b.none ∙ first_one n e))
          (record {
            below = omega arith;
            waiting = e;
            smallest = λ k h w. ⊎_elim (λ (a : k < n). never w (b.idle k a)) (λ (q : n ≡ k). subst (λ (m : ℕ). (granted_at s n + 1) * share_at s m ≤ (granted_at s m + 1) * share_at s n) q (omega arith)) (lt-or-eq k n h);
            lowest = λ k h w. never w (b.idle k h);
          }))

      led : Best n best → (t : Bool) → waits s named n ≡ t → Nobody (suc n) (turn s named n best) ⊎ Best (suc n) (turn s named n best)
      led b false e =
          inr
          (subst (Best (suc n)) (sym (passed-by n best e))
          (record {
            below = omega (arith, b.below);
            waiting = b.waiting;
            smallest = λ k h w. ⊎_elim (λ (a : k < n). b.smallest k a w) (λ (q : n ≡ k). never w (subst (λ (m : ℕ). waits s named m ≡ false) q e)) (lt-or-eq k n h);
            lowest = b.lowest;
          }))
      led b true e = race (smaller n best) refl
        where
          race : (t : Bool) → smaller n best ≡ t → Nobody (suc n) (turn s named n best) ⊎ Best (suc n) (turn s named n best)
          race true t =
              let ahead : (k : ℕ) → k < n → waits s named k ≡ true → (granted_at s n + 1) * share_at s k < (granted_at s k + 1) * share_at s n =
              λ k a w. cross (granted_at s n + 1) (share_at s n) (granted_at s best + 1) (share_at s best) (granted_at s k + 1) (share_at s k) (has-share k (omega arith) w) (ltb-true _ _ t) (b.smallest k a w)
              in
              inr
              (subst (Best (suc n)) (sym (overtaken n best e t))
              (record {
                below = omega arith;
                waiting = e;
                smallest = λ k h w. ⊎_elim (λ (a : k < n). le_of_lt (ahead k a w)) (λ (q : n ≡ k). subst (λ (m : ℕ). (granted_at s n + 1) * share_at s m ≤ (granted_at s m + 1) * share_at s n) q (omega arith)) (lt-or-eq k n h);
                lowest = ahead;
              }))
          race false t =
              inr
              (subst (Best (suc n)) (sym (stays n best (omega (arith, b.below)) t))
              (record {
                below = omega (arith, b.below);
                waiting = b.waiting;
                smallest = λ k h w. ⊎_elim (λ (a : k < n). b.smallest k a w) (λ (q : n ≡ k). subst (λ (m : ℕ). (granted_at s best + 1) * share_at s m ≤ (granted_at s m + 1) * share_at s best) q (ltb-false _ _ t)) (lt-or-eq k n h);
                lowest = b.lowest;
              }))

  pub best_of : (n : ℕ) → n ≤ 16 → Nobody n (fold_to (turn s named) 16 n) ⊎ Best n (fold_to (turn s named) 16 n)
  unfolding fold_to
  best_of zero h = inl (record { none = refl; idle = λ k a. absurd (not-suc-le-zero a) })
  best_of (suc n) h = more n (fold_to (turn s named) 16 n) h (best_of n (omega arith))
