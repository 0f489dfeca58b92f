-- The greatest level at which a test holds, and the way from a stiffness to a level and back. Assumes nothing.
use mathlib.Core.Path.{◌≡◌, refl, sym, ap, subst, ◌∙◌}
use mathlib.Core.Bool.{Bool, true, false, beq, not, ◌&&◌, ◌||◌}
use mathlib.Core.Logic.{⊎_elim}
use Prim.Native.Nat.{ℕ, zero, suc, ◌*◌, ◌-◌, ◌≤◌, ◌<◌}
use native.Mathlib.Nat.{not-suc-le-zero, le_of_suc-le-suc, eq-or-lt_of_le}
use native.Mathlib.Omega.{arith}
use lib.Dec.{T, eqb}
use lib.Ieee.{Float, nan, inf, fin, up, down, level as levels, is_nan, lt, le, eq}
use lib.Ieee.Bits.{is_true}
use borrow.Author.Tests.{eqb-true, eq-eqb}
use Rattle.lists.proofs.Bools.{never, and-true, le-or-lt}
use Rattle.lists.proofs.Laws.{choose-true, choose-false, both}
use Rattle.ieee.proofs.Basic.{holds}
use Rattle.ieee.proofs.Order.{le_transitive, le-number, le_not_lt}
use Rattle.ieee.proofs.Bounds.{not-lt-le}
use Rattle.std.proofs.Common.{Some, None}
use Rattle.topo_moduli.specs.Moduli.{modulus_at, greatest, inside, level_with, level_below, GreatestBelow, Back}
use Rattle.topo_moduli.proofs.Moduli.{modulus-number, at_least, rising}

-- ---- the greatest level at which p holds
pub greatest-none : (p : ℕ → Bool) (n : ℕ) → ((k : ℕ) → k < n → p k ≡ false) → greatest p n ≡ None
unfolding greatest
greatest-none p zero h = refl
greatest-none p (suc n) h = choose-false (p n) (Some n) (greatest p n) (h n (omega arith)) ∙ greatest-none p n (λ k b. h k (omega arith))

pub greatest-at : (p : ℕ → Bool) (n level : ℕ) → level < n → p level ≡ true → ((k : ℕ) → level < k → k < n → p k ≡ false) → greatest p n ≡ Some level
unfolding greatest
greatest-at p zero level h e above = absurd (not-suc-le-zero h)
greatest-at p (suc n) level h e above =
    ⊎_elim
    (λ (q : level ≡ n). choose-true (p n) (Some n) (greatest p n) (ap p (sym q) ∙ e) ∙ ap Some (sym q))
    (λ (b : level < n). choose-false (p n) (Some n) (greatest p n) (above n b (omega arith)) ∙ greatest-at p n level b e (λ k c d. above k c (omega arith)))
    (eq-or-lt_of_le (le_of_suc-le-suc h))

-- what it is, where it is a level: p holds there and at no level above
pub record Greatest (p : ℕ → Bool) (n level : ℕ) : Type 0 where
  pub few : level < n
  pub holds-there : p level ≡ true
  pub not-above : (k : ℕ) → level < k → k < n → p k ≡ false

pub greatest-is : (p : ℕ → Bool) (n level : ℕ) → greatest p n ≡ Some level → Greatest p n level
unfolding greatest
greatest-is p zero level e = absurd (let z : ◌≡◌ {A = ℕ} 0 1 = cc in omega arith)
greatest-is p (suc n) level e = go (greatest-is p n level) (p n) refl
  where
    go : (greatest p n ≡ Some level → Greatest p n level) → (t : Bool) → p n ≡ t → Greatest p (suc n) level
    go lower true q =
        let same : n ≡ level = cc (choose-true (p n) (Some n) (greatest p n) q) in
        record { few = omega arith; holds-there = ap p (sym same) ∙ q; not-above = λ k a b. absurd (omega arith) }
    go lower false q =
        let r : Greatest p n level = lower (sym (choose-false (p n) (Some n) (greatest p n) q) ∙ e) in
        record { few = omega (arith, r.few); holds-there = r.holds-there; not-above = λ k a b. ⊎_elim (λ (s : k ≡ n). ap p s ∙ q) (λ (c : k < n). r.not-above k a c) (eq-or-lt_of_le (le_of_suc-le-suc b)) }

pub none-holds : (p : ℕ → Bool) (n : ℕ) → greatest p n ≡ None → (k : ℕ) → k < n → p k ≡ false
unfolding greatest
none-holds p zero e k h = absurd (not-suc-le-zero h)
none-holds p (suc n) e k h = go (none-holds p n) (p n) refl
  where
    go : (greatest p n ≡ None → (k : ℕ) → k < n → p k ≡ false) → (t : Bool) → p n ≡ t → p k ≡ false
    go lower true q = absurd (let z : ◌≡◌ {A = ℕ} 0 1 = cc (choose-true (p n) (Some n) (greatest p n) q) in omega arith)
    go lower false q = ⊎_elim (λ (s : k ≡ n). ap p s ∙ q) (λ (b : k < n). lower (sym (choose-false (p n) (Some n) (greatest p n) q) ∙ e) k b) (eq-or-lt_of_le (le_of_suc-le-suc h))

-- ---- equal numbers are each at most the other
swapped : (s t : Bool) (a b : ℕ) → levels s a t b ≡ true → levels t b s a ≡ true
swapped s t a b e =
    let same : a ≡ b = eqb-true a b (both (eqb a b) _ e).0 in
    subst (λ (c : ℕ). levels t c s a ≡ true) same (and-true (eqb a a) _ (eq-eqb a a refl) (signs s t (eqb a 0) (both (eqb a b) _ e).1))
  where
    signs : (s t z : Bool) → (beq s t || z) ≡ true → (beq t s || z) ≡ true
    signs true true z h = h
    signs true false z h = h
    signs false true z h = h
    signs false false z h = h

eq_swap : (x y : Float) → eq x y ≡ true → eq y x ≡ true
unfolding eq
eq_swap nan y e = never e refl
eq_swap (inf s) nan e = never e refl
eq_swap (inf true) (inf true) e = refl
eq_swap (inf true) (inf false) e = never e refl
eq_swap (inf false) (inf true) e = never e refl
eq_swap (inf false) (inf false) e = refl
eq_swap (inf s) (fin t n d) e = never e refl
eq_swap (fin s m e) nan h = never h refl
eq_swap (fin s m e) (inf t) h = never h refl
eq_swap (fin s m e) (fin t n d) h = swapped s t (m * up e * down d) (n * up d * down e) h

eq-le : (x y : Float) → eq x y ≡ true → T (le x y)
unfolding le
eq-le x y e = go (lt x y) (eq x y) e
  where
    go : (a b : Bool) → b ≡ true → T (a || b)
    go true b e = tt
    go false b e = holds b e

eq-itself : (x : Float) → T (le x x) → eq x x ≡ true
unfolding le
eq-itself x t = go (lt x x) (eq x x) t (le_not_lt x x t)
  where
    go : (a b : Bool) → T (a || b) → a ≡ false → b ≡ true
    go true b t e = never refl e
    go false b t e = is_true b t

-- ---- a number from the lowest to the highest modulus
abbrev below : Float → ℕ → Bool
below x level = le (modulus_at level) x

-- the code's test of the two ends
pub ends : (x a b : Float) (t : Bool) → a ≡ modulus_at 0 → b ≡ modulus_at 1000 → (le a x && le x b) ≡ t → inside x ≡ t
unfolding inside
ends x a b t e f h = sym (λ i. le (e i) x && le x (f i)) ∙ h

-- a modulus above x has only such above it
pub above : (x : Float) (j : ℕ) → below x j ≡ false → (k : ℕ) → j ≤ k → k < 1001 → below x k ≡ false
above x j e k h few = go (below x k) refl
  where
    go : (t : Bool) → below x k ≡ t → t ≡ false
    go true q = sym (is_true (below x j) (le_transitive (modulus_at j) (modulus_at k) x (at_least j k h few) (holds (below x k) q))) ∙ e
    go false q = refl

pub below-is : (x : Float) (level : ℕ) → inside x ≡ true → level < 1001 → below x level ≡ true → ((k : ℕ) → level < k → k < 1001 → below x k ≡ false) → Some level ≡ level_below x
unfolding level_below
below-is x level i few e over = sym (choose-true (inside x) (greatest (below x) 1001) None i ∙ greatest-at (below x) 1001 level few e over)

-- the levels below n, and no other, have a modulus that is not above x
pub below-first : (x : Float) (n : ℕ) → inside x ≡ true → n ≤ 1001 → ((k : ℕ) → k < n → below x k ≡ true) → ((k : ℕ) → n ≤ k → k < 1001 → below x k ≡ false) → Some (n - 1) ≡ level_below x
unfolding inside
below-first x n i few under over =
    let some : 0 < n = ⊎_elim (λ (h : n ≤ 0). never (both (below x 0) _ i).0 (over 0 h (omega arith))) (λ (h : 0 < n). h) (le-or-lt n 0) in
    below-is x (n - 1) i (omega arith) (under (n - 1) (omega arith)) (λ k a b. over k (omega arith) b)

pub below_none : (x : Float) → inside x ≡ false → None ≡ level_below x
unfolding level_below
below_none x e = sym (choose-false (inside x) (greatest (below x) 1001) None e)

found_below : (x : Float) (level : ℕ) → level_below x ≡ Some level → Greatest (below x) 1001 level
unfolding level_below
found_below x level e = go (inside x) refl
  where
    go : (t : Bool) → inside x ≡ t → Greatest (below x) 1001 level
    go true q = greatest-is (below x) 1001 level (sym (choose-true (inside x) (greatest (below x) 1001) None q) ∙ e)
    go false q = absurd (let z : ◌≡◌ {A = ℕ} 0 1 = cc (choose-false (inside x) (greatest (below x) 1001) None q) in omega arith)

pub greatest-below : (x : Float) (level : ℕ) → level_below x ≡ Some level → GreatestBelow x level
greatest-below x level e =
    let r : Greatest (below x) 1001 level = found_below x level e in
    record { few = r.few; not-above = r.holds-there; next-above = λ k h b. not-below k b (r.not-above k h b) (le-number (modulus_at level) x (holds (below x level) r.holds-there)) (lt x (modulus_at k)) refl }
  where
    not-below : (k : ℕ) → k < 1001 → below x k ≡ false → T (not (is_nan x)) → (t : Bool) → lt x (modulus_at k) ≡ t → t ≡ true
    not-below k b e n true q = refl
    not-below k b e n false q = sym e ∙ is_true (below x k) (not-lt-le x (modulus_at k) n (modulus-number k b) q)

-- 29 is given exactly outside the two ends, or where x is not a number
pub outside : (x : Float) → level_below x ≡ None → inside x ≡ false
unfolding level_below inside
outside x e = go (inside x) refl
  where
    go : (t : Bool) → inside x ≡ t → t ≡ false
    go true q =
        let none : greatest (below x) 1001 ≡ None = sym (choose-true (inside x) (greatest (below x) 1001) None q) ∙ e in
        sym (both (below x 0) _ q).0 ∙ none-holds (below x) 1001 none 0 (omega arith)
    go false q = refl

-- ---- a modulus
abbrev has : Float → ℕ → Bool
has m level = eq (modulus_at level) m

-- a level that has the modulus m is m's greatest below
has-inside : (m : Float) (level : ℕ) → level < 1001 → has m level ≡ true → inside m ≡ true
unfolding inside
has-inside m level few e =
    let lower : below m 0 ≡ true = is_true (below m 0) (le_transitive (modulus_at 0) (modulus_at level) m (at_least 0 level (omega arith) few) (eq-le (modulus_at level) m e)) in
    let upper : le m (modulus_at 1000) ≡ true = is_true (le m (modulus_at 1000)) (le_transitive m (modulus_at level) (modulus_at 1000) (eq-le m (modulus_at level) (eq_swap (modulus_at level) m e)) (at_least level 1000 (omega arith) (omega arith))) in
    rw (lower, upper)

-- no level above one that has m is below m
has-not-above : (m : Float) (level : ℕ) → has m level ≡ true → (k : ℕ) → level < k → k < 1001 → below m k ≡ false
has-not-above m level e k h few = go (below m k) refl
  where
    go : (t : Bool) → below m k ≡ t → t ≡ false
    go true q =
        let back : T (le (modulus_at k) (modulus_at level)) = le_transitive (modulus_at k) m (modulus_at level) (holds (below m k) q) (eq-le m (modulus_at level) (eq_swap (modulus_at level) m e)) in
        sym (rising level k h few) ∙ le_not_lt (modulus_at k) (modulus_at level) back
    go false q = refl

-- what is equal is not above
eq-below : (m : Float) (k : ℕ) → below m k ≡ false → has m k ≡ false
eq-below m k e = go (has m k) refl
  where
    go : (t : Bool) → has m k ≡ t → t ≡ false
    go true q = sym (is_true (below m k) (eq-le (modulus_at k) m q)) ∙ e
    go false q = refl

pub with-is : (m : Float) (level : ℕ) → level < 1001 → has m level ≡ true → Some level ≡ level_with m
unfolding level_with
with-is m level few e = sym (greatest-at (has m) 1001 level few e (λ k h b. eq-below m k (has-not-above m level e k h b)))

-- no level has a modulus that its greatest below has not
pub with_none : (m : Float) (level : ℕ) → level_below m ≡ Some level → has m level ≡ false → None ≡ level_with m
unfolding level_with
with_none m level e differs = sym (greatest-none (has m) 1001 (λ k few. go k few (has m k) refl))
  where
    go : (k : ℕ) → k < 1001 → (t : Bool) → has m k ≡ t → t ≡ false
    go k few true q =
        let is : Some level ≡ Some k = sym e ∙ sym (below-is m k (has-inside m k few q) few (is_true (below m k) (eq-le (modulus_at k) m q)) (has-not-above m k q)) in
        let same : level ≡ k = cc in
        sym q ∙ ap (has m) (sym same) ∙ differs
    go k few false q = refl

pub with-outside : (m : Float) → level_below m ≡ None → None ≡ level_with m
unfolding level_with
with-outside m e = sym (greatest-none (has m) 1001 (λ k few. go k few (has m k) refl))
  where
    go : (k : ℕ) → k < 1001 → (t : Bool) → has m k ≡ t → t ≡ false
    go k few true q = sym (has-inside m k few q) ∙ outside m e
    go k few false q = refl

-- "from any of these 1,001 the way there and back is the same level"
pub there_and_back : (level : ℕ) → level < 1001 → level_with (modulus_at level) ≡ Some level
there_and_back level few = sym (with-is (modulus_at level) level few (eq-itself (modulus_at level) (at_least level level (omega arith) few)))

pub back : Back
unfolding level_with
back =
    record {
      rising = rising;
      there_and_back = there_and_back;
      below = greatest-below;
      outside = outside;
      outside-none = λ x e. sym (below_none x e);
      no-level = λ m e. none-holds (has m) 1001 e;
      no-level-none = λ m h. greatest-none (has m) 1001 h;
    }
