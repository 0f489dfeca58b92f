-- The table's rule, tested over the whole table once and carried to each level; and that the moduli rise. Assumes nothing.
use mathlib.Core.Path.{◌≡◌, refl, sym, ap, subst, ◌∙◌}
use mathlib.Core.Bool.{Bool, true, false, not, ◌&&◌}
use mathlib.Core.List.{List, [], ◌∷◌, map}
use Prim.Native.Nat.{ℕ, zero, suc, ◌+◌, ◌-◌, ◌≤◌, ◌<◌}
use native.Mathlib.Nat.{add-zero, add-suc, le_of_suc-le-suc, not-suc-le-zero}
use native.Mathlib.Omega.{arith}
use lib.Dec.{T, eqb, eqb→eq}
use lib.ListN.{length, get_or}
use lib.Ieee.{Float, nan, binary64, fits, is_nan, to_bits, of_bits, lt, le, mul, div, add, sub, of_int}
use lib.Ieee.Bits.{of_bits-to_bits, is_true}
use lib.Ieee.Fits.{mul-fits, and_l, and_r}
use Rattle.std.specs.List.Sorted.{IsPartitionedBy, IsPartitionPoint}
use Rattle.lists.proofs.Laws.{get_or_any}
use Rattle.ieee.proofs.Order.{le_reflexive, le_transitive, le-number, le_not_lt}
use Rattle.ieee.proofs.Bounds.{lt-le, not-lt-le}
use Rattle.ieee.proofs.Basic.{lt-left, holds}
use Rattle.topo.specs.Levels.{modulus_of, density_of}
use Rattle.topo_moduli.specs.Moduli.{modulus_at}
use Rattle.topo_moduli.proofs.Patterns.{patterns}
use Rattle.topo_moduli.proofs.Whole.{every, at}

-- a pattern is that of the formula
right : ℕ → ℕ → Bool
right level x = eqb x (to_bits binary64 (modulus_at level))

tested : T (every right 0 patterns)
unfolding right patterns modulus_at modulus_of density_of mul div add sub of_int of_bits to_bits
tested = tt

get_or_map : (l : List ℕ) (k : ℕ) → k < length l → get_or (map (of_bits binary64) l) k nan ≡ of_bits binary64 (get_or l k 0)
get_or_map [] k h = absurd (not-suc-le-zero h)
get_or_map (x ∷ l) zero h = refl
get_or_map (x ∷ l) (suc k) h = get_or_map l k (le_of_suc-le-suc h)

pub modulus-fits : (level : ℕ) → T (fits binary64 (modulus_at level))
unfolding modulus_at modulus_of
modulus-fits level = mul-fits binary64 _ _

-- "each entry equal to the formula of `modulus`"
pub entry : (level : ℕ) → level < 1001 → get_or (map (of_bits binary64) patterns) level nan ≡ modulus_at level
unfolding right patterns
entry level h = get_or_map patterns level h ∙ ap (of_bits binary64) (eqb→eq _ _ (at right patterns 0 tested level h)) ∙ of_bits-to_bits binary64 (modulus_at level) (modulus-fits level)

-- ---- the moduli rise
-- each pattern is of a float below the next one's
climbs : List ℕ → Bool
climbs [] = true
climbs (x ∷ []) = true
climbs (x ∷ y ∷ l) = lt (of_bits binary64 x) (of_bits binary64 y) && climbs (y ∷ l)

climbing : T (climbs patterns)
unfolding climbs patterns of_bits lt
climbing = tt

climbs-at : (l : List ℕ) (k : ℕ) → T (climbs l) → suc k < length l → T (lt (of_bits binary64 (get_or l k 0)) (of_bits binary64 (get_or l (suc k) 0)))
unfolding climbs
climbs-at [] k t h = absurd (not-suc-le-zero h)
climbs-at (x ∷ []) k t h = absurd (not-suc-le-zero (le_of_suc-le-suc h))
climbs-at (x ∷ y ∷ l) zero t h = and_l (lt (of_bits binary64 x) (of_bits binary64 y)) (climbs (y ∷ l)) t
climbs-at (x ∷ y ∷ l) (suc k) t h = climbs-at (y ∷ l) k (and_r (lt (of_bits binary64 x) (of_bits binary64 y)) (climbs (y ∷ l)) t) (le_of_suc-le-suc h)

is-pattern : (level : ℕ) → level < 1001 → of_bits binary64 (get_or patterns level 0) ≡ modulus_at level
unfolding patterns
is-pattern level h = sym (get_or_map patterns level h) ∙ entry level h

next-above : (level : ℕ) → level < 1000 → T (lt (modulus_at level) (modulus_at (suc level)))
unfolding patterns
next-above level h =
    subst (λ (x : Float). T (lt x (modulus_at (suc level)))) (is-pattern level (omega arith))
    (subst (λ (y : Float). T (lt (of_bits binary64 (get_or patterns level 0)) y)) (is-pattern (suc level) (omega arith)) (climbs-at patterns level climbing (omega arith)))

step : (level : ℕ) → level < 1000 → T (le (modulus_at level) (modulus_at (suc level)))
step level h = lt-le (modulus_at level) (modulus_at (suc level)) (is_true (lt (modulus_at level) (modulus_at (suc level))) (next-above level h))

pub modulus-number : (level : ℕ) → level < 1001 → T (not (is_nan (modulus_at level)))
modulus-number zero h = lt-number (modulus_at 0) (modulus_at 1) (is_true (lt (modulus_at 0) (modulus_at 1)) (next-above 0 (omega arith)))
  where
    lt-number : (x y : Float) → lt x y ≡ true → T (not (is_nan x))
    lt-number x y e = subst (λ (b : Bool). T (not b)) (sym (lt-left x y e)) tt
modulus-number (suc level) h = le-number (modulus_at level) (modulus_at (suc level)) (step level (omega arith))

-- a higher level's modulus is at least a lower one's
pub at_least : (a b : ℕ) → a ≤ b → b < 1001 → T (le (modulus_at a) (modulus_at b))
at_least a b h few = subst (λ (k : ℕ). T (le (modulus_at a) (modulus_at k))) (up_to a b h) (on (b - a) (subst (λ (k : ℕ). k < 1001) (sym (up_to a b h)) few))
  where
    up_to : (a b : ℕ) → a ≤ b → a + (b - a) ≡ b
    up_to a b h = omega arith

    on : (n : ℕ) → a + n < 1001 → T (le (modulus_at a) (modulus_at (a + n)))
    on zero h = rw (add-zero a) (le_reflexive (modulus_at a) (modulus-number a (omega arith)))
    on (suc n) h = rw (add-suc a n) (le_transitive (modulus_at a) (modulus_at (a + n)) (modulus_at (suc (a + n))) (on n (omega arith)) (step (a + n) (omega arith)))

-- a lower level's modulus is below a higher one's
pub rising : (a b : ℕ) → a < b → b < 1001 → lt (modulus_at a) (modulus_at b) ≡ true
rising a b h few = go (lt (modulus_at a) (modulus_at b)) refl
  where
    go : (t : Bool) → lt (modulus_at a) (modulus_at b) ≡ t → t ≡ true
    go true e = refl
    go false e =
        let back : T (le (modulus_at b) (modulus_at a)) = not-lt-le (modulus_at a) (modulus_at b) (modulus-number a (omega arith)) (modulus-number b few) e in
        let after : T (le (modulus_at (suc a)) (modulus_at a)) = le_transitive (modulus_at (suc a)) (modulus_at b) (modulus_at a) (at_least (suc a) b h few) back in
        sym (le_not_lt (modulus_at (suc a)) (modulus_at a) after) ∙ is_true (lt (modulus_at a) (modulus_at (suc a))) (next-above a (omega arith))

-- ---- the table
abbrev pub moduli : List Float
moduli = map (of_bits binary64) patterns

pub length-moduli : length moduli ≡ 1001
unfolding patterns
length-moduli = refl

pub at_level : (level : ℕ) (d : Float) → level < 1001 → get_or moduli level d ≡ modulus_at level
at_level level d h = get_or_any moduli level d nan (omega (arith, length-moduli)) ∙ entry level h

-- those that are not above x come first
pub parted : (x : Float) → IsPartitionedBy (λ y. le y x) moduli
parted x i j d h lt e =
    let few : j < 1001 = omega (arith, length-moduli) in
    let f : le (modulus_at j) x ≡ true = sym (ap (λ (y : Float). le y x) (at_level j d few)) ∙ e in
    ap (λ (y : Float). le y x) (at_level i d (omega arith))
    ∙ is_true (le (modulus_at i) x) (le_transitive (modulus_at i) (modulus_at j) x (at_least i j h few) (holds (le (modulus_at j) x) f))

module _ (x : Float) (n : ℕ) (few : n ≤ 1001) (h : IsPartitionPoint (λ y. le y x ≡ true) (λ y. le y x ≡ false) moduli n) where
  pub not-above : (k : ℕ) → k < n → le (modulus_at k) x ≡ true
  not-above k lt = sym (ap (λ (y : Float). le y x) (at_level k nan (omega arith))) ∙ h.0 k nan (omega arith) lt

  pub all-above : (k : ℕ) → n ≤ k → k < 1001 → le (modulus_at k) x ≡ false
  all-above k le' lt = sym (ap (λ (y : Float). le y x) (at_level k nan lt)) ∙ h.1 k nan le' (omega (arith, length-moduli))
