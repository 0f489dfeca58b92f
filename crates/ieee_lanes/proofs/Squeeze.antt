-- Bounds for the continued fraction: a turn takes bounds to bounds, since sums keep the order and quotients turn it, and what lies between bounds that
-- meet is either. Assumes nothing.
use mathlib.Core.Path.{◌≡◌, refl, sym, ap, ◌∙◌, subst}
use mathlib.Core.Bool.{true, false, ◌&&◌}
use Prim.Native.Nat.{ℕ, zero, suc, ◌+◌, ◌-◌, ◌*◌, ◌≤◌, ◌<◌}
use native.Mathlib.Nat.{le_antisymm}
use native.Mathlib.Omega.{arith}
use native.Mathlib.Numerals.{add-one}
use lib.Dec.{T}
use lib.Ieee.{Float, nan, inf, fin, binary64, add, mul, div, round, lt, le, fits, of_bits, of_int, sum, units, is_nan}
use lib.Ieee.Fits.{add-fits, round-fits}
use lib.Ieee.Order.{round_mono}
use lib.Ieee.Positive.{positive, between}
use Rattle.lists.specs.Lists.{zero64}
use Rattle.lists.proofs.Laws.{fold_to-none, fold_to-more, both}
use Rattle.ieee.specs.Basic.{one64, whole64}
use Rattle.ieee_tanh.specs.Tanh.{lambert}
use Rattle.ieee.proofs.Basic.{holds}
use Rattle.ieee.proofs.Order.{plus_zero, le_parts, le_transitive, le_reflexive}
use Rattle.ieee_lanes.specs.Fraction.{fraction, small_of, sixty_four, Between}
use Rattle.ieee_lanes.proofs.Order.{Plus, Finite, positive-finite, finite-plus, plus-above, lt_of_le_of_lt, round-plus, add-grows, div-plus, div-falls, positive_of-tests}
use Rattle.ieee_lanes.proofs.Same.{one_float}

-- ---- the fraction
pub fraction-none : (q : Float) → whole64 63 ≡ fraction q 0
unfolding fraction
fraction-none q = sym (fold_to-none (λ i r. add binary64 (whole64 (61 - 2 * i)) (div binary64 q r)) (whole64 63))

pub fraction-more : (q r : Float) (i : ℕ) → r ≡ fraction q i → add binary64 (whole64 (61 - 2 * i)) (div binary64 q r) ≡ fraction q (i + 1)
unfolding fraction
fraction-more q r i h = ap (λ (t : Float). add binary64 (whole64 (61 - 2 * i)) (div binary64 q t)) h ∙ fold_to-more (λ i r. add binary64 (whole64 (61 - 2 * i)) (div binary64 q r)) (whole64 63) i

pub fraction-is : (z : Float) (n : ℕ) → fraction (mul binary64 z z) n ≡ lambert z n
unfolding fraction lambert
fraction-is z n = refl

-- ---- whole numbers
whole_mono : (j k : ℕ) → j ≤ k → T (le (whole64 j) (whole64 k))
unfolding of_int
whole_mono j k h = round_mono binary64 j 1 k 1 (omega arith) (omega arith) (omega arith)

whole-plus : (k : ℕ) → Plus (whole64 k)
unfolding of_int
whole-plus k = round-plus binary64 k 1

one-is : whole64 1 ≡ one64
unfolding of_int of_bits round units
one-is = refl

sixty-four-is : whole64 64 ≡ sixty_four
unfolding of_int of_bits round units
sixty-four-is = refl

one-positive : T (positive one64)
unfolding of_bits
one-positive = tt

most-positive : T (positive sixty_four)
unfolding of_bits
most-positive = tt

pub inside : (x : Float) → T (le one64 x) → T (le x sixty_four) → T (positive x)
inside x h k = between one64 x sixty_four one-positive most-positive h k

-- ---- a small square
module _ (q : Float) (s : small_of q ≡ true) where
  tests : (lt zero64 q ≡ true) × (le q one64 ≡ true) × (le (div binary64 q one64) one64 ≡ true)
  unfolding small_of
  tests =
      let a = both (lt zero64 q && le q one64) (le (div binary64 q one64) one64) s in
      let b = both (lt zero64 q) (le q one64) a.0 in
      (b.0, b.1, a.1)

  one_below : lt one64 (inf false) ≡ true
  unfolding lt of_bits
  one_below = refl

  square : Finite q
  square = positive-finite q (positive_of-tests q tests.0 (lt_of_le_of_lt q one64 (inf false) (holds (le q one64) tests.1) one_below))

  module _ (i : ℕ) (h : i < 31) where
    abbrev k : Float
    k = whole64 (61 - 2 * i)

    k-least : T (le one64 k)
    k-least = subst (λ (v : Float). T (le v k)) one-is (whole_mono 1 (61 - 2 * i) (omega arith))

    k-most : T (le k (whole64 61))
    k-most = whole_mono (61 - 2 * i) 61 (omega arith)

    -- a turn from a number between 1 and 64 gives such a number
    module _ (x : Float) (l : T (le one64 x)) (u : T (le x sixty_four)) where
      share : Plus (div binary64 q x)
      share = div-plus binary64 q x square (inside x l u)

      turn-least : T (le one64 (add binary64 k (div binary64 q x)))
      turn-least =
          subst (λ (v : Float). T (le v (add binary64 k (div binary64 q x)))) one-and-none
          (add-grows binary64 one64 plus_zero k (div binary64 q x) (finite-plus one64 (positive-finite one64 one-positive)) none-plus (whole-plus (61 - 2 * i)) share k-least (plus-above (div binary64 q x) share))
        where
          one-and-none : add binary64 one64 plus_zero ≡ one64
          one-and-none = unfold add sum round units of_bits in refl

          none-plus : Plus plus_zero
          none-plus = record { number = unfold is_nan in tt; sign = refl }

      turn-most : T (le (add binary64 k (div binary64 q x)) sixty_four)
      turn-most =
          le_transitive (add binary64 k (div binary64 q x)) (add binary64 (whole64 61) one64) sixty_four
          (add-grows binary64 k (div binary64 q x) (whole64 61) one64 (whole-plus (61 - 2 * i)) share (whole-plus 61) (finite-plus one64 (positive-finite one64 one-positive)) k-most
          (le_transitive (div binary64 q x) (div binary64 q one64) one64 (div-falls binary64 q one64 x square one-positive (inside x l u) l) (holds (le (div binary64 q one64) one64) tests.2)))
          sixty-two
        where
          sixty-two : T (le (add binary64 (whole64 61) one64) sixty_four)
          sixty-two = unfold le add sum round units of_int of_bits in tt

    -- a turn from a number at least another gives at most what that gives
    turn-falls : (x y : Float) → T (le one64 x) → T (le x y) → T (le y sixty_four) → T (le (add binary64 k (div binary64 q y)) (add binary64 k (div binary64 q x)))
    turn-falls x y l m u =
        let a = le_transitive x y sixty_four m u in
        let b = le_transitive one64 x y l m in
        add-grows binary64 k (div binary64 q y) k (div binary64 q x) (whole-plus (61 - 2 * i)) (share y b u) (whole-plus (61 - 2 * i)) (share x l a)
        (le_reflexive k (whole-plus (61 - 2 * i)).number) (div-falls binary64 q x y square (inside x l a) (inside y b u) m)

    pub step : (low high : Float) → Between (fraction q i) low high → Between (fraction q (i + 1)) (add binary64 k (div binary64 q high)) (add binary64 k (div binary64 q low))
    step low high b =
        let r = fraction q i in
        let lr = le_transitive one64 low r b.least b.below in
        let ru = le_transitive r high sixty_four b.above b.most in
        let lh = le_transitive one64 r high lr b.above in
        let lu = le_transitive low r sixty_four b.below ru in
        let e = fraction-more q r i refl in
        record {
          least = turn-least high lh b.most;
          below = subst (λ (v : Float). T (le (add binary64 k (div binary64 q high)) v)) e (turn-falls r high lr b.above b.most);
          above = subst (λ (v : Float). T (le v (add binary64 k (div binary64 q low)))) e (turn-falls low r b.least b.below ru);
          most = turn-most low b.least lu;
          fit = add-fits binary64 k (div binary64 q high);
        }

  -- at every turn it lies between 1 and 64
  within : (i : ℕ) → i ≤ 31 → (T (le one64 (fraction q i)) × T (le (fraction q i) sixty_four))
  within zero h =
      let e = fraction-none q in (
        subst (λ (v : Float). T (le one64 v)) e (subst (λ (v : Float). T (le v (whole64 63))) one-is (whole_mono 1 63 (omega arith))),
        subst (λ (v : Float). T (le v sixty_four)) e (subst (λ (v : Float). T (le (whole64 63) v)) sixty-four-is (whole_mono 63 64 (omega arith))),
      )
  within (suc i) h =
      let w = within i (omega arith) in
      let e = fraction-more q (fraction q i) i refl ∙ ap (fraction q) (add-one i) in (
        subst (λ (v : Float). T (le one64 v)) e (turn-least i (omega arith) (fraction q i) w.0 w.1),
        subst (λ (v : Float). T (le v sixty_four)) e (turn-most i (omega arith) (fraction q i) w.0 w.1),
      )

  pub begun : (i : ℕ) → i < 31 → Between (fraction q i) one64 sixty_four
  unfolding of_bits is_nan fits
  begun i h =
      let w = within i (omega arith) in
      record { least = le_reflexive one64 tt; below = w.0; above = w.1; most = le_reflexive sixty_four tt; fit = tt }

-- ---- bounds that meet
one_of_two : (x y : Float) → T (positive x) → T (positive y) → T (fits binary64 x) → T (fits binary64 y) → T (le x y) → T (le y x) → x ≡ y
one_of_two nan y p q f g h k = absurd p
one_of_two (inf s) y p q f g h k = absurd p
one_of_two (fin true m e) y p q f g h k = absurd p
one_of_two (fin false m e) nan p q f g h k = absurd q
one_of_two (fin false m e) (inf s) p q f g h k = absurd q
one_of_two (fin false m e) (fin true n d) p q f g h k = absurd q
one_of_two (fin false m e) (fin false n d) p q f g h k =
    one_float false m e n d f g (le_antisymm (le_parts false m e false n d h).up (le_parts false n d false m e k).up)

fraction-fits : (q : Float) (i : ℕ) → T (fits binary64 (fraction q i))
unfolding of_int
fraction-fits q zero = subst (λ (v : Float). T (fits binary64 v)) (fraction-none q) (round-fits binary64 false 63 1)
fraction-fits q (suc i) = subst (λ (v : Float). T (fits binary64 v)) (fraction-more q (fraction q i) i refl ∙ ap (fraction q) (add-one i)) (add-fits binary64 _ _)

pub met : (q low high : Float) (i : ℕ) → Between (fraction q i) low high → le high low ≡ true → low ≡ fraction q i
met q low high i b e =
    let r = fraction q i in
    let h = le_transitive r high low b.above (holds (le high low) e) in
    let u = le_transitive r high sixty_four b.above b.most in
    one_of_two low r (inside low b.least (le_transitive low r sixty_four b.below u)) (inside r (le_transitive one64 low r b.least b.below) u) b.fit (fraction-fits q i) b.below h
