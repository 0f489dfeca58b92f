-- What the tests of `update_straight` show: that the volume falls as the rate rises, and which rates two of them settle. Assumes nothing.
use mathlib.Core.Path.{◌≡◌, refl, sym, ap, ◌∙◌}
use mathlib.Core.Bool.{Bool, true, false, not, ◌&&◌, true≢false}
use mathlib.Core.List.{List, []}
use Prim.Native.Nat.{ℕ, ◌<◌}
use lib.Dec.{T}
use lib.ListN.{length, get_or}
use lib.Ieee.{Float, nan, inf, binary64, add, sub, div, lt, le, fits, of_bits}
use lib.Ieee.Positive.{positive}
use borrow.Author.Tests.{not-true}
use Rattle.lists.specs.Lists.{any_to, choose, zero64}
use Rattle.lists.proofs.Laws.{any-not, both}
use Rattle.ieee.specs.Basic.{one64, abs_of}
use Rattle.ieee.proofs.Basic.{holds}
use Rattle.ieee.proofs.Order.{le_not_lt}
use Rattle.oc_kept.specs.declared.Rule.TheVariants.{Straight}
use Rattle.oc_goal.specs.Goal.{xMin}
use Rattle.oc_record.specs.Record.{dot}
use Rattle.oc_kept.specs.Kept.{kept_of}
use Rattle.update_rates.specs.declared.Bracket.{Bracket}
use Rattle.update_design.specs.Design.{design_at}
use Rattle.update_rates.specs.Rates.{Given, given, trial, reckoned}
use Rattle.update_rates.specs.Steps.{lowest, more, off}
use Rattle.update_straight.specs.Steps.{infinity, usual, orderly, Knows}
use Rattle.ieee_lanes.proofs.Order.{positive-finite, lt_of_lt_of_le, lt_of_le_of_lt, finite_of_inverse, positive_of-tests}
use Rattle.update_straight.proofs.Falls.{Orderly, below-settled, above-settled}

infinity-is : infinity ≡ inf false
unfolding div of_bits
infinity-is = refl

within : (x : Float) → lt zero64 x ≡ true → lt x infinity ≡ true → T (positive x)
within x h k = positive_of-tests x h (sym (ap (lt x) infinity-is) ∙ k)

never : {X : Type 0} → true ≡ false → X
never e = absurd (true≢false e)

module _ (x gain dv : List Float) (passive : List Bool) (m target tolerance solid : Float) where
  abbrev straight : Given
  straight = given x gain dv passive m target tolerance (Straight solid) [] [] [] []

  module _ (t : orderly x gain dv m solid target ≡ true) (f : (k : ℕ) → k < length x → T (fits binary64 (get_or x k nan))) (n : T (fits binary64 m)) (l : length dv ≡ length x) where
    abbrev each : Bool
    each = not (any_to (λ k. not (usual (get_or x k nan) (get_or gain k nan) (get_or dv k nan))) (length x))

    abbrev moves : Bool
    moves = le xMin m && le m one64

    abbrev volumes : Bool
    volumes = lt zero64 (div binary64 one64 solid) && lt zero64 (div binary64 one64 target)

    parts : ((each && moves) ≡ true) × (volumes ≡ true)
    unfolding orderly
    parts = both (each && moves) volumes t

    at : (k : ℕ) → k < length x → usual (get_or x k nan) (get_or gain k nan) (get_or dv k nan) ≡ true
    at k h = go (usual (get_or x k nan) (get_or gain k nan) (get_or dv k nan)) (any-not _ (length x) (not-true _ (both each moves parts.0).0) k h)
      where
        go : (b : Bool) → not b ≡ false → b ≡ true
        go true e = refl
        go false e = never e

    -- an element's four tests
    tests : (k : ℕ) → k < length x → (le lowest (get_or x k nan) ≡ true) × (le (get_or x k nan) one64 ≡ true) × (lt (get_or gain k nan) infinity ≡ true) × (lt zero64 (div binary64 one64 (get_or dv k nan)) ≡ true)
    unfolding usual
    tests k h =
        let a = both (le lowest (get_or x k nan) && le (get_or x k nan) one64 && lt (get_or gain k nan) infinity) (lt zero64 (div binary64 one64 (get_or dv k nan))) (at k h) in
        let b = both (le lowest (get_or x k nan) && le (get_or x k nan) one64) (lt (get_or gain k nan) infinity) a.0 in
        let c = both (le lowest (get_or x k nan)) (le (get_or x k nan) one64) b.0 in
        (c.0, c.1, b.1, a.1)

    falls : Orderly straight solid
    falls =
        let v = both (lt zero64 (div binary64 one64 solid)) (lt zero64 (div binary64 one64 target)) parts.1 in
        let w = both (le xMin m) (le m one64) (both each moves parts.0).1 in
        record {
          rule-is = refl;
          solid-is = finite_of_inverse solid v.0;
          target_is = finite_of_inverse target v.1;
          move-is = record { fit = n; least = holds (le xMin m) w.0; most = holds (le m one64) w.1 };
          as_long = l;
          old = λ k h. record { fit = f k h; least = holds (le lowest (get_or x k nan)) (tests k h).0; most = holds (le (get_or x k nan) one64) (tests k h).1 };
          gain = λ k h g. positive-finite (get_or gain k nan) (within (get_or gain k nan) g (tests k h).2);
          weight = λ k h. finite_of_inverse (get_or dv k nan) (tests k h).3;
        }

    abbrev reckon : Float → Float
    reckon rate = add binary64 solid (dot dv (design_at x gain passive m rate))

    reckoned-is : (rate : Float) → reckoned straight (trial straight rate) ≡ reckon rate
    unfolding reckoned trial kept_of
    reckoned-is rate = refl

    -- a rate that keeps too much, and one that keeps too little
    below : (a ka oa : Float) → ka ≡ reckon a → oa ≡ abs_of (sub binary64 ka target) → (lt zero64 a && lt a infinity && lt target ka && lt tolerance oa) ≡ true
        → (rate : Float) → lt zero64 rate ≡ true → le rate a ≡ true → (more straight rate ≡ true) × (off straight rate ≡ true)
    unfolding more off
    below a ka oa e o q rate h k =
        let p = both (lt zero64 a && lt a infinity && lt target ka) (lt tolerance oa) q in
        let r = both (lt zero64 a && lt a infinity) (lt target ka) p.0 in
        let s = both (lt zero64 a) (lt a infinity) r.0 in
        let is : ka ≡ reckoned straight (trial straight a) = e ∙ sym (reckoned-is a) in
        below-settled straight solid falls rate a
        (within rate h (lt_of_le_of_lt rate a infinity (holds (le rate a) k) s.1)) (within a s.0 s.1) (holds (le rate a) k)
        (sym (ap (lt target) is) ∙ r.1) (sym (ap (λ (v : Float). lt tolerance (abs_of (sub binary64 v target))) is) ∙ sym (ap (lt tolerance) o) ∙ p.1)

    above : (b kb ob : Float) → kb ≡ reckon b → ob ≡ abs_of (sub binary64 kb target) → (lt zero64 b && lt b infinity && not (lt target kb) && lt tolerance ob) ≡ true
        → (rate : Float) → le b rate ≡ true → lt rate infinity ≡ true → (more straight rate ≡ false) × (off straight rate ≡ true)
    unfolding more off
    above b kb ob e o q rate k h =
        let p = both (lt zero64 b && lt b infinity && not (lt target kb)) (lt tolerance ob) q in
        let r = both (lt zero64 b && lt b infinity) (not (lt target kb)) p.0 in
        let s = both (lt zero64 b) (lt b infinity) r.0 in
        let is : kb ≡ reckoned straight (trial straight b) = e ∙ sym (reckoned-is b) in
        above-settled straight solid falls rate b
        (within rate (lt_of_lt_of_le zero64 b rate s.0 (holds (le b rate) k)) h) (within b s.0 s.1) (holds (le b rate) k)
        (sym (ap (lt target) is) ∙ not-true (lt target kb) r.1) (sym (ap (λ (v : Float). lt tolerance (abs_of (sub binary64 v target))) is) ∙ sym (ap (lt tolerance) o) ∙ p.1)

    -- what is known of the two rates
    pub known_is : (k : Bracket) (a b ka kb oa ob : Float) → ka ≡ reckon a → kb ≡ reckon b → oa ≡ abs_of (sub binary64 ka target) → ob ≡ abs_of (sub binary64 kb target)
        → k.low ≡ choose (lt zero64 a && lt a infinity && lt target ka && lt tolerance oa) a zero64
        → k.high ≡ choose (lt zero64 b && lt b infinity && not (lt target kb) && lt tolerance ob) b infinity
        → Knows straight k
    known_is k a b ka kb oa ob ea eb fa fb u v = record { low = low; high = high }
      where
        low_of : (t : Bool) → (lt zero64 a && lt a infinity && lt target ka && lt tolerance oa) ≡ t → (rate : Float) → lt zero64 rate ≡ true → le rate (choose t a zero64) ≡ true → (more straight rate ≡ true) × (off straight rate ≡ true)
        low_of true e rate h q = below a ka oa ea fa e rate h (unfold choose in q)
        low_of false e rate h q = never (sym h ∙ le_not_lt rate zero64 (holds (le rate zero64) (unfold choose in q)))

        low : (rate : Float) → lt zero64 rate ≡ true → le rate k.low ≡ true → (more straight rate ≡ true) × (off straight rate ≡ true)
        low rate h q = low_of _ refl rate h (sym (ap (le rate) u) ∙ q)

        high_of_lem : (t : Bool) → (lt zero64 b && lt b infinity && not (lt target kb) && lt tolerance ob) ≡ t → (rate : Float) → le (choose t b infinity) rate ≡ true → lt rate infinity ≡ true → (more straight rate ≡ false) × (off straight rate ≡ true)
        high_of_lem true e rate q h = above b kb ob eb fb e rate (unfold choose in q) h
        high_of_lem false e rate q h = never (sym h ∙ le_not_lt infinity rate (holds (le infinity rate) (unfold choose in q)))

        high : (rate : Float) → le k.high rate ≡ true → lt rate infinity ≡ true → (more straight rate ≡ false) × (off straight rate ≡ true)
        high rate q h = high_of_lem _ refl rate (sym (ap (λ (w : Float). le w rate) v) ∙ q) h

  -- nothing is known
  pub nothing_known : (k : Bracket) → k.low ≡ zero64 → k.high ≡ infinity → Knows straight k
  nothing_known k u v = record {
    low = λ rate h q. never (sym h ∙ le_not_lt rate zero64 (holds (le rate zero64) (sym (ap (le rate) u) ∙ q)));
    high = λ rate q h. never (sym h ∙ le_not_lt infinity rate (holds (le infinity rate) (sym (ap (λ (w : Float). le w rate) v) ∙ q)));
  }
