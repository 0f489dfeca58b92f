-- The start's density lies from 0 to 1 where the opening is not refused: volumes and shares are such that nothing overflows, and there is room. Assumes nothing.
use mathlib.Core.Path.{◌≡◌, refl, sym, ap, ◌∙◌, subst}
use mathlib.Core.Bool.{Bool, true, false, not}
use Prim.Native.Nat.{ℕ, zero, suc, ◌+◌, ◌*◌, ◌^◌, ◌≤◌, ◌<◌, min}
use native.Mathlib.Nat.{le_of_eq, lt_of_le_of_lt as nat_lt, mul-one, one-mul, suc-mul, mul_assoc, mul-le-mul_right, min-eq_left}
use native.Mathlib.Omega.{arith}
use borrow.Author.Tests.{ltb-true, ltb-false, eqb-true, not-false}
use lib.IntN.{ℤ, pos}
use lib.Dec.{T, eqb}
use lib.Pow.{pow-lt, pow-add}
use lib.ListN.{length, get_or}
use lib.Ieee.{Float, nan, inf, fin, Format, binary64, prec, emax, low, up, down, round, sum, add, sub, mul, div, lt, le, is_nan, fits, of_bits}
use lib.Ieee.Fits.{add-fits, sub-fits, mul-fits, div-fits}
use lib.Ieee.Exact.{round_exact}
use lib.Ieee.Order.{le_of_values}
use lib.Ieee.Positive.{positive}
use Rattle.lists.specs.Lists.{fold_to, sum_to, choose, zero64}
use Rattle.lists.proofs.Laws.{any-not, neither, both}
use Rattle.ieee.specs.Basic.{one64}
use Rattle.ieee.proofs.Basic.{holds}
use Rattle.ieee.proofs.Order.{le_transitive, le_reflexive}
use Rattle.ieee.proofs.Bounds.{not-lt-le, lt-le}
use Rattle.lent.specs.Domain.{volume_bad}
use Rattle.oc_goal.specs.Goal.{xMin, no_room, target_of, start_density}
use Rattle.oc_start.specs.Start.{solid_volume}
use Rattle.ieee_lanes.proofs.Order.{Plus, Finite, finite-plus, positive-finite, lt_of_lt_of_le, lt_of_le_of_lt, add-plus, add-grows, mul-plus, div-plus, positive_of-tests, round-plus}
use Rattle.run_plain.specs.Formulas.{sum_of}
use Rattle.run_plain.specs.Opening.{Opening, elements, solid_of, total_of, target_at, first_refusal}
use Rattle.run_plain.proofs.Passes.{checked}
use Rattle.update_rates.proofs.Floats.{finite-below, cross, add-over, sub_is, sub-under, sub-grows, sub-positive, mul-under, div-under}
use Rattle.update_rates.specs.Keeps.{Range}
use Rattle.update_rates.proofs.Bounds.{in-range}

is_true : (b : Bool) → T b → b ≡ true
is_true true h = refl
is_true false h = absurd h

-- a finite sum is at least its first part
next-over : (t v : Float) → Finite t → Finite v → T (fits binary64 t) → T (le t (add binary64 t v))
next-over t v p q h =
    subst (λ (x : Float). T (le x (add binary64 x v))) (sym p.is)
    (subst (λ (x : Float). T (le (fin false p.m p.e) (add binary64 (fin false p.m p.e) x))) (sym q.is)
    (add-over binary64 p.m p.e q.m q.e (subst (λ (x : Float). T (fits binary64 x)) p.is h)))

-- a share of a finite value is at most that value
share-under : (x y : Float) → Finite x → Finite y → T (fits binary64 y) → T (le x one64) → T (le (mul binary64 x y) y)
unfolding of_bits
share-under x y p q h k =
    let c : p.m * up p.e * 1 ≤ 1 * 1 * down p.e = cross p.m p.e 1 (pos 0) (subst (λ (z : Float). T (le z one64)) p.is k) in
    subst (λ (z : Float). T (le (mul binary64 z y) y)) (sym p.is)
    (subst (λ (z : Float). T (le (mul binary64 (fin false p.m p.e) z) z)) (sym q.is)
    (mul-under binary64 p.m p.e q.m q.e (subst (λ (z : Float). T (fits binary64 z)) q.is h) (omega (arith, c))))

-- ---- n times 2 ^ u is a value while n is small
module _ (f : Format) (u : ℕ) (big : 16 + u < suc (emax f)) (wide : 16 < prec f) where
  equation : (n U L : ℕ) → (n * U * 1 + 1 * U * 1) * L ≡ suc n * (U * L) * (1 * 1)
  equation n U L =
      (λ i. (mul-one (n * U) i + (mul-one (1 * U) ∙ one-mul U) i) * L) ∙ ap (λ (k : ℕ). k * L) (sym (suc-mul n U)) ∙ mul_assoc (suc n) U L ∙ sym (mul-one (suc n * (U * L)))

  size_of : (n U : ℕ) → (n * U * 1 + 1 * U * 1) * 1 ≤ suc n * U * (1 * 1)
  size_of n U = le_of_eq (equation n U 1 ∙ ap (λ (k : ℕ). suc n * k * (1 * 1)) (mul-one U))

  pub step : (n : ℕ) → suc n ≤ 2 ^ 16 → T (le (add f (fin false n (pos u)) (fin false 1 (pos u))) (fin false (suc n) (pos u)))
  unfolding add sum
  step n h =
      let U = 2 ^ u in
      let short : suc n < 2 ^ prec f = omega (arith, h, pow-lt wide) in
      let reach : 2 ^ 16 * 2 ^ (u + low f) < 2 ^ (low f + suc (emax f)) = subst (λ (k : ℕ). k < 2 ^ (low f + suc (emax f))) (pow-add 2 16 (u + low f)) (pow-lt (let p : 16 + (u + low f) < low f + suc (emax f) = omega (arith, big) in p)) in
      let under : suc n * 2 ^ (u + low f) < 2 ^ (low f + suc (emax f)) = nat_lt (mul-le-mul_right (2 ^ (u + low f)) h) reach in
      let is : (n * U * 1 + 1 * U * 1) * 2 ^ low f ≡ suc n * 2 ^ (u + low f) * (1 * 1) = equation n U (2 ^ low f) ∙ ap (λ (k : ℕ). suc n * k * (1 * 1)) (sym (pow-add 2 u (low f))) in
      le_of_values (round f false (n * U * 1 + 1 * U * 1) (1 * 1)) (fin false (suc n) (pos u)) (n * U * 1 + 1 * U * 1) (1 * 1) (suc n * U) 1 (omega arith) (omega arith)
      (round_exact f false (n * U * 1 + 1 * U * 1) (1 * 1) (suc n) (u + low f) (omega arith) short under is) (refl, refl) (size_of n U)

-- ---- the volumes
abbrev most : Float
most = fin false 1 (pos 67)

-- one that is in the domain
pub record Volume (v : Float) : Type 0 where
  pub above : T (positive v)
  pub below : T (le v most)

module _ (g : ℕ → Float) where
  -- what the sum of the first n is
  record Sum (n : ℕ) (t : Float) : Type 0 where
    plus : Plus t
    fit : T (fits binary64 t)
    under : T (le t (fin false n (pos 67)))

  sums : (n : ℕ) → n ≤ 2 ^ 16 → ((k : ℕ) → k < n → Volume (g k)) → Sum n (sum_to g n)
  unfolding sum_to fold_to of_bits le is_nan fits
  sums zero h v = record { plus = record { number = tt; sign = refl }; fit = tt; under = tt }
  sums (suc n) h v =
      let s = sums n (omega (arith, h)) (λ k l. v k (omega (arith, l))) in
      let w = v n (omega arith) in
      let p = finite-plus (g n) (positive-finite (g n) w.above) in
      record {
        plus = add-plus binary64 (sum_to g n) (g n) s.plus p;
        fit = add-fits binary64 (sum_to g n) (g n);
        under = le_transitive (add binary64 (sum_to g n) (g n)) (add binary64 (fin false n (pos 67)) most) (fin false (suc n) (pos 67))
            (add-grows binary64 (sum_to g n) (g n) (fin false n (pos 67)) most s.plus p (record { number = tt; sign = refl }) (record { number = tt; sign = refl }) s.under w.below)
            (step binary64 67 (omega arith) (omega arith) n h);
      }

  -- what the sum of some of them is, by the sum of all
  record Part (s t : Float) : Type 0 where
    plus : Plus s
    fit : T (fits binary64 s)
    under : T (le s t)

  part_step : (b : Bool) (s t v : Float) → Part s t → Finite t → T (fits binary64 t) → Finite v → Part (choose b (add binary64 s v) s) (add binary64 t v)
  unfolding choose
  part_step true s t v h p f q =
      let w = finite-plus v q in
      record { plus = add-plus binary64 s v h.plus w; fit = add-fits binary64 s v; under = add-grows binary64 s v t v h.plus w (finite-plus t p) w h.under (le_reflexive v w.number) }
  part_step false s t v h p f q = record { plus = h.plus; fit = h.fit; under = le_transitive s t (add binary64 t v) h.under (next-over t v p q f) }

  finite-sum : (n : ℕ) (t : Float) → Sum n t → Finite t
  finite-sum n t s = finite-below t n (pos 67) s.plus s.under

  parts : (held : ℕ → Bool) (n : ℕ) → n ≤ 2 ^ 16 → ((k : ℕ) → k < n → Volume (g k)) → Part (fold_to (λ k t. choose (held k) (add binary64 t (g k)) t) zero64 n) (sum_to g n)
  unfolding sum_to fold_to of_bits le is_nan fits
  parts held zero h v = record { plus = record { number = tt; sign = refl }; fit = tt; under = tt }
  parts held (suc n) h v =
      let s = sums n (omega (arith, h)) (λ k l. v k (omega (arith, l))) in
      part_step (held n) (fold_to (λ k t. choose (held k) (add binary64 t (g k)) t) zero64 n) (sum_to g n) (g n) (parts held n (omega (arith, h)) (λ k l. v k (omega (arith, l)))) (finite-sum n (sum_to g n) s) s.fit (positive-finite (g n) (v n (omega arith)).above)

-- ---- the quotient
-- a share below 1 of a total that is finite, more than what is held and is needed at least: the quotient lies from 0 to 1
module _ (f : Format) (m : ℕ) (e : ℤ) (n : ℕ) (d : ℤ) (p : ℕ) (q : ℤ) (t : T (fits f (fin false m e))) (u : T (fits f (fin false n d)))
    (over : T (le (fin false n d) (fin false p q))) (under : T (le (fin false p q) (fin false m e))) (more : lt (fin false n d) (fin false m e) ≡ true) where
  abbrev whole : Float
  whole = sub f (fin false m e) (fin false n d)

  abbrev part : Float
  part = sub f (fin false p q) (fin false n d)

  whole_above : T (positive whole)
  whole_above = sub-positive f m e n d t u (le_transitive (fin false n d) (fin false p q) (fin false m e) over under) more

  part-under : T (le part whole)
  part-under = sub-grows f m e p q n d over under

  part-finite : Finite part
  part-finite =
      let w = positive-finite whole whole_above in
      finite-below part w.m w.e (subst Plus (sym (sub_is f p q n d over)) (round-plus f _ _)) (subst (λ (z : Float). T (le part z)) w.is part-under)

  pub quotient : T (le (div f part whole) (fin false 1 (pos 0))) × Plus (div f part whole)
  quotient =
      let w = positive-finite whole whole_above in
      let c = part-finite in
      let a : T (le (div f (fin false c.m c.e) (fin false w.m w.e)) (fin false 1 (pos 0))) =
      div-under f c.m c.e w.m w.e (ltb-true 0 w.m (is_true _ (subst (λ (z : Float). T (positive z)) w.is whole_above)))
      (subst (λ (z : Float). T (le z (fin false w.m w.e))) c.is (subst (λ (z : Float). T (le part z)) w.is part-under)) in
      (subst (λ (z : Float). T (le (div f z whole) (fin false 1 (pos 0)))) (sym c.is) (subst (λ (z : Float). T (le (div f (fin false c.m c.e) z) (fin false 1 (pos 0)))) (sym w.is) a), div-plus f part whole c whole_above)

-- ---- the start
abbrev Goes : Float → Float → Float → Type 0
Goes t s r = T (fits binary64 t) → T (fits binary64 s) → T (le s t) → T (positive r) → T (le r one64) → no_room s t (target_of r t) ≡ false → Range (start_density s t (target_of r t))

goes : (m : ℕ) (e : ℤ) (n : ℕ) (d : ℤ) (r : Float) → Goes (fin false m e) (fin false n d) r
unfolding of_bits
goes m e n d r ft fs st pr lr room =
    let t = fin false m e in
    let s = fin false n d in
    let g = mul binary64 r t in
    let ct : Finite t = record { m = m; e = e; is = refl } in
    let cs : Finite s = record { m = n; e = d; is = refl } in
    let cr : Finite r = positive-finite r pr in
    let gt : T (le g t) = share-under r t cr ct ft lr in
    let cg : Finite g = finite-below g m e (mul-plus binary64 r t cr ct) gt in
    let whole = sub binary64 t s in
    let cw : Finite whole = finite-below whole m e (subst Plus (sym (sub_is binary64 m e n d st)) (round-plus binary64 _ _)) (sub-under binary64 m e n d ft st) in
    let cx : Finite xMin = positive-finite xMin tt in
    let few = mul binary64 xMin whole in
    let cf : Finite few = finite-below few cw.m cw.e (mul-plus binary64 xMin whole cx cw) (subst (λ (z : Float). T (le few z)) cw.is (share-under xMin whole cx cw (sub-fits binary64 t s) (unfold le in tt))) in
    let need = add binary64 s few in
    let over : T (le s need) = next-over s few cs cf fs in
    let less : lt need g ≡ true = room-lt need g (add-plus binary64 s few (finite-plus s cs) (finite-plus few cf)).number (finite-plus g cg).number room in
    let sg : lt s g ≡ true = lt_of_le_of_lt s need g over less in
    let at : T (fits binary64 g) → T (le s g) → T (le g t) → T (le (div binary64 (sub binary64 g s) whole) one64) × Plus (div binary64 (sub binary64 g s) whole) =
    subst (λ (z : Float). T (fits binary64 z) → T (le s z) → T (le z t) → T (le (div binary64 (sub binary64 z s) whole) one64) × Plus (div binary64 (sub binary64 z s) whole)) (sym cg.is)
    (λ a b c. quotient binary64 m e n d cg.m cg.e ft fs b c (lt_of_lt_of_le s g t sg gt)) in
    let q = at (mul-fits binary64 r t) (lt-le s g sg) gt in
    in-range (div binary64 (sub binary64 g s) whole) (div-fits binary64 (sub binary64 g s) whole) (finite-below (div binary64 (sub binary64 g s) whole) 1 (pos 0) q.1 q.0) q.0
  where
    room-lt : (x y : Float) → T (not (is_nan x)) → T (not (is_nan y)) → le y x ≡ false → lt x y ≡ true
    room-lt x y p q h = by (lt x y) refl
      where
        by : (b : Bool) → lt x y ≡ b → lt x y ≡ true
        by true k = k
        by false k = absurd (subst T h (not-lt-le x y p q k))

-- the same of finite values
starts_in : (t s r : Float) → Finite t → Finite s → Goes t s r
starts_in t s r p q =
    subst (λ (z : Float). Goes z s r) (sym p.is) (subst (λ (z : Float). Goes (fin false p.m p.e) z r) (sym q.is) (goes p.m p.e q.m q.e r))

volume_of_lem : (v : Float) → volume_bad v ≡ false → Volume v
unfolding of_bits
volume_of_lem v h =
    let b = both (lt zero64 v) (le v (of_bits binary64 0x4415_af1d_78b5_8c40)) (not-false _ h) in
    let c = holds (le v (of_bits binary64 0x4415_af1d_78b5_8c40)) b.1 in
    record {
      above = positive_of-tests v b.0 (lt_of_le_of_lt v (of_bits binary64 0x4415_af1d_78b5_8c40) (inf false) c (unfold lt in refl));
      below = le_transitive v (of_bits binary64 0x4415_af1d_78b5_8c40) most c (unfold le in tt);
    }

module _ (o : Opening) (none : first_refusal o ≡ 0) where
  pub start-range : Range (start_density (solid_of o) (total_of o) (target_at o))
  unfolding sum_of solid_volume
  start-range =
      let p = checked o none in
      let n = elements o in
      let few : n ≤ 2 ^ 16 = (let k : n ≤ 65535 = ltb-false _ _ p.lists.1.1.0 in omega (arith, k)) in
      let v : (k : ℕ) → k < n → Volume (get_or o.volumes k nan) = λ k l. volume_of_lem (get_or o.volumes k nan) (any-not _ n p.lists.1.1.1.0 k l) in
      let t = sums (λ k. get_or o.volumes k nan) n few v in
      let same : min (length o.volumes) (length o.passive) ≡ n = min-eq_left (le_of_eq (sym (eqb-true _ _ (not-false _ (neither (not (eqb (length o.centroids) (elements o))) _ p.lists.0).1)))) in
      let s : Part (λ k. get_or o.volumes k nan) (solid_of o) (total_of o) =
      subst (λ (m : ℕ). Part (λ k. get_or o.volumes k nan) (fold_to (λ k a. choose (get_or o.passive k false) (add binary64 a (get_or o.volumes k nan)) a) zero64 m) (total_of o)) (sym same)
      (parts (λ k. get_or o.volumes k nan) (λ k. get_or o.passive k false) n few v) in
      let ct : Finite (total_of o) = finite-sum (λ k. get_or o.volumes k nan) n (total_of o) t in
      let cs : Finite (solid_of o) = finite-below (solid_of o) ct.m ct.e s.plus (subst (λ (z : Float). T (le (solid_of o) z)) ct.is s.under) in
      let b = both (lt zero64 o.goal.fraction) (lt o.goal.fraction one64) (not-false _ p.goal.0) in
      let r = o.goal.fraction in
      starts_in (total_of o) (solid_of o) r ct cs t.fit s.fit s.under (positive_of-tests r b.0 (lt_of_lt_of_le r one64 (inf false) b.1 (unfold le of_bits in tt))) (lt-le r one64 b.1) p.goal.1.1.0
