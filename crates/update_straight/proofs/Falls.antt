-- Without sharpening the volume kept falls, or stays, as the rate rises: each element's value does, so does its share, and so does the sum of the
-- shares, since every operation on the way keeps the order. So a volume found on one side of the target settles all rates beyond. Assumes nothing.
use mathlib.Core.Path.{◌≡◌, refl, sym, ap, subst}
use mathlib.Core.Bool.{Bool, true, false, not}
use Prim.Native.Nat.{ℕ, zero, suc, ◌<◌, min}
use native.Mathlib.Omega.{arith}
use lib.Dec.{T}
use lib.ListN.{length, get_or}
use lib.Ieee.{Float, nan, binary64, add, sub, mul, div, lt, le, is_nan, fits, of_bits}
use lib.Ieee.Fits.{div-fits}
use lib.Ieee.Positive.{positive, between}
use Rattle.lists.specs.Lists.{fold_to, sum_to, choose, zero64}
use Rattle.lists.proofs.Laws.{get_or-tabulate, length-tabulate}
use Rattle.ieee.specs.Basic.{one64, abs_of, max_of}
use Rattle.ieee_root.specs.Sqrt.{sqrt_of}
use Rattle.ieee.proofs.Order.{le_reflexive, le_transitive, le-number, le_not_lt}
use Rattle.ieee.proofs.Bounds.{lt-le, not-lt-le, max-right, mul-grows}
use Rattle.ieee_root.proofs.Monotone.{sqrt_mono}
use Rattle.oc_kept.specs.declared.Rule.TheVariants.{Straight}
use Rattle.oc_goal.specs.Goal.{xMin}
use Rattle.oc_record.specs.Record.{dot}
use Rattle.oc_kept.specs.Kept.{kept_of}
use Rattle.update_value.specs.Value.{grown, limited, next_of}
use Rattle.update_design.specs.Design.{design_at}
use Rattle.update_rates.specs.Rates.{Given, trial, reckoned}
use Rattle.ieee_lanes.proofs.Order.{Plus, Finite, finite-plus, plus-above, positive-finite, lt_of_lt_of_le, add-plus, add-grows, mul-plus, mul-rises, div-plus, div-falls, sqrt-plus, max-rises, min-rises, farther-above, farther-below}
use Rattle.update_rates.specs.Keeps.{Range, Move}
use Rattle.update_rates.specs.Steps.{lowest}
use Rattle.update_rates.proofs.Bounds.{lo, hi, in-range, bounds, least-lo, limited-bounded}

-- a value that a design of a run can have: from one rounding below 0.001 to 1
pub record Old (x : Float) : Type 0 where
  pub fit : T (fits binary64 x)
  pub least : T (le lowest x)
  pub most : T (le x one64)

old-positive : (x : Float) → Old x → T (positive x)
unfolding of_bits
old-positive x o = between lowest x one64 tt tt o.least o.most

old-range : (x : Float) → Old x → Range x
old-range x o = in-range x o.fit (positive-finite x (old-positive x o)) o.most

-- ---- sums
record Shares (u v : Float) : Type 0 where
  pub low : Plus u
  pub high : Plus v
  pub order : T (le u v)

sums : (u v : ℕ → Float) (n : ℕ) → ((k : ℕ) → k < n → Shares (u k) (v k)) → Shares (sum_to u n) (sum_to v n)
unfolding sum_to fold_to is_nan le of_bits
sums u v zero h = record { low = record { number = tt; sign = refl }; high = record { number = tt; sign = refl }; order = tt }
sums u v (suc n) h =
    let t = sums u v n (λ k l. h k (omega arith)) in
    let s = h n (omega arith) in
    record {
      low = add-plus binary64 (sum_to u n) (u n) t.low s.low;
      high = add-plus binary64 (sum_to v n) (v n) t.high s.high;
      order = add-grows binary64 (sum_to u n) (u n) (sum_to v n) (v n) t.low s.low t.high s.high t.order s.order;
    }

-- ---- one element, at a rate and at a larger one
module _ (r r' : Float) (p : T (positive r)) (p' : T (positive r')) (h : T (le r r')) where
  root-falls : (gain : Float) → Finite gain → T (le (sqrt_of binary64 (div binary64 gain r')) (sqrt_of binary64 (div binary64 gain r)))
  root-falls gain f = sqrt_mono binary64 (div binary64 gain r') (div binary64 gain r) (div-fits binary64 gain r') (div-fits binary64 gain r) (plus-above (div binary64 gain r') (div-plus binary64 gain r' f p')) (div-falls binary64 gain r r' f p p' h)

  grown-falls : (old gain : Float) → T (positive old) → (lt zero64 gain ≡ true → Finite gain) → T (le (grown old gain r') (grown old gain r))
  unfolding grown choose
  grown-falls old gain o f = go (lt zero64 gain) refl
    where
      go : (t : Bool) → lt zero64 gain ≡ t → T (le (choose t (mul binary64 old (sqrt_of binary64 (div binary64 gain r'))) zero64) (choose t (mul binary64 old (sqrt_of binary64 (div binary64 gain r))) zero64))
      go true e =
          mul-grows binary64 old (sqrt_of binary64 (div binary64 gain r')) (sqrt_of binary64 (div binary64 gain r)) o
          (sqrt-plus binary64 (div binary64 gain r') (div-plus binary64 gain r' (f e) p')).sign (sqrt-plus binary64 (div binary64 gain r) (div-plus binary64 gain r (f e) p)).sign (root-falls gain (f e))
      go false e = unfold le of_bits in tt

  next-falls : (held : Bool) (old gain m : Float) → Old old → Move m → (lt zero64 gain ≡ true → Finite gain) → T (le (next_of held old gain m r') (next_of held old gain m r))
  unfolding next_of limited choose
  next-falls true old gain m o k f = unfold le of_bits in tt
  next-falls false old gain m o k f =
      let l = le-number xMin (lo old m) (least-lo old m (old-range old o) k) in
      min-rises (max_of (grown old gain r') (lo old m)) (max_of (grown old gain r) (lo old m)) (hi old m)
      (le-number (lo old m) (max_of (grown old gain r') (lo old m)) (max-right (grown old gain r') (lo old m) l))
      (max-rises (grown old gain r') (grown old gain r) (lo old m) (grown-falls old gain (old-positive old o) f) l)
      (le-number (lo old m) (hi old m) (bounds old m (old-range old o) k))

-- ---- the whole design

-- what makes it so: values and a move that a run can have, gains that are no infinity, and volumes that are not negative
pub record Orderly (g : Given) (solid : Float) : Type 0 where
  pub rule-is : g.rule ≡ Straight solid
  pub solid-is : Finite solid
  pub target_is : Finite g.target
  pub move-is : Move g.move
  pub as_long : length g.dv ≡ length g.x
  pub old : (k : ℕ) → k < length g.x → Old (get_or g.x k nan)
  pub gain : (k : ℕ) → k < length g.x → lt zero64 (get_or g.gain k nan) ≡ true → Finite (get_or g.gain k nan)
  pub weight : (k : ℕ) → k < length g.x → Finite (get_or g.dv k nan)

module _ (g : Given) (solid : Float) (o : Orderly g solid) where
  abbrev value : Float → ℕ → Float
  value r k = next_of (get_or g.passive k false) (get_or g.x k nan) (get_or g.gain k nan) g.move r

  value-is : (r : Float) (k : ℕ) → k < length g.x → get_or (trial g r) k nan ≡ value r k
  unfolding trial design_at
  value-is r k h = get_or-tabulate (value r) (length g.x) k nan h

  value-finite : (r : Float) (k : ℕ) → k < length g.x → Finite (value r k)
  unfolding next_of choose
  value-finite r k h = go (get_or g.passive k false)
    where
      go : (t : Bool) → Finite (choose t one64 (limited (get_or g.x k nan) g.move (grown (get_or g.x k nan) (get_or g.gain k nan) r)))
      go true = positive-finite one64 (unfold of_bits in tt)
      go false =
          let b = limited-bounded (get_or g.x k nan) g.move (old-range (get_or g.x k nan) (o.old k h)) o.move-is (grown (get_or g.x k nan) (get_or g.gain k nan) r) in
          positive-finite _ (between xMin _ one64 (unfold of_bits in tt) (unfold of_bits in tt) b.least b.most)

  dot-is : (r : Float) → dot g.dv (trial g r) ≡ sum_to (λ k. mul binary64 (get_or g.dv k nan) (get_or (trial g r) k nan)) (length g.x)
  unfolding dot trial design_at
  dot-is r = ap (sum_to _) (shorter (length g.dv) (length g.x) _ o.as_long (length-tabulate (value r) (length g.x)))
    where
      shorter : (a n b : ℕ) → a ≡ n → b ≡ n → min a b ≡ n
      shorter a n b e f = omega arith

  reckoned-is : (r : Float) → reckoned g (trial g r) ≡ add binary64 solid (dot g.dv (trial g r))
  unfolding reckoned kept_of
  reckoned-is r = rw o.rule-is

  module _ (r r' : Float) (p : T (positive r)) (p' : T (positive r')) (h : T (le r r')) where
    share : (k : ℕ) → k < length g.x → Shares (mul binary64 (get_or g.dv k nan) (get_or (trial g r') k nan)) (mul binary64 (get_or g.dv k nan) (get_or (trial g r) k nan))
    share k l =
        rw (value-is r k l, value-is r' k l)
        (record {
          low = mul-plus binary64 (get_or g.dv k nan) (value r' k) (o.weight k l) (value-finite r' k l);
          high = mul-plus binary64 (get_or g.dv k nan) (value r k) (o.weight k l) (value-finite r k l);
          order = mul-rises binary64 (get_or g.dv k nan) (value r' k) (value r k) (o.weight k l) (value-finite r' k l) (value-finite r k l) (next-falls r r' p p' h (get_or g.passive k false) (get_or g.x k nan) (get_or g.gain k nan) g.move (o.old k l) o.move-is (o.gain k l));
        })

    kept-falls : Shares (reckoned g (trial g r')) (reckoned g (trial g r))
    kept-falls =
        let s = sums _ _ (length g.x) share in
        let q = finite-plus solid o.solid-is in
        let a = dot g.dv (trial g r') in
        let b = dot g.dv (trial g r) in
        let low : Plus a = subst Plus (sym (dot-is r')) s.low in
        let high : Plus b = subst Plus (sym (dot-is r)) s.high in
        let order : T (le a b) = rw (dot-is r, dot-is r') s.order in
        rw (reckoned-is r, reckoned-is r')
        (record {
          low = add-plus binary64 solid a q low;
          high = add-plus binary64 solid b q high;
          order = add-grows binary64 solid a solid b q low q high (le_reflexive solid q.number) order;
        })

  -- ---- what one rate settles
  abbrev at : Float → Float
  at r = reckoned g (trial g r)

  abbrev far : Float → Bool
  far r = lt g.tolerance (abs_of (sub binary64 (at r) g.target))

  target-number : T (not (is_nan g.target))
  target-number = (finite-plus g.target o.target_is).number

  -- |k - target| is at most |k' - target| for k' beyond k
  beyond-above : (k k' : Float) → Plus k → Plus k' → T (le g.target k) → T (le k k') → T (le (abs_of (sub binary64 k g.target)) (abs_of (sub binary64 k' g.target)))
  beyond-above k k' p q h l =
      let e = o.target_is.is in
      rw e (farther-above binary64 o.target_is.m o.target_is.e k k' p q (rw e at h) l)

  beyond-below : (k k' : Float) → Plus k → Plus k' → T (le k g.target) → T (le k' k) → T (le (abs_of (sub binary64 k g.target)) (abs_of (sub binary64 k' g.target)))
  beyond-below k k' p q h l =
      let e = o.target_is.is in
      rw e (farther-below binary64 o.target_is.m o.target_is.e k k' p q (rw e at h) l)

  -- a rate at which too much is kept, off the target: so at every rate below it
  pub below-settled : (r a : Float) → T (positive r) → T (positive a) → T (le r a) → lt g.target (at a) ≡ true → far a ≡ true → (lt g.target (at r) ≡ true) × (far r ≡ true)
  below-settled r a p q h t f =
      let s = kept-falls r a p q h in
      (lt_of_lt_of_le g.target (at a) (at r) t s.order, lt_of_lt_of_le g.tolerance _ _ f (beyond-above (at a) (at r) s.low s.high (lt-le g.target (at a) t) s.order))

  -- a rate at which too little is kept, off the target: so at every rate above it
  pub above-settled : (r b : Float) → T (positive r) → T (positive b) → T (le b r) → lt g.target (at b) ≡ false → far b ≡ true → (lt g.target (at r) ≡ false) × (far r ≡ true)
  above-settled r b p q h t f =
      let s = kept-falls b r q p h in
      let u : T (le (at b) g.target) = not-lt-le g.target (at b) target-number s.high.number t in
      (le_not_lt (at r) g.target (le_transitive (at r) (at b) g.target s.order u), lt_of_lt_of_le g.tolerance _ _ f (beyond-below (at b) (at r) s.high s.low u s.order))
