-- An update of a design whose values lie from 0 to 1 keeps within its bounds, whatever its slopes, its rates and the volumes: a value is raised and then
-- lowered, and the two bounds are in order. Assumes nothing.
use mathlib.Core.Path.{◌≡◌, refl, sym, ap, ◌∙◌, subst}
use mathlib.Core.Bool.{Bool, true, false}
use mathlib.Core.List.{List}
use Prim.Native.Nat.{ℕ, ◌<◌}
use lib.IntN.{ℤ, pos}
use lib.Dec.{T}
use lib.ListN.{length, get_or}
use lib.Ieee.{Float, nan, fin, binary64, add, sub, mul, div, le, lt, fits, of_bits}
use lib.Ieee.Fits.{add-fits, sub-fits, mul-fits}
use lib.Ieee.Positive.{between}
use Rattle.lists.specs.Lists.{choose, zero64}
use Rattle.lists.proofs.Laws.{length-tabulate, get_or-tabulate, choose-true, choose-false}
use Rattle.ieee.specs.Basic.{one64, max_of, min_of}
use Rattle.ieee_root.specs.Sqrt.{sqrt_of}
use Rattle.ieee.proofs.Order.{le-number, le_transitive}
use Rattle.ieee.proofs.Bounds.{max-either, min-either, max-left, max-right, min-left, min-right, raised_lowered}
use Rattle.ieee_lanes.proofs.Order.{Finite, number-left, finite-plus, positive-finite}
use Rattle.oc_goal.specs.Goal.{xMin}
use Rattle.update_value.specs.Value.{grown, limited, next_of}
use Rattle.update_design.specs.Design.{design_at}
use Rattle.update_rates.specs.Rates.{Given, Search, trial, first, raises, raised, halves, halved, raised_all, updated}
use Rattle.update_rates.specs.Bounds.{Bounded}
use Rattle.update_rates.specs.Keeps.{Range, AllRange, Move, Keeps, EveryUpdate}
use Rattle.update_rates.proofs.Floats.{finite-below, add-over, add-over-second, sub-below}
use Rattle.update_rates.proofs.Loops.{while-keeps}

-- the bounds that a value is raised and lowered to
abbrev pub lo : Float → Float → Float
lo old m = max_of (sub binary64 old m) xMin

abbrev pub hi : Float → Float → Float
hi old m = min_of (add binary64 old m) one64

-- what is finite, with no minus and at most 1 is such a value, and the other way round
pub in-range : (x : Float) → T (fits binary64 x) → Finite x → T (le x one64) → Range x
in-range x t f h = record { fit = t; sign = (finite-plus x f).sign; most = h }

pub range-finite : (x : Float) → Range x → Finite x
unfolding of_bits
range-finite x r = finite-below x _ _ (record { number = number-left x one64 r.most; sign = r.sign }) r.most

pub choose-either : (P : Float → Type 0) (t : Bool) (x y : Float) → P x → P y → P (choose t x y)
unfolding choose
choose-either P true x y p q = p
choose-either P false x y p q = q

-- ---- one element
module _ (old m : Float) (o : Range old) (k : Move m) where
  move-finite : Finite m
  unfolding of_bits
  move-finite = positive-finite m (between xMin m one64 tt tt k.least k.most)

  -- of values that are written out
  at : (P : Float → Float → Type 0) → ((a : ℕ) (b : ℤ) (c : ℕ) (d : ℤ) → T (fits binary64 (fin false a b)) → T (fits binary64 (fin false c d)) → P (fin false a b) (fin false c d)) → P old m
  at P h =
      let p = range-finite old o in
      let q = move-finite in
      subst (λ (z : Float). P z m) (sym p.is) (subst (λ (z : Float). P (fin false p.m p.e) z) (sym q.is)
      (h p.m p.e q.m q.e (subst (λ (z : Float). T (fits binary64 z)) p.is o.fit) (subst (λ (z : Float). T (fits binary64 z)) q.is k.fit)))

  under-old : T (le (sub binary64 old m) old)
  under-old = at (λ x y. T (le (sub binary64 x y) x)) (λ a b c d t u. sub-below binary64 a b c d t)

  over-old : T (le old (add binary64 old m))
  over-old = at (λ x y. T (le x (add binary64 x y))) (λ a b c d t u. add-over binary64 a b c d t)

  over-least : T (le xMin (add binary64 old m))
  over-least = le_transitive xMin m (add binary64 old m) k.least (at (λ x y. T (le y (add binary64 x y))) (λ a b c d t u. add-over-second binary64 a b c d u))

  min-one : T (le xMin one64)
  unfolding le of_bits
  min-one = tt

  pub bounds : T (le (lo old m) (hi old m))
  bounds =
      max-either (λ z. T (le z (hi old m))) (sub binary64 old m) xMin
      (min-either (λ z. T (le (sub binary64 old m) z)) (add binary64 old m) one64 (le_transitive (sub binary64 old m) old (add binary64 old m) under-old over-old) (le_transitive (sub binary64 old m) old one64 under-old o.most))
      (min-either (λ z. T (le xMin z)) (add binary64 old m) one64 over-least min-one)

  pub least-lo : T (le xMin (lo old m))
  least-lo = max-right (sub binary64 old m) xMin (number-left xMin one64 min-one)

  pub limited-bounded : (v : Float) → Bounded old m (limited old m v)
  unfolding limited
  limited-bounded v =
      let r = raised_lowered v (lo old m) (hi old m) bounds (le-number xMin (lo old m) least-lo) in
      let w = min_of (max_of v (lo old m)) (hi old m) in
      record {
        least = le_transitive xMin (lo old m) w least-lo r.0;
        most = le_transitive w (hi old m) one64 r.1 (min-right (add binary64 old m) one64 (le-number xMin one64 min-one));
        down = le_transitive (sub binary64 old m) (lo old m) w (max-left (sub binary64 old m) xMin (number-left (sub binary64 old m) old under-old)) r.0;
        up = le_transitive w (hi old m) (add binary64 old m) r.1 (min-left (add binary64 old m) one64 (le-number old (add binary64 old m) over-old));
      }

  -- and such a value a design can have
  limited-range : (gain rate : Float) → Range (limited old m (grown old gain rate))
  unfolding limited grown of_bits fits
  limited-range gain rate =
      let b = limited-bounded (grown old gain rate) in
      let v = limited old m (grown old gain rate) in
      let f : T (fits binary64 (grown old gain rate)) = choose-either (λ (z : Float). T (fits binary64 z)) (lt zero64 gain) (mul binary64 old (sqrt_of binary64 (div binary64 gain rate))) zero64 (mul-fits binary64 old (sqrt_of binary64 (div binary64 gain rate))) tt in
      in-range v
      (min-either (λ z. T (fits binary64 z)) (max_of (grown old gain rate) (lo old m)) (hi old m) (max-either (λ z. T (fits binary64 z)) (grown old gain rate) (lo old m) f (max-either (λ z. T (fits binary64 z)) (sub binary64 old m) xMin (sub-fits binary64 old m) tt)) (min-either (λ z. T (fits binary64 z)) (add binary64 old m) one64 (add-fits binary64 old m) tt))
      (positive-finite v (between xMin v one64 tt tt b.least b.most))
      b.most

pub one-range : Range one64
unfolding of_bits fits le
one-range = in-range one64 tt (record { m = 1; e = pos 0; is = refl }) tt

-- ---- the whole design
module _ (g : Given) where
  -- a design that some rate gives
  record Tried (s : Search) : Type 0 where
    pub rate : Float
    pub is : s.design ≡ trial g rate

  updated-tried : Tried (updated g)
  unfolding updated raised_all first raised halved
  updated-tried =
      while-keeps (halves g) (halved g) Tried (λ s h. record { rate = _; is = refl }) _ _
      (while-keeps (raises g) (raised g) Tried (λ s h. record { rate = _; is = refl }) 199 (first g) (record { rate = _; is = refl }))

  pub length-updated : length (updated g).design ≡ length g.x
  unfolding trial design_at
  length-updated = ap (λ (l : List Float). length l) updated-tried.is ∙ length-tabulate _ _

  -- the value of an element
  value : (k : ℕ) → k < length g.x → get_or (updated g).design k nan ≡ next_of (get_or g.passive k false) (get_or g.x k nan) (get_or g.gain k nan) g.move updated-tried.rate
  unfolding trial design_at
  value k h = ap (λ (l : List Float). get_or l k nan) updated-tried.is ∙ get_or-tabulate _ _ k nan h

  module _ (all : AllRange g.x) (m : Move g.move) where
    next-range : (b : Bool) (k : ℕ) → k < length g.x → Range (next_of b (get_or g.x k nan) (get_or g.gain k nan) g.move updated-tried.rate)
    unfolding next_of choose
    next-range true k h = one-range
    next-range false k h = limited-range (get_or g.x k nan) g.move (all k h) m (get_or g.gain k nan) updated-tried.rate

    keeps : Keeps g
    unfolding next_of
    keeps =
        record {
          bounds = record {
            long = length-updated;
            held = λ k h e. value k h ∙ choose-true _ _ _ e;
            free = λ k h e. subst (λ (v : Float). Bounded (get_or g.x k nan) g.move v) (sym (value k h ∙ choose-false _ _ _ e)) (limited-bounded (get_or g.x k nan) g.move (all k h) m (grown (get_or g.x k nan) (get_or g.gain k nan) updated-tried.rate));
          };
          range = λ k h. let l : k < length g.x = subst (λ (n : ℕ). k < n) length-updated h in subst Range (sym (value k l)) (next-range (get_or g.passive k false) k l);
        }

pub update-bounds : EveryUpdate
update-bounds g all m = keeps g all m
