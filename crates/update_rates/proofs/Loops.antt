-- A turn and an end of the two loops of an update, by what the code's calls gave. Assumes nothing.
use mathlib.Core.Path.{◌≡◌, refl, sym, ap, ◌∙◌}
use mathlib.Core.Bool.{Bool, true, false, not, ◌&&◌, ◌||◌}
use mathlib.Core.List.{List}
use Prim.Native.Nat.{ℕ, zero, suc, ◌+◌, ◌-◌, ◌≤◌, ◌<◌}
use native.Mathlib.Omega.{arith}
use lib.Dec.{ltb}
use lib.Ieee.{Float, binary64, add, sub, mul, lt, le}
use borrow.Author.Tests.{ltb-true, ltb-false, lt-ltb, le-ltb}
use Rattle.lists.specs.Lists.{choose}
use Rattle.lists.proofs.Bools.{and-true, and-left-false, and-right-false}
use Rattle.lists.proofs.Laws.{both}
use Rattle.ieee.specs.Basic.{abs_of}
use Rattle.update_rates.specs.Rates.{half}
use Rattle.oc_record.specs.Record.{two64}
use Rattle.update_design.specs.Design.{same_design}
use Rattle.update_rates.specs.Rates.{Given, Search, trial, reckoned, raises, raised, middle, halves, halved, while_to}
use Rattle.update_rates.specs.Steps.{mean_of, is_closed}
use Rattle.update_rates.specs.declared.Bracket.{Bracket}

-- ---- a loop in general
module _ {A : Type 0} (p : A → Bool) (f : A → A) where
  while-on : (n : ℕ) (s : A) → p s ≡ true → while_to p f (suc n) s ≡ while_to p f n (f s)
  unfolding while_to
  while-on n s e = rw (e, while_to)

  pub while-off : (n : ℕ) (s : A) → p s ≡ false → while_to p f n s ≡ s
  unfolding while_to
  while-off zero s e = refl
  while-off (suc n) s e = rw (e, while_to)

  -- what f keeps is kept
  pub while-keeps : (P : A → Type 0) → ((s : A) → P s → P (f s)) → (n : ℕ) (s : A) → P s → P (while_to p f n s)
  unfolding while_to
  while-keeps P keep zero s h = h
  while-keeps P keep (suc n) s h = go (p s) (while-keeps P keep n (f s) (keep s h))
    where
      go : (b : Bool) → P (while_to p f n (f s)) → P (elim b [ true ↦ while_to p f n (f s) | false ↦ s ])
      go true k = k
      go false k = h

  -- a turn at k of the most turns
  while-more : (most k : ℕ) (s t : A) → k < most → p s ≡ true → t ≡ f s → while_to p f (most - (k + 1)) t ≡ while_to p f (most - k) s
  while-more most k s t h e g =
      ap (while_to p f (most - (k + 1))) g ∙ sym (while-on (most - (k + 1)) s e) ∙ ap (λ (n : ℕ). while_to p f n s) (next most k h)
    where
      next : (most k : ℕ) → k < most → suc (most - (k + 1)) ≡ most - k
      next most k h = omega arith

  -- the turns are over, or the test fails
  while-over : (most k : ℕ) (s : A) (t : Bool) → (t && ltb k most) ≡ false → k ≤ most → (t ≡ false → p s ≡ false) → while_to p f (most - k) s ≡ s
  unfolding while_to
  while-over most k s true e h g = ap (λ (n : ℕ). while_to p f n s) (none most k h (ltb-false k most e))
    where
      none : (most k : ℕ) → k ≤ most → most ≤ k → most - k ≡ 0
      none most k h l = omega arith
  while-over most k s false e h g = while-off (most - k) s (g refl)

-- ---- the two loops
module _ (g : Given) (low high kept : Float) (design : List Float) (passes : ℕ) where
  abbrev stand : Search
  stand = record { low = low; high = high; design = design; kept = kept; passes = passes }

  -- the rate that raising tries, and the one that halving tries
  abbrev double : Float
  double = mul binary64 two64 high

  abbrev mean : Float
  mean = mul binary64 half (add binary64 low high)

  pub raise-more : (kept' : Float) (y y' : List Float) → (lt g.target kept && ltb passes 200) ≡ true → y ≡ trial g double → same_design y design ≡ false → y' ≡ y → kept' ≡ reckoned g y'
      → while_to (raises g) (raised g) (200 - (passes + 1)) (record { low = high; high = double; design = y'; kept = kept'; passes = passes + 1 })
      ≡ while_to (raises g) (raised g) (200 - passes) stand
  unfolding raises raised
  raise-more kept' y y' t f d c k =
      let w : y' ≡ trial g double = c ∙ f in
      let b = both (lt g.target kept) (ltb passes 200) t in
      while-more (raises g) (raised g) 200 passes stand _ (ltb-true passes 200 b.1)
      (and-true (lt g.target kept) (not (same_design (trial g double) design)) b.0 (ap not (sym (ap (λ (l : List Float). same_design l design) f) ∙ d)))
      (λ i. record { low = high; high = double; design = w i; kept = (k ∙ ap (reckoned g) w) i; passes = passes + 1 })

  pub raise-same : (y : List Float) → y ≡ trial g double → same_design y design ≡ true → while_to (raises g) (raised g) (200 - passes) stand ≡ stand
  unfolding raises
  raise-same y f d = while-off (raises g) (raised g) (200 - passes) stand (and-right-false (lt g.target kept) (not (same_design (trial g double) design)) (ap not (sym (ap (λ (l : List Float). same_design l design) f) ∙ d)))

  pub raise-over : (lt g.target kept && ltb passes 200) ≡ false → passes ≤ 200 → while_to (raises g) (raised g) (200 - passes) stand ≡ stand
  unfolding raises
  raise-over t h = while-over (raises g) (raised g) 200 passes stand (lt g.target kept) t h (and-left-false (lt g.target kept) (not (same_design (trial g double) design)))

  abbrev far : Bool
  far = lt g.tolerance (abs_of (sub binary64 kept g.target))

  pub halve-more : (off kept' low' high' : Float) (y : List Float) → off ≡ abs_of (sub binary64 kept g.target) → (lt g.tolerance off && ltb passes 200) ≡ true
      → (le mean low || le high mean) ≡ false → y ≡ trial g mean → kept' ≡ reckoned g y → low' ≡ choose (lt g.target kept') mean low → high' ≡ choose (lt g.target kept') high mean
      → while_to (halves g) (halved g) (200 - (passes + 1)) (record { low = low'; high = high'; design = y; kept = kept'; passes = passes + 1 })
      ≡ while_to (halves g) (halved g) (200 - passes) stand
  unfolding halves halved middle
  halve-more off kept' low' high' y o t b f k l u =
      let k : kept' ≡ reckoned g (trial g mean) = k ∙ ap (reckoned g) f in
      let a = both (lt g.tolerance off) (ltb passes 200) t in
      while-more (halves g) (halved g) 200 passes stand _ (ltb-true passes 200 a.1)
      (and-true far (not (le mean low || le high mean)) (ap (lt g.tolerance) (sym o) ∙ a.0) (ap not b))
      (λ i. record {
        low = (l ∙ ap (λ (v : Float). choose (lt g.target v) mean low) k) i;
        high = (u ∙ ap (λ (v : Float). choose (lt g.target v) high mean) k) i;
        design = f i;
        kept = k i;
        passes = passes + 1;
      })

  pub halve-none : (le mean low || le high mean) ≡ true → while_to (halves g) (halved g) (200 - passes) stand ≡ stand
  unfolding halves middle
  halve-none b = while-off (halves g) (halved g) (200 - passes) stand (and-right-false far (not (le mean low || le high mean)) (ap not b))

  pub halve-over : (off : Float) → off ≡ abs_of (sub binary64 kept g.target) → (lt g.tolerance off && ltb passes 200) ≡ false → passes ≤ 200 → while_to (halves g) (halved g) (200 - passes) stand ≡ stand
  unfolding halves middle
  halve-over off o t h = while-over (halves g) (halved g) 200 passes stand (lt g.tolerance off) t h (λ e. and-left-false far (not (le mean low || le high mean)) (ap (lt g.tolerance) (sym o) ∙ e))

-- ---- the same by a bracket
abbrev at-bracket : Bracket → List Float → Float → ℕ → Search
at-bracket b design kept passes = record { low = b.low; high = b.high; design = design; kept = kept; passes = passes }

abbrev pub raise_rest : Given → Bracket → List Float → Float → ℕ → Search
raise_rest g b design kept passes = while_to (raises g) (raised g) (200 - passes) (at-bracket b design kept passes)

abbrev pub halve_rest : Given → Bracket → List Float → Float → ℕ → Search
halve_rest g b design kept passes = while_to (halves g) (halved g) (200 - passes) (at-bracket b design kept passes)

module _ (g : Given) (b : Bracket) (design : List Float) (kept : Float) (passes : ℕ) where
  abbrev twice : Float
  twice = mul binary64 two64 b.high

  pub raise_rest-more : (y : List Float) (kept' : Float) → lt g.target kept ≡ true → passes < 200 → y ≡ trial g twice → same_design y design ≡ false → kept' ≡ reckoned g y
      → raise_rest g (record { low = b.high; high = twice }) y kept' (passes + 1) ≡ raise_rest g b design kept passes
  raise_rest-more y kept' t h f d k =
      raise-more g b.low b.high kept design passes kept' y y (and-true (lt g.target kept) (ltb passes 200) t (lt-ltb passes 200 h)) f d refl k

  pub raise_rest-same : (y : List Float) → y ≡ trial g twice → same_design y design ≡ true → raise_rest g b design kept passes ≡ at-bracket b design kept passes
  raise_rest-same = raise-same g b.low b.high kept design passes

  pub raise_rest-met : lt g.target kept ≡ false → passes ≤ 200 → raise_rest g b design kept passes ≡ at-bracket b design kept passes
  raise_rest-met t = raise-over g b.low b.high kept design passes (and-left-false (lt g.target kept) (ltb passes 200) t)

  pub raise_rest-over : passes ≡ 200 → at-bracket b design kept 200 ≡ raise_rest g b design kept passes
  raise_rest-over e =
      sym (raise-over g b.low b.high kept design 200 (and-right-false (lt g.target kept) (ltb 200 200) (le-ltb 200 200 (omega arith))) (omega arith))
      ∙ ap (raise_rest g b design kept) (sym e)

  abbrev off-now : Bool
  off-now = lt g.tolerance (abs_of (sub binary64 kept g.target))

  pub halve_rest-more : (b' : Bracket) (mid kept' : Float) (y : List Float) (m : Bool) → off-now ≡ true → passes < 200 → (mid ≡ mean_of b) × (is_closed b ≡ false) → y ≡ trial g mid → kept' ≡ reckoned g y
      → m ≡ lt g.target kept' → (b'.low ≡ choose m mid b.low) × (b'.high ≡ choose m b.high mid) → halve_rest g b' y kept' (passes + 1) ≡ halve_rest g b design kept passes
  halve_rest-more b' mid kept' y m o h c f k e i =
      halve-more g b.low b.high kept design passes (abs_of (sub binary64 kept g.target)) kept' b'.low b'.high y refl (and-true off-now (ltb passes 200) o (lt-ltb passes 200 h)) c.1
      (f ∙ ap (trial g) c.0) k (i.0 ∙ (λ j. choose (e j) (c.0 j) b.low)) (i.1 ∙ (λ j. choose (e j) b.high (c.0 j)))

  pub halve_rest-none : is_closed b ≡ true → halve_rest g b design kept passes ≡ at-bracket b design kept passes
  halve_rest-none = halve-none g b.low b.high kept design passes

  pub halve_rest-met : off-now ≡ false → passes ≤ 200 → halve_rest g b design kept passes ≡ at-bracket b design kept passes
  halve_rest-met o = halve-over g b.low b.high kept design passes (abs_of (sub binary64 kept g.target)) refl (and-left-false off-now (ltb passes 200) o)

  pub halve_rest-over : passes ≡ 200 → at-bracket b design kept 200 ≡ halve_rest g b design kept passes
  halve_rest-over e =
      sym (halve-over g b.low b.high kept design 200 (abs_of (sub binary64 kept g.target)) refl (and-right-false off-now (ltb 200 200) (le-ltb 200 200 (omega arith))) (omega arith))
      ∙ ap (halve_rest g b design kept) (sym e)
