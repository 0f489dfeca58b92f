-- A turn and an end of a search by rates alone: it is the halving of the definition, which stands where its last rate leads. Assumes nothing.
use mathlib.Core.Path.{◌≡◌, refl, sym, ap, ◌∙◌}
use mathlib.Core.Bool.{Bool, true, false, ◌&&◌, ◌||◌}
use mathlib.Core.List.{List}
use Prim.Native.Nat.{ℕ, ◌+◌, ◌-◌, ◌≤◌, ◌<◌}
use native.Mathlib.Omega.{arith}
use lib.Dec.{ltb}
use borrow.Author.Tests.{lt-ltb, le-ltb}
use lib.Ieee.{Float, binary64, add, sub, mul, lt, le}
use Rattle.lists.specs.Lists.{choose, zero64}
use Rattle.ieee.specs.Basic.{abs_of}
use Rattle.update_rates.specs.Rates.{half}
use Rattle.update_rates.specs.Rates.{Given, Search, trial, reckoned, first_rate, first, raises, raised, halves, halved, while_to, raised_all, updated}
use Rattle.update_rates.specs.Steps.{more, off, stand_at, mean_of, is_closed}
use Rattle.update_rates.specs.declared.Bracket.{Bracket}
use Rattle.lists.proofs.Bools.{and-true, and-left-false, and-right-false}
use Rattle.update_rates.proofs.Loops.{while-off, halve-more, halve-none, halve-over}

module _ (g : Given) (low high rate : Float) (passes : ℕ) where
  abbrev at : Float → Float
  at r = reckoned g (trial g r)

  abbrev mean : Float
  mean = mul binary64 half (add binary64 low high)

  pub search-more : (m : Bool) (low' high' : Float) → (off g rate && ltb passes 200) ≡ true → (le mean low || le high mean) ≡ false → m ≡ more g mean
      → low' ≡ choose m mean low → high' ≡ choose m high mean
      → while_to (halves g) (halved g) (200 - (passes + 1)) (stand_at g low' high' mean (passes + 1)) ≡ while_to (halves g) (halved g) (200 - passes) (stand_at g low high rate passes)
  unfolding more off stand_at
  search-more m low' high' t b e l u =
      halve-more g low high (at rate) (trial g rate) passes (abs_of (sub binary64 (at rate) g.target)) (at mean) low' high' (trial g mean) refl t b refl refl
      (l ∙ ap (λ (v : Bool). choose v mean low) e) (u ∙ ap (λ (v : Bool). choose v high mean) e)

  pub search-none : (le mean low || le high mean) ≡ true → while_to (halves g) (halved g) (200 - passes) (stand_at g low high rate passes) ≡ stand_at g low high rate passes
  unfolding stand_at
  search-none b = halve-none g low high (at rate) (trial g rate) passes b

  pub search-over : (off g rate && ltb passes 200) ≡ false → passes ≤ 200 → while_to (halves g) (halved g) (200 - passes) (stand_at g low high rate passes) ≡ stand_at g low high rate passes
  unfolding off stand_at
  search-over t h = halve-over g low high (at rate) (trial g rate) passes (abs_of (sub binary64 (at rate) g.target)) refl t h

-- what the definition comes to from a bracket on, with the rate that was tried last
abbrev pub rest : Given → Bracket → Float → ℕ → Search
rest g b rate passes = while_to (halves g) (halved g) (200 - passes) (stand_at g b.low b.high rate passes)

module _ (g : Given) (b : Bracket) (rate : Float) (passes : ℕ) where
  -- a turn
  pub rest-more : (b' : Bracket) (mid : Float) (m : Bool) → off g rate ≡ true → passes < 200 → (mid ≡ mean_of b) × (is_closed b ≡ false) → m ≡ more g mid
      → (b'.low ≡ choose m mid b.low) × (b'.high ≡ choose m b.high mid) → rest g b' mid (passes + 1) ≡ rest g b rate passes
  rest-more b' mid m o h c e i =
      ap (λ (r : Float). rest g b' r (passes + 1)) c.0
      ∙ search-more g b.low b.high rate passes m b'.low b'.high (and-true (off g rate) (ltb passes 200) o (lt-ltb passes 200 h)) c.1 (e ∙ ap (more g) c.0)
      (i.0 ∙ ap (λ (r : Float). choose m r b.low) c.0) (i.1 ∙ ap (λ (r : Float). choose m b.high r) c.0)

  -- its end: no rate lies between, the last one is not off the target, or the turns are over
  pub rest-none : is_closed b ≡ true → rest g b rate passes ≡ stand_at g b.low b.high rate passes
  rest-none = search-none g b.low b.high rate passes

  pub rest-met : off g rate ≡ false → passes ≤ 200 → rest g b rate passes ≡ stand_at g b.low b.high rate passes
  rest-met o h = search-over g b.low b.high rate passes (and-left-false (off g rate) (ltb passes 200) o) h

  pub rest-over : passes ≡ 200 → stand_at g b.low b.high rate 200 ≡ rest g b rate passes
  rest-over e =
      sym (search-over g b.low b.high rate 200 (and-right-false (off g rate) (ltb 200 200) (le-ltb 200 200 (omega arith))) (omega arith))
      ∙ ap (rest g b rate) (sym e)

-- where the first rate keeps no more than the target, nothing is raised
pub searched : (g : Given) (start low high rate kept : Float) (passes : ℕ) (d : List Float) → start ≡ first_rate g → more g start ≡ false
    → stand_at g low high rate passes ≡ while_to (halves g) (halved g) (200 - 1) (stand_at g zero64 start start 1)
    → d ≡ trial g rate → kept ≡ reckoned g d → ◌≡◌ {A = Search} (record { low = low; high = high; design = d; kept = kept; passes = passes }) (updated g)
unfolding more stand_at first raises raised_all updated
searched g start low high rate kept passes d e n s y k =
    let f : stand_at g zero64 start start 1 ≡ first g = ap (λ (r : Float). stand_at g zero64 r r 1) e in
    let r : raises g (first g) ≡ false = and-left-false _ _ (sym (ap (λ (v : Float). lt g.target (reckoned g (trial g v))) e) ∙ n) in
    let a : first g ≡ raised_all g = sym (while-off (raises g) (raised g) 199 (first g) r) in
    let b : stand_at g zero64 start start 1 ≡ raised_all g = f ∙ a in
    (λ i. record { low = low; high = high; design = y i; kept = (k ∙ ap (reckoned g) y) i; passes = passes })
    ∙ s ∙ ap (while_to (halves g) (halved g) (200 - 1)) b ∙ ap (λ (t : Search). while_to (halves g) (halved g) (200 - t.passes) (raised_all g)) a
