-- 01, "The rounds": "Rates follow `update`: first rate, doubling, halving, at most 200 reckonings." Definitions only.
use Rattle.std.specs.Prelude.{ℕ, zero, suc, ◌+◌, ◌-◌, Bool, true, false, not, ◌&&◌, ◌||◌, List, Float}
use Rattle.std.specs.Float.{binary64}
use Rattle.std.specs.Float.Ieee.{add, sub, mul, lt, le, of_bits}
use Rattle.lists.specs.Lists.{choose, zero64}
use Rattle.ieee.specs.Basic.{one64, abs_of}
use Rattle.oc_kept.specs.declared.Rule.{Rule}
use Rattle.oc_kept.specs.Kept.{kept_of}
use Rattle.oc_record.specs.Record.{two64}
use Rattle.update_value.specs.Value.{ten_thousand}
use Rattle.update_design.specs.Design.{most_of, design_at, same_design}

-- 0.5
abbrev pub half : Float
half = of_bits binary64 0x3fe0_0000_0000_0000

-- what an update is given
pub record Given : Type 0 where
  pub x : List Float
  pub gain : List Float
  pub dv : List Float
  pub passive : List Bool
  pub move : Float
  pub target : Float
  pub tolerance : Float
  pub rule : Rule
  pub starts : List ℕ
  pub near : List ℕ
  pub coef : List Float
  pub volumes : List Float

abbrev pub given : List Float → List Float → List Float → List Bool → Float → Float → Float → Rule → List ℕ → List ℕ → List Float → List Float → Given
given x gain dv passive move target tolerance rule starts near coef volumes =
    record { x = x; gain = gain; dv = dv; passive = passive; move = move; target = target; tolerance = tolerance; rule = rule; starts = starts; near = near; coef = coef; volumes = volumes }

-- where it stands: its bracket of rates, the design at the last rate tried, the volume which that keeps, and how many rates were tried
pub record Search : Type 0 where
  pub low : Float
  pub high : Float
  pub design : List Float
  pub kept : Float
  pub passes : ℕ

module _ (g : Given) where
  unfoldable pub trial : Float → List Float
  trial rate = design_at g.x g.gain g.passive g.move rate

  -- "A reckoning is one evaluation of the kept volume by an update"
  unfoldable pub reckoned : List Float → Float
  reckoned y = kept_of g.rule g.dv g.starts g.near g.coef g.volumes g.passive y

  -- `if most > 0.0 { 1e4 * most } else { 1.0 }`
  unfoldable pub first_rate : Float
  first_rate = let most = most_of g.gain g.passive in choose (lt zero64 most) (mul binary64 ten_thousand most) one64

  unfoldable pub first : Search
  first = let y = trial first_rate in record { low = zero64; high = first_rate; design = y; kept = reckoned y; passes = 1 }

  -- the upper rate is doubled while more than the target is kept, unless that gives the same design: comparing is no reckoning
  unfoldable pub raises : Search → Bool
  raises s = lt g.target s.kept && not (same_design (trial (mul binary64 two64 s.high)) s.design)

  unfoldable pub raised : Search → Search
  raised s =
      let rate = mul binary64 two64 s.high in
      let y = trial rate in
      record { low = s.high; high = rate; design = y; kept = reckoned y; passes = s.passes + 1 }

  unfoldable pub middle : Search → Float
  middle s = mul binary64 half (add binary64 s.low s.high)

  -- the bracket is halved while the kept volume is off the target and a rate lies between
  unfoldable pub halves : Search → Bool
  halves s = lt g.tolerance (abs_of (sub binary64 s.kept g.target)) && not (le (middle s) s.low || le s.high (middle s))

  unfoldable pub halved : Search → Search
  halved s =
      let rate = middle s in
      let y = trial rate in
      let k = reckoned y in
      let more = lt g.target k in
      record { low = choose more rate s.low; high = choose more s.high rate; design = y; kept = k; passes = s.passes + 1 }

-- f again and again while p holds, n times at most
unfoldable pub while_to : {A : Type 0} → (A → Bool) → (A → A) → ℕ → A → A
while_to p f zero s = s
while_to p f (suc n) s = elim (p s) [ true ↦ while_to p f n (f s) | false ↦ s ]

-- PASSES
abbrev pub passes_allowed : ℕ
passes_allowed = 200

module _ (g : Given) where
  -- "at most 200 reckonings": the first one, and as many more as are left
  unfoldable pub raised_all : Search
  raised_all = while_to (raises g) (raised g) (passes_allowed - 1) (first g)

  unfoldable pub updated : Search
  updated = while_to (halves g) (halved g) (passes_allowed - raised_all.passes) raised_all
