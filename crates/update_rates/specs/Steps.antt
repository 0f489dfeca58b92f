-- What the searches share. Definitions only.
use Rattle.std.specs.Prelude.{Bool, ◌||◌, List, [], ℕ, Float}
use Rattle.std.specs.Float.{binary64}
use Rattle.std.specs.Float.Ieee.{add, sub, mul, lt, le, of_bits}
use Rattle.ieee.specs.Basic.{abs_of}
use Rattle.filter_table.specs.declared.Table.{Table}
use Rattle.oc_kept.specs.declared.Rule.{Rule}
use Rattle.oc_kept.specs.declared.Rule.TheVariants.{Straight}
use Rattle.update_design.specs.declared.problem.Problem.{Problem}
use Rattle.update_rates.specs.declared.Bracket.{Bracket}
use Rattle.update_rates.specs.declared.Stand.{Stand}
use Rattle.update_rates.specs.Rates.{Given, Search, given, half, trial, reckoned}

-- one rounding below 0.001. 01: "The starting density may be one rounding below 0.001; updates never are."
abbrev pub lowest : Float
lowest = of_bits binary64 0x3f50_624d_d2f1_a9fb

module _ (g : Given) where
  -- whether a rate keeps more than the target, and whether it is off the target
  unfoldable pub more : Float → Bool
  more rate = lt g.target (reckoned g (trial g rate))

  unfoldable pub off : Float → Bool
  off rate = lt g.tolerance (abs_of (sub binary64 (reckoned g (trial g rate)) g.target))

  -- where an update stands at a rate
  unfoldable pub stand_at : Float → Float → Float → ℕ → Search
  stand_at low high rate passes = record { low = low; high = high; design = trial g rate; kept = reckoned g (trial g rate); passes = passes }

-- the code's account of where an update stands, with the design beside it
abbrev pub standing : Stand → List Float → Search
standing s design = record { low = s.bracket.low; high = s.bracket.high; design = design; kept = s.kept; passes = s.passes }

-- the rate that halves a bracket, and whether none lies between
abbrev pub mean_of : Bracket → Float
mean_of b = mul binary64 half (add binary64 b.low b.high)

abbrev pub is_closed : Bracket → Bool
is_closed b = le (mean_of b) b.low || le b.high (mean_of b)

-- what an update without sharpening is given
abbrev pub straight_of : Problem → Float → Given
straight_of p solid = given p.x.now p.gain.now p.dv.now p.passive.now p.m p.target p.tolerance (Straight solid) [] [] [] []

-- what an update is given, by its rule
abbrev pub given_of : Problem → Rule → Table → List Float → Given
given_of p rule t volumes = given p.x.now p.gain.now p.dv.now p.passive.now p.m p.target p.tolerance rule t.starts.now t.near.now t.coef.now volumes
