-- What an update leaves: the design that the rates of crate update_rates lead to (specs/Rates.antt), and how it ends (specs/Ending.antt). Definitions only.
use Rattle.std.specs.Prelude.{◌≡◌, List, Float}
use Rattle.update_rates.specs.Rates.{Given, updated}
use Rattle.update_rates.specs.Ending.{ending_of}
use Rattle.update.specs.declared.Updated.{Updated}

-- what an update leaves
pub record Done (g : Given) (r : Updated) (design : List Float) : Type 0 where
  pub design-is : design ≡ (updated g).design
  pub passes-is : r.passes ≡ (updated g).passes
  pub ending-is : let s = updated g in r.ending ≡ ending_of g.target g.tolerance s.low s.high s.kept s.passes
