-- Document 01, "The job strip and its program": the solver of program `shape`. Definitions only.
use Rattle.std.specs.Prelude.{ℕ, List, get_or, Float}
use Rattle.std.specs.Float.{nan, binary64}
use Rattle.std.specs.Float.Ieee.{mul, div, of_bits}
use Rattle.lists.specs.Lists.{tabulate}
use Rattle.ieee.specs.Basic.{one64}
use Rattle.topo.specs.Levels.{level_of, modulus_of}

-- 2.0
abbrev pub two64 : Float
two64 = of_bits binary64 0x4000_0000_0000_0000

-- "energy = weight/(2·modulus(level, 1))"
unfoldable pub energy_of : Float → Float → Float
energy_of weight density = div binary64 weight (mul binary64 two64 (modulus_of (level_of density) one64))

-- the energy of element e; a weight or a density past its list's end reads as not-a-number
abbrev pub energy_at : List Float → List Float → ℕ → Float
energy_at weights density e = energy_of (get_or weights e nan) (get_or density e nan)

-- one for each of n elements
unfoldable pub energies_of : List Float → List Float → ℕ → List Float
energies_of weights density n = tabulate (energy_at weights density) n
