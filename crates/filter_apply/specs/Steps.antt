-- What the code's steps promise each other: four products at a time. No part of what a caller must believe. Definitions only.
use Rattle.std.specs.Prelude.{ℕ, List, Float}
use Rattle.std.specs.Float.{binary64}
use Rattle.std.specs.Float.Ieee.{add}
use Rattle.filter_table.specs.Table.{product}

-- a sum with the product at place k
abbrev pub plus_product : List ℕ → List Float → List Float → ℕ → Float → Float
plus_product near coef x k t = add binary64 t (product near coef x k)
