-- What the steps of the code promise each other. No part of what a caller must believe. Definitions only.
use Rattle.std.specs.Prelude.{ℕ, Bool, false, List, [], get_or, Float}
use Rattle.lists.specs.Lists.{fold_to, choose, zero64}
use Rattle.geom.specs.declared.Mirror.{Mirror}
use Rattle.geom.specs.Points.{point}
use Rattle.region_tree.specs.Tree.{Tree}
use Rattle.region_farthest.specs.Farthest.{farther}

-- the farthest of the first n nodes that are marked
unfoldable pub farthest_in : List (List Float) → Mirror → List (List Float) → Tree → List Bool → ℕ → Float
farthest_in nodes m faces t seen n = fold_to (λ k worst. choose (get_or seen k false) (farther faces t m (point (get_or nodes k [])) worst) worst) zero64 n
