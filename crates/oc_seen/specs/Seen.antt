-- What a solve is given from the design: `see` of oc.rs. Definitions only.
use Rattle.std.specs.Prelude.{ℕ, Bool, false, Option, None, Some, List, length, get_or, Float}
use Rattle.std.specs.Float.{nan}
use Rattle.lists.specs.Lists.{tabulate, choose, zero64}
use Rattle.ieee.specs.Basic.{one64, clamp_of}
use Rattle.filter_table.specs.Table.{applied}
use Rattle.oc_project.specs.Project.{projected, projected_slope}

-- `Some(b) => project(v, b)`, `None => (v, 1.0)`
unfoldable pub sharpened : Option Float → Float → Float
sharpened None v = v
sharpened (Some beta) v = projected beta v

unfoldable pub sharpened_slope : Option Float → Float → Float
sharpened_slope None v = one64
sharpened_slope (Some beta) v = projected_slope beta v

-- an element's density and slope from its filtered value: `(1.0, 0.0)` where held, else of `v.clamp(0.0, 1.0)`
unfoldable pub element_density : Option Float → Bool → Float → Float
element_density sharpness held v = choose held one64 (sharpened sharpness (clamp_of v))

unfoldable pub element_slope : Option Float → Bool → Float → Float
element_slope sharpness held v = choose held zero64 (sharpened_slope sharpness (clamp_of v))

-- the same over the list of the filtered values
unfoldable pub densities : Option Float → List Bool → List Float → List Float
densities sharpness passive filtered = tabulate (λ e. element_density sharpness (get_or passive e false) (get_or filtered e nan)) (length passive)

unfoldable pub slopes : Option Float → List Bool → List Float → List Float
slopes sharpness passive filtered = tabulate (λ e. element_slope sharpness (get_or passive e false) (get_or filtered e nan)) (length passive)

-- `see`
unfoldable pub seen_density : Option Float → List ℕ → List ℕ → List Float → List Bool → List Float → List Float
seen_density sharpness starts near coef passive x = densities sharpness passive (applied starts near coef x (length passive))

unfoldable pub seen_slope : Option Float → List ℕ → List ℕ → List Float → List Bool → List Float → List Float
seen_slope sharpness starts near coef passive x = slopes sharpness passive (applied starts near coef x (length passive))
