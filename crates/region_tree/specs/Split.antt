-- The tree without places: each box is split into the triangles that rank before its middle triangle, and it and the others. Definitions only.
use Rattle.std.specs.Prelude.{ℕ, zero, suc, List, length, leb, Float}
use Rattle.lists.specs.Lists.{choose}
use Rattle.region_median.specs.Median.{rank_by}
use Rattle.region_median.specs.Halves.{lower_half, upper_half}
use Rattle.region_tree.specs.Tree.{Tree, leaf, fork, bounds_of, axis_of, keys_along}

-- 01: "a box of more than four triangles is split again at the middle triangle"; the first argument bounds the depth
unfoldable pub tree_by : List (List Float) → ℕ → List ℕ → Tree
tree_by faces zero l = leaf (bounds_of faces l) l
tree_by faces (suc f) l =
    let b = bounds_of faces l in
    let r = rank_by (keys_along (axis_of b) faces) in
    choose (leb (length l) 4) (leaf b l) (fork b (tree_by faces f (lower_half r l)) (tree_by faces f (upper_half r l)))
