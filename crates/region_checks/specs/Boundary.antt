-- 01: "Mesh calls check 3, 21, 9, 11, 8, 14": the first three, for calls with boundary triangles. Definitions only.
use Rattle.std.specs.Prelude.{ℕ, Bool, ◌||◌, List, [], length, get_or, leb, Float}
use Rattle.lists.specs.Lists.{any_to, choose}
use Rattle.lent.specs.Domain.{too_many_elements, too_many_nodes, points_bad}

-- 3: "more than the domain's counts"
abbrev pub too_many : ℕ → ℕ → ℕ → Bool
too_many elements tris nodes = too_many_elements elements || too_many_elements tris || too_many_nodes nodes

-- 21: "a boundary triangle names a node that isn't there": one of its six names is not below the count n of nodes
unfoldable pub missing_in : ℕ → List ℕ → Bool
missing_in n t = any_to (λ j. leb n (get_or t j 0)) 6

unfoldable pub any_missing : ℕ → List (List ℕ) → Bool
any_missing n tris = any_to (λ k. missing_in n (get_or tris k [])) (length tris)

-- 3, 21 and 9 in this order, and after them the rest
unfoldable pub refusal_of : ℕ → List (List Float) → List (List ℕ) → ℕ → ℕ
refusal_of elements nodes tris rest =
    choose (too_many elements (length tris) (length nodes)) 3
    (choose (any_missing (length nodes) tris) 21
    (choose (points_bad nodes) 9 rest))
