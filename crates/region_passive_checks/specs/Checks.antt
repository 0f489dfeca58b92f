-- region.rs: `passive`, what it is refused for. Definitions only.
use Rattle.std.specs.Prelude.{ℕ, ◌+◌, Bool, ◌||◌, ◌&&◌, List, length, get_or, ltb, Float}
use Rattle.lists.specs.Lists.{any_to, choose}
use Rattle.lent.specs.Domain.{depths_bad}
use Rattle.region_checks.specs.Boundary as Boundary

-- 14: "a lent list shorter than needed": one place an element, one more for `first`, one a node for `keep`, a triangle for `surfaces`, a set and one more for `starts`
unfoldable pub too_short : ℕ → ℕ → ℕ → ℕ → ℕ → ℕ → ℕ → ℕ → ℕ → ℕ → ℕ → ℕ → ℕ → Bool
too_short nodes tets tris sets surfaces starts marks keep centroids cells order place first =
    ltb surfaces tris || (ltb starts (sets + 1) || (ltb marks tets || (ltb keep nodes || (ltb centroids tets || (ltb cells tets || (ltb order tets || (ltb place tets || ltb first (tets + 1))))))))

-- 14 of `kept`: a set that is not empty needs the places up to its end, of which there are so many
abbrev pub set_short : List ℕ → ℕ → ℕ → Bool
set_short starts kept s = ltb (get_or starts s 0) (get_or starts (s + 1) 0) && ltb kept (get_or starts (s + 1) 0)

-- one of so many sets does
unfoldable pub kept_short : List ℕ → ℕ → ℕ → Bool
kept_short starts kept sets = any_to (set_short starts kept) sets

-- 01: "Mesh calls check 3, 21, 9, 11, 8, 14": the first three by the boundary; there are no planes here. `short` says whether a list but `kept` is too short
abbrev pub refusal_by : ℕ → List (List Float) → List (List ℕ) → List ℕ → ℕ → List Float → Bool → ℕ
refusal_by elements nodes tris starts kept depths short =
    Boundary.refusal_of elements nodes tris (choose (depths_bad depths) 8 (choose (short || kept_short starts kept (length depths)) 14 0))
