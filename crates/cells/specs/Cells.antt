-- Points in cubes, the points of a block of cubes, and a list changed at the places that a test picks. Definitions only.
use Rattle.std.specs.Prelude.{ℕ, suc, ◌+◌, ◌-◌, ◌^◌, min, Bool, ◌&&◌, cond, List, [], ◌∷◌, length, get_or, leb, ltb, Float}
use Rattle.std.specs.Float.{nan, binary64}
use Rattle.std.specs.Float.Ieee.{sub, div}
use Rattle.ieee_whole.specs.Whole.{floor_at}
use Rattle.geom.specs.declared.Vec3.{Vec3}
use Rattle.cells.specs.declared.Block.{Block}

-- filter.rs, `Grid::cube`: the whole number at or below (v − from)/size, each operation rounded once; as of all cells, 2^63 more
unfoldable pub cell_at : Float → Float → Float → ℕ
cell_at v from size = floor_at (div binary64 (sub binary64 v from) size)

-- the cube of a point, by x, y, z
unfoldable pub cell_of : List Float → Vec3 → Float → List ℕ
cell_of p from size = cell_at (get_or p 0 nan) from.x size ∷ cell_at (get_or p 1 nan) from.y size ∷ cell_at (get_or p 2 nan) from.z size ∷ []

-- within one of each other
unfoldable pub nearby : ℕ → ℕ → Bool
nearby a b = leb a (b + 1) && leb b (a + 1)

-- 01: "A candidate's cube must be within one of the image's cube on each axis": the cube a, b, c of x, y, z
unfoldable pub near_cell : ℕ → ℕ → ℕ → ℕ → ℕ → ℕ → Bool
near_cell a b c x y z = nearby a x && (nearby b y && nearby c z)

-- point i's number on an axis
abbrev pub axis : List (List ℕ) → ℕ → ℕ → ℕ
axis cells i k = get_or (get_or cells i []) k 0

-- there is a point i, and its cube is within one of x, y, z on each axis
unfoldable pub in_block : List (List ℕ) → ℕ → ℕ → ℕ → ℕ → Bool
in_block cells x y z i = ltb i (length cells) && near_cell (axis cells i 0) (axis cells i 1) (axis cells i 2) x y z

-- from lo up to but not including hi
unfoldable pub within : ℕ → ℕ → ℕ → Bool
within lo hi v = leb lo v && ltb v hi

-- the cube a, b, c is in these ranges
unfoldable pub box_cell : ℕ → ℕ → ℕ → ℕ → ℕ → ℕ → ℕ → ℕ → ℕ → Bool
box_cell a b c x0 x1 y0 y1 z0 z1 = within x0 x1 a && (within y0 y1 b && within z0 z1 c)

-- there is a point i, and its cube is in these ranges
unfoldable pub in_box : List (List ℕ) → ℕ → ℕ → ℕ → ℕ → ℕ → ℕ → ℕ → Bool
in_box cells x0 x1 y0 y1 z0 z1 i = ltb i (length cells) && box_cell (axis cells i 0) (axis cells i 1) (axis cells i 2) x0 x1 y0 y1 z0 z1

-- the block from one cube below lo to one above hi on each axis, where there is one
abbrev pub about : List ℕ → List ℕ → Block
about lo hi = record {
  x0 = get_or lo 0 0 - 1;
  x1 = min (get_or hi 0 0 + 1) (2 ^ 64 - 1);
  y0 = get_or lo 1 0 - 1;
  y1 = min (get_or hi 1 0 + 1) (2 ^ 64 - 1);
  z0 = get_or lo 2 0 - 1;
  z1 = min (get_or hi 2 0 + 1) (2 ^ 64 - 1);
}

-- each place i that p picks gets g i of what stood there, the places counted from k
unfoldable pub changed_from : {A : Type 0} → ℕ → (ℕ → Bool) → (ℕ → A → A) → List A → List A
changed_from k p g [] = []
changed_from k p g (v ∷ l) = cond (p k) (g k v) v ∷ changed_from (suc k) p g l

-- the same, counted from 0
abbrev pub changed : {A : Type 0} → (ℕ → Bool) → (ℕ → A → A) → List A → List A
changed p g l = changed_from 0 p g l
