-- What the steps of the code promise each other, here and in crates filter_meet and filter_rows: the elements that a row meets, and their weights. What a caller must believe is said by `Build` of crate filter alone. Definitions only.
use Rattle.std.specs.Prelude.{◌≡◌, Bool, true, ◌&&◌, List, [], ℕ, ◌+◌, ◌≤◌, ◌<◌, length, get_or, set, eqb, Float}
use Rattle.std.specs.Float.{nan, binary64}
use Rattle.std.specs.Float.Ieee.{add, sub, lt}
use Rattle.lists.specs.Lists.{fold_to, any_to, choose, zero64}
use Rattle.geom.specs.Vectors.{dist}
use Rattle.geom.specs.declared.Vec3.{Vec3}
use Rattle.cells.specs.Cells.{axis, box_cell, in_box, changed}
use Rattle.cells.specs.declared.Column.{Column}
use Rattle.geom.specs.Points.{point}
use Rattle.filter.specs.Filter.{chosen, middle, share, counts, seen}
use Rattle.filter_look.specs.declared.grid.Grid.{Grid}
use Rattle.filter_look.specs.declared.met.Met.{Met}

-- element i bears the mark
abbrev pub stamped : List ℕ → ℕ → ℕ → Bool
stamped stamp mark i = eqb (get_or stamp i 0) mark

-- the first count places of l rise, and hold numbers below n that p picks
pub record Rising (p : ℕ → Bool) (n : ℕ) (l : List ℕ) (count : ℕ) : Type 0 where
  pub rises : (j k : ℕ) → j < k → k < count → get_or l j 0 < get_or l k 0
  pub below : (k : ℕ) → k < count → get_or l k 0 < n
  pub picked : (k : ℕ) → k < count → p (get_or l k 0) ≡ true

-- the first count places of found are there, and hold numbers below n
pub record Within (found : List ℕ) (count n : ℕ) : Type 0 where
  pub there : count ≤ length found
  pub below : (k : ℕ) → k < count → get_or found k 0 < n

-- how many elements bear the mark
abbrev pub marked : List ℕ → ℕ → ℕ
marked stamp mark = length (chosen (stamped stamp mark) (length stamp))

-- element i is nearer to q than the radius
abbrev pub nearer : List (List Float) → Float → Vec3 → ℕ → Bool
nearer centroids radius q i = lt (dist q (middle centroids i)) radius

-- and what it gains then
abbrev pub gained : List (List Float) → Float → Vec3 → ℕ → Float → Float
gained centroids radius q i w = add binary64 w (share centroids radius q i)

-- element i stands in these ranges of cubes, nearer to q than the radius
abbrev pub near_box : Grid → Vec3 → ℕ → ℕ → ℕ → ℕ → ℕ → ℕ → ℕ → Bool
near_box g q x0 x1 y0 y1 z0 z1 i = in_box g.cell.now x0 x1 y0 y1 z0 z1 i && nearer g.centroids.now g.radius q i

-- the lists that a walk writes, for n elements
pub record Lists (n : ℕ) (m : Met) : Type 0 where
  pub few : n < 65536
  pub stamps : length m.stamp.now ≡ n
  pub weights : length m.weight.now ≡ n
  pub maps : 1040 ≤ length m.bits.now
  pub counted : m.count ≡ marked m.stamp.now m.mark

-- the same mark, and the same lists, as long as they were
pub record Kept (m m' : Met) : Type 0 where
  pub mark : m'.mark ≡ m.mark
  pub stamp : m'.stamp.ghost_name ≡ m.stamp.ghost_name
  pub weight : m'.weight.ghost_name ≡ m.weight.ghost_name
  pub bits : m'.bits.ghost_name ≡ m.bits.ghost_name
  pub found : m'.found.ghost_name ≡ m.found.ghost_name
  pub stamps : length m'.stamp.now ≡ length m.stamp.now
  pub weights : length m'.weight.now ≡ length m.weight.now
  pub maps : length m'.bits.now ≡ length m.bits.now
  pub founds : length m'.found.now ≡ length m.found.now

-- the same lists, as long as they were, whatever the mark
pub record SameMet (m m' : Met) : Type 0 where
  pub stamp : m'.stamp.ghost_name ≡ m.stamp.ghost_name
  pub weight : m'.weight.ghost_name ≡ m.weight.ghost_name
  pub bits : m'.bits.ghost_name ≡ m.bits.ghost_name
  pub found : m'.found.ghost_name ≡ m.found.ghost_name
  pub stamps : length m'.stamp.now ≡ length m.stamp.now
  pub weights : length m'.weight.now ≡ length m.weight.now
  pub maps : length m'.bits.now ≡ length m.bits.now
  pub founds : length m'.found.now ≡ length m.found.now

-- the same elements, of the same weights
pub record Alike (m m' : Met) : Type 0 where
  pub count : m'.count ≡ m.count
  pub stamp : m'.stamp.now ≡ m.stamp.now
  pub weight : m'.weight.now ≡ m.weight.now

-- element i met
pub record One (i : ℕ) (w : Float) (m m' : Met) : Type 0 where
  pub stamps : m'.stamp.now ≡ set m.stamp.now i m.mark
  pub weights : m'.weight.now ≡ set m.weight.now i (add binary64 (get_or m.weight.now i nan) w)
  pub counted : m'.count ≡ marked m'.stamp.now m'.mark

-- whether the element at position k is met: it stands in the column, nearer to q than the radius
abbrev pub seen_at : List (List ℕ) → List ℕ → List (List Float) → Float → Vec3 → Column → ℕ → Bool
seen_at cell order sorted radius q c k =
    let i = get_or order k 0 in
    box_cell (axis cell i 0) (axis cell i 1) (axis cell i 2) c.x (c.x + 1) c.y (c.y + 1) c.z0 (c.z1 + 1) && lt (dist q (point (get_or sorted k []))) radius

-- and what it gains then
abbrev pub left_over : List (List Float) → Float → Vec3 → ℕ → Float
left_over sorted radius q k = sub binary64 radius (dist q (point (get_or sorted k [])))

-- element i looked at, and met where it is seen
pub record Looked (seen : Bool) (i : ℕ) (w : Float) (m m' : Met) : Type 0 where
  pub stamps : m'.stamp.now ≡ choose seen (set m.stamp.now i m.mark) m.stamp.now
  pub weights : m'.weight.now ≡ choose seen (set m.weight.now i (add binary64 (get_or m.weight.now i nan) w)) m.weight.now
  pub counted : m'.count ≡ marked m'.stamp.now m'.mark

-- the elements that a test picks met
pub record Took (pick : ℕ → Bool) (gain : ℕ → Float → Float) (m m' : Met) : Type 0 where
  pub stamps : m'.stamp.now ≡ changed pick (λ _ _. m.mark) m.stamp.now
  pub weights : m'.weight.now ≡ changed pick gain m.weight.now
  pub counted : m'.count ≡ marked m'.stamp.now m'.mark

-- the weights and the marks of row e under the members below k
pub record Gathered (centroids : List (List Float)) (radius : Float) (planes : List (List Float)) (e k : ℕ) (m : Met) : Type 0 where
  pub weights : (i : ℕ) → i < length centroids → get_or m.weight.now i nan ≡ fold_to (λ h w. choose (counts centroids radius (seen centroids radius planes e h) i) (add binary64 w (share centroids radius (seen centroids radius planes e h) i)) w) zero64 k
  pub stamps : (i : ℕ) → i < length centroids → stamped m.stamp.now m.mark i ≡ any_to (λ h. counts centroids radius (seen centroids radius planes e h) i) k
  pub most : (i : ℕ) → i < length centroids → get_or m.stamp.now i 0 ≤ m.mark
