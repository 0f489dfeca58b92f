-- A look at each position of a run is a walk of it: where the element is seen the walk hits, else it misses. Assumes nothing.
use Rattle.std.proofs.Common.{◌≡◌, ◌∙◌, refl, sym, ap, ℕ, ◌+◌, ◌≤◌, ◌<◌, Bool, true, false, ◌&&◌, List, [], length, get_or, set, arith}
use Rattle.std.proofs.Math.Logic.{∥∥₁_elim}
use Rattle.std.proofs.Props.{props}
use lib.Ieee.{Float, nan, binary64, add, sub, lt}
use Rattle.lists.specs.Lists.{choose}
use Rattle.lists.proofs.Laws.{choose-true, choose-false, both}
use Rattle.geom.specs.Vectors.{dist}
use Rattle.geom.specs.declared.Vec3.{Vec3}
use Rattle.geom.specs.Points.{point}
use Rattle.cells.specs.Cells.{axis, box_cell, in_box}
use Rattle.cells.specs.Filing.{Spanned}
use Rattle.cells.specs.declared.Column.{Column}
use Rattle.cells.proofs.Walks.{Walked, walk_none, walk-hit, walk_miss, walk-done}
use Rattle.cells.proofs.Boxes.{box-own, box-cell}
use Rattle.filter.specs.Filter.{middle}
use Rattle.filter_look.specs.Steps.{Lists, Looked, seen_at, left_over, nearer, gained, near_box, marked, Took}
use Rattle.filter_look.specs.declared.grid.Grid.{Grid}
use Rattle.filter_look.specs.declared.met.Met.{Met}

-- a list after a look, whichever way it went
module _ {A : Type 0} (cells : List (List ℕ)) (order first : List ℕ) (m : ℕ) (p : ℕ → Bool) (own : (i : ℕ) → p i ≡ true → i < length cells) (g : ℕ → A → A) (d : A) (w₀ : List A) (a : ℕ) where
  walk_look : (k : ℕ) → a ≤ k → k < length cells → (w v : List A) (x : A) (seen : Bool) → seen ≡ p (get_or order k 0) → get_or order k 0 < length w → x ≡ g (get_or order k 0) (get_or w (get_or order k 0) d)
      → v ≡ choose seen (set w (get_or order k 0) x) w → Walked cells order first m p g w₀ a k w → Walked cells order first m p g w₀ a (k + 1) v
  walk_look k le lt w v x true is room ev e inv =
      rw (e ∙ choose-true true (set w (get_or order k 0) x) w refl) (walk-hit cells order first m p own g d w₀ a k le lt w inv (sym is) room x ev)
  walk_look k le lt w v x false is room ev e inv =
      rw (e ∙ choose-false false (set w (get_or order k 0) x) w refl) (walk_miss cells order first m p own g d w₀ a k le lt w inv (sym is))

module _ (g : Grid) (q : Vec3) (c : Column) where
  -- the elements of the column that are near enough
  abbrev column : ℕ → Bool
  column = near_box g q c.x (c.x + 1) c.y (c.y + 1) c.z0 (c.z1 + 1)

  own : (i : ℕ) → column i ≡ true → i < length g.cell.now
  own i e = box-own g.cell.now c.x (c.x + 1) c.y (c.y + 1) c.z0 (c.z1 + 1) i (both (in_box g.cell.now c.x (c.x + 1) c.y (c.y + 1) c.z0 (c.z1 + 1) i) _ e).0

  -- the elements at the positions from a up to k are looked at: a loop's invariant
  pub record Strode (m₀ : Met) (a k : ℕ) (m : Met) : Type 0 where
    pub stamps : Walked g.cell.now g.order.now g.first.now g.buckets column (λ _ _. m₀.mark) m₀.stamp.now a k m.stamp.now
    pub weights : Walked g.cell.now g.order.now g.first.now g.buckets column (gained g.centroids.now g.radius q) m₀.weight.now a k m.weight.now

  pub stride_none : (m : Met) (a : ℕ) → Strode m a a m
  stride_none m a =
      record {
        stamps = walk_none g.cell.now g.order.now g.first.now g.buckets column own (λ _ _. m.mark) 0 m.stamp.now a;
        weights = walk_none g.cell.now g.order.now g.first.now g.buckets column own (gained g.centroids.now g.radius q) nan m.weight.now a;
      }

  module _ (k : ℕ) (lt' : k < length g.cell.now) where
    -- the point at a position is its element's middle
    at_place : point (get_or g.sorted.now k []) ≡ middle g.centroids.now (get_or g.order.now k 0)
    at_place = ap point (g.ready.arranged k lt')

    -- so it is seen where the test of the walk picks it
    seen-is : seen_at g.cell.now g.order.now g.sorted.now g.radius q c k ≡ column (get_or g.order.now k 0)
    seen-is =
        ap (λ (p : Vec3). box_cell (axis g.cell.now (get_or g.order.now k 0) 0) (axis g.cell.now (get_or g.order.now k 0) 1) (axis g.cell.now (get_or g.order.now k 0) 2) c.x (c.x + 1) c.y (c.y + 1) c.z0 (c.z1 + 1) && lt (dist q p) g.radius) at_place
        ∙ ap (λ (t : Bool). t && nearer g.centroids.now g.radius q (get_or g.order.now k 0)) (box-cell g.cell.now c.x (c.x + 1) c.y (c.y + 1) c.z0 (c.z1 + 1) (get_or g.order.now k 0) (g.ready.elements k lt'))

    -- and gains what is left of the radius
    gain-is : (w : List Float) → add binary64 (get_or w (get_or g.order.now k 0) nan) (left_over g.sorted.now g.radius q k) ≡ gained g.centroids.now g.radius q (get_or g.order.now k 0) (get_or w (get_or g.order.now k 0) nan)
    gain-is w = ap (λ (p : Vec3). add binary64 (get_or w (get_or g.order.now k 0) nan) (sub binary64 g.radius (dist q p))) at_place

    pub stride_more : (m₀ m m' : Met) (a : ℕ) → a ≤ k → m.mark ≡ m₀.mark → Lists (length g.cell.now) m → Strode m₀ a k m → Looked (seen_at g.cell.now g.order.now g.sorted.now g.radius q c k) (get_or g.order.now k 0) (left_over g.sorted.now g.radius q k) m m' → Strode m₀ a (k + 1) m'
    stride_more m₀ m m' a le same l s o =
        let there : get_or g.order.now k 0 < length g.cell.now = g.ready.elements k lt' in
        record {
          stamps =
              walk_look g.cell.now g.order.now g.first.now g.buckets column own (λ _ _. m₀.mark) 0 m₀.stamp.now a k le lt' m.stamp.now m'.stamp.now m.mark (seen_at g.cell.now g.order.now g.sorted.now g.radius q c k) seen-is
              (omega (arith, l.stamps)) same o.stamps s.stamps;
          weights =
              walk_look g.cell.now g.order.now g.first.now g.buckets column own (gained g.centroids.now g.radius q) nan m₀.weight.now a k le lt' m.weight.now m'.weight.now
              (add binary64 (get_or m.weight.now (get_or g.order.now k 0) nan) (left_over g.sorted.now g.radius q k)) (seen_at g.cell.now g.order.now g.sorted.now g.radius q c k) seen-is
              (omega (arith, l.weights)) (gain-is m.weight.now) o.weights s.weights;
        }

  module _ (a b : ℕ) (span : Spanned g.first.now g.buckets (length g.cell.now) c.x c.y c.z0 c.z1 a b) where
    -- the run of a column is one of positions
    pub spanned : (a ≤ b) × (b ≤ length g.cell.now)
    spanned = ∥∥₁_elim g.ready.filed (hlevel props) (λ f. span.some g.cell.now g.order.now f refl)

    -- and holds all of its elements
    pub stride_done : (m₀ m : Met) → m.count ≡ marked m.stamp.now m.mark → Strode m₀ a b m → Took column (gained g.centroids.now g.radius q) m₀ m
    stride_done m₀ m e s =
        ∥∥₁_elim g.ready.filed (hlevel props)
        (λ f.
        let all : (i : ℕ) → column i ≡ true → (a ≤ f.place i) × (f.place i < b) =
        λ i t. span.holds g.cell.now g.order.now f refl i (both (in_box g.cell.now c.x (c.x + 1) c.y (c.y + 1) c.z0 (c.z1 + 1) i) _ t).0 in
        record {
          stamps = walk-done g.cell.now g.order.now g.first.now g.buckets column own (λ _ _. m₀.mark) 0 m₀.stamp.now a f b m.stamp.now all s.stamps;
          weights = walk-done g.cell.now g.order.now g.first.now g.buckets column own (gained g.centroids.now g.radius q) nan m₀.weight.now a f b m.weight.now all s.weights;
          counted = e;
        })
