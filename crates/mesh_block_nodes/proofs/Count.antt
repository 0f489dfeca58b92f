-- A block has as many nodes as the grid of half the cell size has points: each node lies at one point, and each point is one node's. Assumes nothing.
use mathlib.Core.Path.{◌≡◌, refl, sym, ap, ◌∙◌, subst}
use mathlib.Core.Bool.{Bool, true, false}
use mathlib.Core.Logic.{◌⊎◌, inl, inr}
use Prim.Native.Nat.{ℕ, ◌+◌, ◌-◌, ◌/◌, ◌≤◌, ◌<◌}
use native.Mathlib.Omega.{arith}
use borrow.Author.Tests.{eq-eqb, ne_eqb, eqb-true, eqb-false, lt-ltb, le-ltb, ltb-true, ltb-false}
use lib.ListN.{length, get_or}
use lib.Dec.{eqb, ltb}
use Rattle.lists.specs.Lists.{choose}
use Rattle.lists.proofs.Laws.{choose-true, choose-false}
use Rattle.mesh_lattice.specs.declared.Grid.{Grid}
use Rattle.mesh_lattice.specs.declared.Corner.{Corner}
use Rattle.mesh_lattice.specs.Lattice.{number_of, corners_in, corner_of, Edge, place_in, met_before, edges_in, nodes_in}
use Rattle.mesh_lattice.specs.Bounds.{Positive, Inside}
use Rattle.mesh_lattice.proofs.Numbers.{number_lt}
use Rattle.mesh_lattice.proofs.Ways.{corner-inside}
use Rattle.mesh_block_nodes.specs.Points.{Counted}
use Rattle.mesh_block_nodes.proofs.Maps.{as_many}
use Rattle.mesh_block_nodes.proofs.Digits.{number-corner, corner-number}
use Rattle.mesh_block_nodes.proofs.Cells.{below, above, fine, point-met}
use Rattle.mesh_block_nodes.proofs.Edges.{place_found, Steps, edges_steps}

-- ---- the two ends of a node, one corner twice where it is a corner

-- of node k
ends_of : Grid → ℕ → Edge
ends_of g k = choose (ltb k (corners_in g)) (k, k) (get_or (edges_in g) (k - corners_in g) (0, 0))

-- and the node that has these
node_of : Grid → Edge → ℕ
node_of g x = choose (eqb x.0 x.1) x.0 (corners_in g + place_in x (edges_in g))

ends-corner : (g : Grid) (k : ℕ) → k < corners_in g → ends_of g k ≡ (k, k)
unfolding ends_of
ends-corner g k h = choose-true (ltb k (corners_in g)) _ _ (lt-ltb k (corners_in g) h)

ends-middle : (g : Grid) (m : ℕ) → ends_of g (corners_in g + m) ≡ get_or (edges_in g) m (0, 0)
unfolding ends_of
ends-middle g m =
    let at : corners_in g + m - corners_in g ≡ m = omega arith in
    choose-false (ltb (corners_in g + m) (corners_in g)) _ _ (le-ltb (corners_in g + m) (corners_in g) (omega arith)) ∙ ap (λ (n : ℕ). get_or (edges_in g) n (0, 0)) at

node-corner : (g : Grid) (a b : ℕ) → a ≡ b → node_of g (a, b) ≡ a
unfolding node_of
node-corner g a b e = choose-true (eqb a b) _ _ (eq-eqb a b e)

node-middle : (g : Grid) (a b : ℕ) → (a ≡ b → ⊥) → node_of g (a, b) ≡ corners_in g + place_in (a, b) (edges_in g)
unfolding node_of
node-middle g a b e = choose-false (eqb a b) _ _ (ne_eqb a b e)

-- ---- the point between two corners

between : Corner → Corner → Corner
between a b = record { i = a.i + b.i; j = a.j + b.j; k = a.k + b.k }

-- the numbers of the corners that a point lies between
around : Grid → Corner → Edge
around g p = (number_of g (below p), number_of g (above p))

-- the point of node k, by its number
point_of : Grid → ℕ → ℕ
point_of g k = number_of (fine g) (between (corner_of g (ends_of g k).0) (corner_of g (ends_of g k).1))

-- and the node of point n
node_at : Grid → ℕ → ℕ
node_at g n = node_of g (around g (corner_of (fine g) n))

-- ---- from a node to its point and back

-- the ends of node k: at most one step along each axis apart
record Ends (g : Grid) (k : ℕ) : Type 0 where
  a : Corner
  b : Corner
  low : Inside g a
  high : Inside g b
  up-x : a.i ≤ b.i
  up-y : a.j ≤ b.j
  up-z : a.k ≤ b.k
  near-x : b.i ≤ a.i + 1
  near-y : b.j ≤ a.j + 1
  near-z : b.k ≤ a.k + 1
  are : ends_of g k ≡ (number_of g a, number_of g b)
  back : node_of g (number_of g a, number_of g b) ≡ k

corner-ends : (g : Grid) (k : ℕ) → k < corners_in g → Ends g k
corner-ends g k h =
    let c = corner_of g k in
    let n : number_of g c ≡ k = number-corner g k in
    record {
      a = c;
      b = c;
      low = corner-inside g k h;
      high = corner-inside g k h;
      up-x = omega arith;
      up-y = omega arith;
      up-z = omega arith;
      near-x = omega arith;
      near-y = omega arith;
      near-z = omega arith;
      are = ends-corner g k h ∙ (λ i. (sym n i, sym n i));
      back = node-corner g (number_of g c) (number_of g c) refl ∙ n;
    }

middle-ends : (g : Grid) (m : ℕ) → Steps g (edges_in g) → m < length (edges_in g) → Ends g (corners_in g + m)
middle-ends g m s h =
    let e = s.step m h in
    record {
      a = e.a;
      b = e.b;
      low = e.low;
      high = e.high;
      up-x = e.up.x;
      up-y = e.up.y;
      up-z = e.up.z;
      near-x = e.near-x;
      near-y = e.near-y;
      near-z = e.near-z;
      are = ends-middle g m ∙ e.is;
      back = node-middle g (number_of g e.a) (number_of g e.b) (λ z. omega (arith, e.up.more))
          ∙ ap (λ (x : Edge). corners_in g + place_in x (edges_in g)) (sym e.is) ∙ ap (λ (n : ℕ). corners_in g + n) (s.once m h);
    }

-- the node that has the ends x
record Node (g : Grid) (x : Edge) : Type 0 where
  lt : node_of g x < corners_in g + length (edges_in g)
  ends-are : ends_of g (node_of g x) ≡ x

node_of_lem : (g : Grid) (a b : ℕ) → a < corners_in g → (a ≡ b) ⊎ (met_before (a, b) (edges_in g) ≡ true) → Node g (a, b)
node_of_lem g a b l m = go (eqb a b) refl m
  where
    go : (t : Bool) → eqb a b ≡ t → (a ≡ b) ⊎ (met_before (a, b) (edges_in g) ≡ true) → Node g (a, b)
    go true e m =
        let z : a ≡ b = eqb-true a b e in
        let is : node_of g (a, b) ≡ a = node-corner g a b z in
        record { lt = omega arith; ends-are = ap (ends_of g) is ∙ ends-corner g a l ∙ (λ i. (a, z i)) }
    go false e (inl z) = absurd (eqb-false a b e z)
    go false e (inr met) =
        let is : node_of g (a, b) ≡ corners_in g + place_in (a, b) (edges_in g) = node-middle g a b (eqb-false a b e) in
        let there : place_in (a, b) (edges_in g) < length (edges_in g) = ltb-true (place_in (a, b) (edges_in g)) (length (edges_in g)) met in
        record { lt = omega arith; ends-are = ap (ends_of g) is ∙ ends-middle g (place_in (a, b) (edges_in g)) ∙ place_found (a, b) (edges_in g) there }

module _ (g : Grid) (p : Positive g) where
  node-ends : (k : ℕ) → k < corners_in g + length (edges_in g) → Ends g k
  node-ends k h = go (ltb k (corners_in g)) refl
    where
      go : (t : Bool) → ltb k (corners_in g) ≡ t → Ends g k
      go true e = corner-ends g k (ltb-true k (corners_in g) e)
      go false e =
          let le : corners_in g ≤ k = ltb-false k (corners_in g) e in
          let z : corners_in g + (k - corners_in g) ≡ k = omega arith in
          subst (Ends g) z (middle-ends g (k - corners_in g) (edges_steps g p) (omega arith))

  module _ (k : ℕ) (h : k < corners_in g + length (edges_in g)) where
    ends : Ends g k
    ends = node-ends k h

    point : Corner
    point = between ends.a ends.b

    inside : Inside (fine g) point
    unfolding point between
    inside = record { x = omega (arith, ends.low.x, ends.high.x); y = omega (arith, ends.low.y, ends.high.y); z = omega (arith, ends.low.z, ends.high.z) }

    point-is : point_of g k ≡ number_of (fine g) point
    unfolding point_of point
    point-is =
        ap (λ (x : Edge). number_of (fine g) (between (corner_of g x.0) (corner_of g x.1))) ends.are
        ∙ (λ i. number_of (fine g) (between (corner-number g ends.a ends.low i) (corner-number g ends.b ends.high i)))

    around-is : around g point ≡ (number_of g ends.a, number_of g ends.b)
    unfolding around point between
    around-is =
        let e = ends in
        let lx : (e.a.i + e.b.i) / 2 ≡ e.a.i = omega (arith, e.up-x, e.near-x) in
        let ly : (e.a.j + e.b.j) / 2 ≡ e.a.j = omega (arith, e.up-y, e.near-y) in
        let lz : (e.a.k + e.b.k) / 2 ≡ e.a.k = omega (arith, e.up-z, e.near-z) in
        let hx : (e.a.i + e.b.i + 1) / 2 ≡ e.b.i = omega (arith, e.up-x, e.near-x) in
        let hy : (e.a.j + e.b.j + 1) / 2 ≡ e.b.j = omega (arith, e.up-y, e.near-y) in
        let hz : (e.a.k + e.b.k + 1) / 2 ≡ e.b.k = omega (arith, e.up-z, e.near-z) in
        λ t. (number_of g (record { i = lx t; j = ly t; k = lz t }), number_of g (record { i = hx t; j = hy t; k = hz t }))

    point-lt : point_of g k < nodes_in g
    point-lt = subst (λ (n : ℕ). n < nodes_in g) (sym point-is) (number_lt (fine g) point inside)

    node-back : node_at g (point_of g k) ≡ k
    unfolding node_at
    node-back =
        ap (λ (n : ℕ). node_of g (around g (corner_of (fine g) n))) point-is
        ∙ ap (λ (c : Corner). node_of g (around g c)) (corner-number (fine g) point inside)
        ∙ ap (node_of g) around-is
        ∙ ends.back

  -- ---- from a point to its node and back

  module _ (n : ℕ) (h : n < nodes_in g) where
    at : Corner
    at = corner_of (fine g) n

    at-inside : Inside (fine g) at
    unfolding at
    at-inside = corner-inside (fine g) n h

    low : Inside g (below at)
    low = record { x = omega (arith, at-inside.x); y = omega (arith, at-inside.y); z = omega (arith, at-inside.z) }

    high : Inside g (above at)
    high = record { x = omega (arith, at-inside.x); y = omega (arith, at-inside.y); z = omega (arith, at-inside.z) }

    node-is : Node g (around g at)
    unfolding around
    node-is = node_of_lem g (number_of g (below at)) (number_of g (above at)) (number_lt g (below at) low) (point-met g at p at-inside)

    node-lt : node_at g n < corners_in g + length (edges_in g)
    unfolding node_at at
    node-lt = node-is.lt

    sum_is : between (below at) (above at) ≡ at
    unfolding between
    sum_is =
        let x : at.i / 2 + (at.i + 1) / 2 ≡ at.i = omega arith in
        let y : at.j / 2 + (at.j + 1) / 2 ≡ at.j = omega arith in
        let z : at.k / 2 + (at.k + 1) / 2 ≡ at.k = omega arith in
        λ t. record { i = x t; j = y t; k = z t }

    point-back : point_of g (node_at g n) ≡ n
    unfolding point_of node_at around at
    point-back =
        ap (λ (x : Edge). number_of (fine g) (between (corner_of g x.0) (corner_of g x.1))) node-is.ends-are
        ∙ (λ i. number_of (fine g) (between (corner-number g (below at) low i) (corner-number g (above at) high i)))
        ∙ ap (number_of (fine g)) sum_is
        ∙ number-corner (fine g) n

pub node-count : (g : Grid) → Positive g → Counted g
node-count g p = as_many (corners_in g + length (edges_in g)) (nodes_in g) (point_of g) (node_at g) (record { below = point-lt g p; back = node-back g p }) (record { below = node-lt g p; back = point-back g p })
