-- `Filer::look` meets its contract: the place that is read is the edge's, and what is left is the definition's, by the test. Assumes nothing.
use Rattle.std.proofs.Common.{◌≡◌, ℕ, ◌+◌, ◌*◌, ◌-◌, ◌≤◌, ◌<◌, min, max, List, get_or, slice_set, rules, ap, sym, ◌∙◌, subst, arith}
use Rattle.geom.specs.Points.{stored}
use Rattle.mesh_lattice.proofs.Filed.{look-old, look-new}
use Rattle.mesh_lattice.proofs.Ways.{index-most}
use Rattle.mesh_lattice.proofs.Filer.look.Goals as goal
use Rattle.mesh_lattice.specs.Filing.{strides, index_in, slot_of, between, filing}
use Rattle.mesh_lattice.specs.Lattice.{edge, corners_in, slots_in}
use Rattle.mesh_lattice.specs.declared.Grid.{Grid}
use lib.Ieee.{Float}
use lib.Seq.{get_or-set_same}
use native.Mathlib.Nat.{min-le_left}

-- the place that the code reads, from what its calls tell of the edge's ends and of its direction
module _ (g : Grid) (a b lo hi d : ℕ) (low : lo ≡ min a b) (high : hi ≡ max a b) (way : d ≡ index_in (hi - lo) (strides g)) where
  is_slot : 8 * lo + d ≡ slot_of g (edge a b)
  unfolding slot_of
  is_slot = λ i. 8 * low i + (way ∙ (λ j. index_in (high j - low j) (strides g))) i

  slot_fits : a < corners_in g → 8 * lo + d < slots_in g
  slot_fits h = omega (arith, low, min-le_left a b, way, index-most (strides g) (hi - lo))

-- a store in a list that is lent on
relent : {A : Type 0} (new lent list : List A) (k : ℕ) (v : A) → new ≡ slice_set lent k v → lent ≡ list → new ≡ slice_set list k v
relent {A} new lent list k v e is = e ∙ ap (λ (l : List A). slice_set l k v) is

pub overflow_add-slot : goal.overflow_add-slot
overflow_add-slot c =
    omega (arith, slot_fits c.args.g.grid c.args.a c.args.b _ _ _ c.min-lo.ensures c.max-hi.ensures c.direction.ensures c.requires.low, c.args.g.small.corners)

pub offset_bounds-self-slot : goal.offset_bounds-self-slot
offset_bounds-self-slot c =
    omega (arith, slot_fits c.args.g.grid c.args.a c.args.b _ _ _ c.min-lo.ensures c.max-hi.ensures c.direction.ensures c.requires.low, c.args.g.small.corners)

pub bounds-self-slot : goal.bounds-self-slot
bounds-self-slot c = omega (arith, slot_fits c.args.g.grid c.args.a c.args.b _ _ _ c.min-lo.ensures c.max-hi.ensures c.direction.ensures c.requires.low, c.requires.room)

pub returns-then-met-clause-filed : goal.returns-then-met-clause-filed
returns-then-met-clause-filed c =
    let at = is_slot c.args.g.grid c.args.a c.args.b _ _ _ c.min-lo.ensures c.max-hi.ensures c.direction.ensures in
    sym (look-old _ _ _ (subst (λ (k : ℕ). 0 < get_or c.args.self.now.edges.now k 0) at (omega (arith, c.if-met.true))))

pub returns-then-met-clause-number : goal.returns-then-met-clause-number
returns-then-met-clause-number c =
    ap (λ (k : ℕ). get_or c.args.self.now.edges.now k 0) (is_slot c.args.g.grid c.args.a c.args.b _ _ _ c.min-lo.ensures c.max-hi.ensures c.direction.ensures)

pub offset_bounds-self-slot-2 : goal.offset_bounds-self-slot-2
offset_bounds-self-slot-2 c =
    omega (arith, slot_fits c.args.g.grid c.args.a c.args.b _ _ _ c.min-lo.ensures c.max-hi.ensures c.direction.ensures c.requires.low, c.args.g.small.corners)

pub bounds-self-slot-2 : goal.bounds-self-slot-2
bounds-self-slot-2 c = omega (arith, slot_fits c.args.g.grid c.args.a c.args.b _ _ _ c.min-lo.ensures c.max-hi.ensures c.direction.ensures c.requires.low, c.requires.room)

pub returns-clause-filed : goal.returns-clause-filed
returns-clause-filed c =
    let s = filing c.args.self.now in
    let at = is_slot c.args.g.grid c.args.a c.args.b _ _ _ c.min-lo.ensures c.max-hi.ensures c.direction.ensures in
    let put : c.put.new.list ≡ slice_set s.nodes s.next c.into.result = relent _ _ _ _ _ c.put.ensures (search rules) in
    (λ i. record {
      nodes = (put ∙ ap (λ (p : List Float). slice_set s.nodes s.next p) (c.into.ensures ∙ ap stored (c.middle-p.ensures ∙ (λ j. between s.nodes (c.min-lo.ensures j, c.max-hi.ensures j))))) i;
      edges = slice_set s.edges (at i) s.next;
      next = s.next + 1;
    })
    ∙ sym (look-new _ _ _ (subst (λ (k : ℕ). get_or s.edges k 0 ≤ 0) at (omega (arith, c.if-met.false))))

pub returns-clause-number : goal.returns-clause-number
returns-clause-number c =
    let s = filing c.args.self.now in
    let slot = 8 * c.min-lo.result + c.direction.result in
    let at = is_slot c.args.g.grid c.args.a c.args.b _ _ _ c.min-lo.ensures c.max-hi.ensures c.direction.ensures in
    let fits : slot < slots_in c.args.g.grid = slot_fits c.args.g.grid c.args.a c.args.b _ _ _ c.min-lo.ensures c.max-hi.ensures c.direction.ensures c.requires.low in
    sym (ap (λ (k : ℕ). get_or (slice_set s.edges slot s.next) k 0) (sym at)
    ∙ get_or-set_same s.edges slot s.next 0 (omega (arith, fits, c.requires.room)))
