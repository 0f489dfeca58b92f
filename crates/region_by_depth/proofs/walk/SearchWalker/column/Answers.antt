-- `column` of `region_by_depth::walk::Search` meets its contract. The invariant: the positions passed are looked at, which is the walk of `cells`. Assumes nothing.
use Rattle.std.proofs.Common.{rules, ◌≡◌, refl, ℕ, ◌+◌, ◌≤◌, ◌<◌, true, List, Bool, length, arith}
use Rattle.std.proofs.Math.Logic.{∥∥₁_elim}
use Rattle.std.proofs.Props.{props}
use Rattle.cells.specs.Cells.{changed}
use Rattle.cells.specs.Filing.{Spanned}
use Rattle.cells.specs.declared.Column.{Column}
use Rattle.cells.proofs.Walks.{Walked, walk_none, walk-done}
use Rattle.region_by_depth.proofs.walk.SearchWalker.column.Goals as goal
use Rattle.region_by_depth.specs.declared.walk.Search.{Search}
use Rattle.region_cells.proofs.Near.{near_box_lem, near-own, look-more}
use Rattle.region_cells.specs.Steps.{box_near}

module _ (s : Search) (c : Column) where
  abbrev near : ℕ → Bool
  near = box_near s.t s.limit s.middles.centroids.now s.middles.cells.now c.x (c.x + 1) c.y (c.y + 1) c.z0 (c.z1 + 1)

  own : (i : ℕ) → near i ≡ true → i < length s.middles.cells.now
  own = near-own s.t s.limit s.middles.centroids.now s.middles.cells.now c.x (c.x + 1) c.y (c.y + 1) c.z0 (c.z1 + 1)

  module _ (a b : ℕ) (span : Spanned s.middles.first.now s.middles.buckets (length s.middles.cells.now) c.x c.y c.z0 c.z1 a b) where
    -- the run of a column is one of positions
    spanned : (a ≤ b) × (b ≤ length s.middles.cells.now)
    spanned = ∥∥₁_elim s.middles.ready.filed (hlevel props) (λ f. span.some s.middles.cells.now s.middles.order.now f refl)

    -- and holds all of its elements
    walked-all : (w : List Bool) → Walked s.middles.cells.now s.middles.order.now s.middles.first.now s.middles.buckets near (λ _ _. true) s.marks.now a b w → w ≡ changed near (λ _ _. true) s.marks.now
    walked-all w walked =
        ∥∥₁_elim s.middles.ready.filed (hlevel props)
        (λ f.
        walk-done s.middles.cells.now s.middles.order.now s.middles.first.now s.middles.buckets near own (λ _ _. true) true s.marks.now a f b w
        (λ i p. span.holds s.middles.cells.now s.middles.order.now f refl i (near_box_lem s.t s.limit s.middles.centroids.now s.middles.cells.now c.x (c.x + 1) c.y (c.y + 1) c.z0 (c.z1 + 1) i p)) walked)

pub loop-k-init : goal.loop-k-init
loop-k-init c = let s = c.args.self.now in
    let q = s.middles in
    walk_none q.cells.now q.order.now q.first.now q.buckets (near s c.args.c) (own s c.args.c) (λ _ _. true) true s.marks.now _

pub look-requires : goal.look-requires
look-requires c = let s = c.args.self.now in
    let l = c.loop-k in
    let lt : l.k < length s.middles.cells.now = omega (arith, spanned s c.args.c _ _ c.span-run.ensures) in
    (lt, omega (arith, s.middles.ready.elements l.k lt, s.middles.ready.many, c.requires))

pub loop-k-preserved : goal.loop-k-preserved
loop-k-preserved c = let s = c.args.self.now in
    let q = s.middles in
    let w = c.args.c in
    let l = c.loop-k in
    let lt : l.k < length q.cells.now = omega (arith, spanned s w _ _ c.span-run.ensures) in
    look-more s.t s.limit q.centroids.now q.cells.now q.order.now q.first.now q.buckets w.x w.y w.z0 w.z1 s.marks.now _ l.k l.marks _ (omega arith) lt (q.ready.elements l.k lt) (omega (arith, q.ready.many, c.requires)) l.invariant c.look.ensures

pub returns : goal.returns
returns c = let s = c.args.self.now in
    let l = c.loop-k in
    let run = c.span-run in
    let e : l.k ≡ run.result.end = omega (arith, spanned s c.args.c _ _ run.ensures) in
    record { ready = search rules; done = record { t = refl; limit = refl; middles = refl; held = refl; marked = walked-all s c.args.c run.result.start run.result.end run.ensures l.marks (rw e at l.invariant) } }
