-- `region_by_depth::reach::reach` meets its contract: the block that is walked holds all that the triangle reaches, and one with no cells holds nothing. Assumes nothing.
use Rattle.std.proofs.Common.{arith}
use Rattle.std.proofs.lemmas.Grind.{common_steps}
use Rattle.cells.specs.Cells.{about}
use Rattle.region_by_depth.proofs.reach.reach.Goals as goal
use Rattle.region_cells.proofs.Covers.{walk-done, walk-none-x, walk-none-y}
use Rattle.region_cells.specs.Steps.{cell_about, reached}
use mathlib.Core.Path.{◌≡◌, ap, ◌∙◌}

pub returns-then-block : goal.returns-then-block
returns-then-block c = let a = c.args in let q = a.middles in
    let lo = c.cell_of-lo.ensures ∙ ap (cell_about q.size) c.low.ensures in
    let hi = c.cell_of-hi.ensures ∙ ap (cell_about q.size) c.high.ensures in
    walk-none-x a.t q.size a.depth q.centroids.now q.cells.now q.order.now q.first.now q.buckets q.ready c.about-block.result (c.about-block.ensures ∙ (λ i. about (lo i) (hi i))) a.marks.now c.requires c.if-block.true

pub returns-then-block-2 : goal.returns-then-block-2
returns-then-block-2 c = let a = c.args in let q = a.middles in
    let lo = c.cell_of-lo.ensures ∙ ap (cell_about q.size) c.low.ensures in
    let hi = c.cell_of-hi.ensures ∙ ap (cell_about q.size) c.high.ensures in
    walk-none-y a.t q.size a.depth q.centroids.now q.cells.now q.order.now q.first.now q.buckets q.ready c.about-block.result (c.about-block.ensures ∙ (λ i. about (lo i) (hi i))) a.marks.now c.requires c.if-block-2.true

pub returns : goal.returns
returns c = let a = c.args in let q = a.middles in
    let lo = c.cell_of-lo.ensures ∙ ap (cell_about q.size) c.low.ensures in
    let hi = c.cell_of-hi.ensures ∙ ap (cell_about q.size) c.high.ensures in
    let done : c.walk.new.walker.marks.now ≡ reached q.size a.depth a.t q.centroids.now a.marks.now =
    walk-done a.t q.size a.depth q.centroids.now q.cells.now q.order.now q.first.now q.buckets q.ready c.about-block.result (c.about-block.ensures ∙ (λ i. about (lo i) (hi i))) a.marks.now c.walk.new.walker.marks.now c.requires c.walk.ensures.done.marked in
    grind (arith, common_steps)
