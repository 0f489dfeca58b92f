-- `filter_meet::walk::around` meets its contract: outside the box nothing counts, and within it the block about the image's cube holds all that does. Assumes nothing.
use Rattle.std.proofs.Common.{◌≡◌, ◌∙◌, sym, ap, List, ℕ, arith}
use lib.Ieee.{Float}
use Rattle.std.proofs.lemmas.Grind.{common_steps}
use Rattle.cells.specs.Cells.{cell_of, about}
use Rattle.filter.specs.Filter.{counts}
use Rattle.filter_look.specs.Steps.{gained, Took}
use Rattle.filter_look.proofs.Taking.{took_none}
use Rattle.filter_meet.proofs.Taking.{block, counts_none, block-x, block-y, block_counts}
use Rattle.filter_meet.proofs.walk.around.Goals as goal

pub returns-then-is_outside-clause-took : goal.returns-then-is_outside-clause-took
returns-then-is_outside-clause-took c = let a = c.args in
    let g = a.g.now in
    took_none (gained g.centroids.now g.radius a.q) a.met.now (counts g.centroids.now g.radius a.q) (counts_none g a.q (sym c.is_outside.ensures ∙ c.if-is_outside.true)) c.requires.counted

pub returns-clause-took : goal.returns-clause-took
returns-clause-took c = let a = c.args in
    let g = a.g.now in
    let is : c.about.result ≡ block g a.q = c.about.ensures ∙ ap (λ (k : List ℕ). about k k) (c.cube_of-cube.ensures ∙ ap (λ (p : List Float). cell_of p g.extent.lo g.radius) c.from.ensures) in
    let took : Took (counts g.centroids.now g.radius a.q) (gained g.centroids.now g.radius a.q) a.met.now c.walk.new.walker.met.now =
    block_counts g a.q a.met.now _ c.requires (sym c.is_outside.ensures ∙ c.if-is_outside.false) (rw is at c.walk.ensures.done.took) in
    grind (arith, common_steps)
