-- `unknown` meets its contract: the parts are read in order. Assumes nothing.
use Rattle.std.proofs.Common.{refl, sym, ◌∙◌, length-take-le, arith}
use Rattle.shift.proofs.Parts.{front, rest, shorter}
use Rattle.shift.proofs.checks.unknown.Goals as goal

pub loop-rest-init : goal.loop-rest-init
loop-rest-init c = refl

pub slice_bounds-any_unknown-end : goal.slice_bounds-any_unknown-end
slice_bounds-any_unknown-end c = omega (arith, length-take-le 64 c.loop-rest.rest.now (omega arith))

pub returns-then-any_unknown : goal.returns-then-any_unknown
returns-then-any_unknown c = front _ 64 c.loop-rest.rest.now (sym c.if-any_unknown.true ∙ c.any_unknown.ensures) ∙ c.loop-rest.invariant

pub loop-rest-smaller : goal.loop-rest-smaller
loop-rest-smaller c = shorter c.args.jobs 64 c.loop-rest.rest.now _ refl (omega arith) (omega arith)

pub loop-rest-preserved : goal.loop-rest-preserved
loop-rest-preserved c = rest _ 64 c.loop-rest.rest.now _ refl (sym c.if-any_unknown.false ∙ c.any_unknown.ensures) ∙ c.loop-rest.invariant

pub returns : goal.returns
returns c = c.any_unknown-2.ensures ∙ c.loop-rest.invariant
