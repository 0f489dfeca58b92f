-- `region_asymmetry::asymmetry` meets its contract: a refusal touches nothing, and what is not refused has lists that are long enough. Assumes nothing.
use Rattle.refusal.specs.Refusals.{refused}
use Rattle.region_asymmetry.proofs.Lent.{long, answer-refused, answer-apart, untouched, measured}
use Rattle.region_asymmetry.proofs.asymmetry.Goals as goal
use Rattle.region_asymmetry.specs.Asymmetry.{too_short}
use Rattle.region_asymmetry.specs.Held.{lent}
use Rattle.region_farthest.proofs.Farthest.{none_apart}
use Rattle.std.specs.Prelude.{Ok, Err}
use borrow.Author.Rules.{rules}
use lib.Ieee.{Float}
use mathlib.Core.Path.{◌≡◌, sym, ap, ◌∙◌}

pub returns-in_err-check : goal.returns-in_err-check
unfolding too_short
returns-in_err-check c = let a = c.args in
    let is : c.from_residual.result ≡ Err c.in_err-check.field-0.0 = search rules in
    rw is (untouched a.nodes.now a.tris.now a.mirror (lent a.work) _ (answer-refused _ _ _ (sym (ap refused c.in_err-check.was) ∙ c.check.ensures)))

pub returns-then-n-eq0 : goal.returns-then-n-eq0
unfolding too_short
returns-then-n-eq0 c = let a = c.args in
    let none = sym c.check.ensures ∙ ap refused c.in_ok-check.was in
    untouched a.nodes.now a.tris.now a.mirror (lent a.work) _ (ap (λ (v : Float). Ok v) (sym (none_apart a.nodes.now a.tris.now a.mirror c.if-n-eq0.true)) ∙ answer-apart _ _ none)

pub apart_front-requires : goal.apart_front-requires
unfolding too_short
apart_front-requires c = let a = c.args in
    long a.nodes.now a.tris.now a.mirror (lent a.work) c.if-n-eq0.false (sym c.check.ensures ∙ ap refused c.in_ok-check.was)

pub returns : goal.returns
unfolding too_short
returns c = let a = c.args in
    measured a.nodes.now a.tris.now a.mirror (lent a.work) _ _ (sym c.check.ensures ∙ ap refused c.in_ok-check.was) c.apart_front.ensures.apart c.apart_front.ensures.past
