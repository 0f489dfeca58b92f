-- `region_passive::passive` meets its contract: a refusal touches nothing, and what is not refused has lists that are long enough. Assumes nothing.
use Rattle.refusal.proofs.Numbers.{some_number}
use Rattle.refusal.specs.Refusals.{refused}
use Rattle.region_passive.proofs.Fits.{roomy, refused_lem, accepted}
use Rattle.region_passive.proofs.passive.Goals as goal
use Rattle.region_passive.specs.Held.{problem, lent}
use Rattle.region_passive.specs.Passive.{refusal_of}
use Rattle.std.specs.Prelude.{Err}
use borrow.Author.Rules.{rules}
use mathlib.Core.Path.{◌≡◌, sym, ap, ◌∙◌}

pub returns-in_err-check : goal.returns-in_err-check
unfolding refusal_of
returns-in_err-check c = let a = c.args in
    let is : c.from_residual.result ≡ Err c.in_err-check.field-0.0 = search rules in
    rw is (refused_lem (problem a.part) (lent a.work) _ (sym (ap refused c.in_err-check.was) ∙ c.check.ensures) (some_number _))

pub mark_front-requires : goal.mark_front-requires
unfolding refusal_of
mark_front-requires c = let a = c.args in
    roomy (problem a.part) (lent a.work) (sym c.check.ensures ∙ ap refused c.in_ok-check.was)

pub returns : goal.returns
unfolding refusal_of
returns c = let a = c.args in
    accepted (problem a.part) (lent a.work) _ (sym (ap refused c.in_ok-check.was) ∙ c.check.ensures) c.mark_front.ensures
