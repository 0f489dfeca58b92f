-- `run_open::begin` meets its contract: each way out by its law. Assumes nothing.
use Rattle.run_open.proofs.Laws.{refused_law, rows_law, design-fits, density-fits, last_law}
use Rattle.run_open.proofs.begin.Goals as goal
use Rattle.run_open_checks.proofs.Opens.{turn_law}
use Rattle.std.proofs.lemmas.Result.{err_from_is_err_and}
use mathlib.Core.Path.{refl, sym, ◌∙◌}

pub returns-then-not-in_turn-clause-opened : goal.returns-then-not-in_turn-clause-opened
returns-then-not-in_turn-clause-opened c = turn_law _ _ _ _ _ (sym c.in_turn.ensures ∙ c.if-not-in_turn.true)

pub returns-in_err-check-clause-opened : goal.returns-in_err-check-clause-opened
returns-in_err-check-clause-opened c =
    let p = err_from_is_err_and c.from_residual.result c.from_residual.ensures.1 in
    rw (p.1, p.2) (refused_law _ _ _ _ _ _ (sym c.in_turn.ensures ∙ c.if-not-in_turn.false) c.in_err-check.ensures)

pub returns-in_err-build-clause-opened : goal.returns-in_err-build-clause-opened
returns-in_err-build-clause-opened c =
    let p = err_from_is_err_and c.from_residual-in_err-build.result c.from_residual-in_err-build.ensures.1 in
    rw (p.1, p.2) (rows_law _ _ _ _ _ (sym c.in_turn.ensures ∙ c.if-not-in_turn.false) (sym c.in_ok-check.ensures) _ _ _ _ _ c.in_err-build.ensures.built _ refl)

pub lastly-requires : goal.lastly-requires
lastly-requires c =
    let turn = sym c.in_turn.ensures ∙ c.if-not-in_turn.false in
    let none = sym c.in_ok-check.ensures in
    let made = c.in_ok-build.ensures.built in
    (density-fits c.args.state _ _ _ _ turn none _ _ _ _ _ made refl, design-fits c.args.state _ _ _ _ turn none _ _ _ _ _ made refl)

pub returns-clause-opened : goal.returns-clause-opened
returns-clause-opened c = last_law _ _ _ _ _ (sym c.in_turn.ensures ∙ c.if-not-in_turn.false) (sym c.in_ok-check.ensures) _ _ _ _ _ c.in_ok-build.ensures.built refl _ c.entries-entries.ensures _ _ _ c.lastly.ensures.last
