-- `topo_moduli::level_with` meets its contract: only the greatest level below can have the modulus. Assumes nothing.
use Rattle.topo_moduli.proofs.Levels.{greatest-below, with-is, with_none, with-outside}
use Rattle.topo_moduli.proofs.level_with.Goals as goal
use lib.Ieee.{Float, eq}
use mathlib.Core.Path.{sym, ap, ◌∙◌}

pub returns-in_err-level : goal.returns-in_err-level
returns-in_err-level c = c.from_residual.ensures ∙ with-outside _ (sym c.level_below.ensures ∙ c.in_err-level.was)

pub modulus_at-requires : goal.modulus_at-requires
modulus_at-requires c = (greatest-below _ _ (sym c.level_below.ensures ∙ c.in_ok-level.was)).few

pub returns-then-modulus_at-m : goal.returns-then-modulus_at-m
returns-then-modulus_at-m c =
    with-is _ _ (greatest-below _ _ (sym c.level_below.ensures ∙ c.in_ok-level.was)).few (ap (λ (v : Float). eq v c.args.m) (sym c.modulus_at.ensures) ∙ c.if-modulus_at-m.true)

pub returns : goal.returns
returns c = with_none _ _ (sym c.level_below.ensures ∙ c.in_ok-level.was) (ap (λ (v : Float). eq v c.args.m) (sym c.modulus_at.ensures) ∙ c.if-modulus_at-m.false)
