use Rattle.ieee.specs.Basic.{abs_of}
use Rattle.oc_kept.specs.Kept.{kept_of}
use Rattle.update_rates.specs.Rates.{trial, reckoned}
use Rattle.update_rates.specs.Steps.{more, off}
use Rattle.update_straight.proofs.judge.Goals as goal
use lib.Ieee.{Float, lt, binary64, sub}
use mathlib.Core.Path.{ap, ◌∙◌}

pub returns : goal.returns
unfolding more off reckoned trial kept_of
returns c =
    let p = c.args.at.problem in
    (c.of.ensures.0 ∙ ap (lt p.target) c.kept_at.ensures, c.of.ensures.1 ∙ ap (λ (v : Float). lt p.tolerance (abs_of (sub binary64 v p.target))) c.kept_at.ensures)
