-- The guess serves where what is known of it settles the first rate.
use Rattle.lists.proofs.Laws.{both}
use Rattle.oc_kept.specs.Kept.{kept_of}
use Rattle.update_rates.proofs.Search.{searched}
use Rattle.update_rates.specs.Rates.{trial, reckoned}
use Rattle.update_rates.specs.Steps.{straight_of}
use Rattle.update_straight.proofs.straight.Goals as goal
use Rattle.update_straight.specs.Steps.{infinity}
use lib.Ieee.{binary64, add, lt, le}
use mathlib.Core.Path.{ap}

pub returns-then-sure-first : goal.returns-then-sure-first
unfolding trial reckoned kept_of
returns-then-sure-first c =
    let a = c.args in
    let k = c.known-sure in
    let t = both (le k.result.high a.first) (lt a.first infinity) c.if-sure-first.true in
    searched (straight_of a.problem a.solid) a.first _ _ _ _ _ _ c.requires.first_value (k.ensures.high a.first t.0 t.1).0 c.search-rate.ensures c.design_at.ensures (ap (add binary64 a.solid) c.dot.ensures)
