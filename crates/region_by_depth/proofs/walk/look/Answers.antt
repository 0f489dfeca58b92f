-- `region_by_depth::walk::look` meets its contract: a mark stays, and elsewhere the cell and the distance decide. Assumes nothing.
use Rattle.lists.proofs.Laws.{choose-true, choose-false}
use Rattle.region_by_depth.proofs.walk.look.Goals as goal
use Rattle.region_cells.proofs.Near.{marked-stays}
use Rattle.region_cells.specs.Steps.{near_at, seen_at}
use lib.ListN.{get_or}
use mathlib.Core.Path.{sym, ◌∙◌}

pub returns-then-marks-i : goal.returns-then-marks-i
returns-then-marks-i c = let a = c.args in
    marked-stays a.marks.now (get_or a.middles.order.now a.k 0) _ c.if-marks-i.true

pub returns-then-is_near : goal.returns-then-is_near
unfolding seen_at near_at
returns-then-is_near c = sym (choose-true _ _ _ (rw (sym c.holds.ensures ∙ c.if-holds.true) (sym c.is_near.ensures ∙ c.if-is_near.true)))

pub returns-else-is_near : goal.returns-else-is_near
unfolding seen_at near_at
returns-else-is_near c = sym (choose-false _ _ _ (rw (sym c.holds.ensures ∙ c.if-holds.true) (sym c.is_near.ensures ∙ c.if-is_near.false)))

pub returns-else-holds : goal.returns-else-holds
unfolding seen_at
returns-else-holds c = sym (choose-false _ _ _ (rw (sym c.holds.ensures ∙ c.if-holds.false)))
