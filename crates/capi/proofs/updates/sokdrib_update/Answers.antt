-- `sokdrib_update` meets its contract: that the slope of the work has the length of the design, by the test of the lengths. Assumes nothing.
use Rattle.capi.proofs.updates.sokdrib_update.Goals as goal
use Rattle.lists.proofs.Laws.{neither}
use borrow.Author.Tests.{eqb-true, not-false}

pub invariant_of-task-clause-dc_len : goal.invariant_of-task-clause-dc_len
invariant_of-task-clause-dc_len c = eqb-true _ _ (not-false _ (neither _ _ (neither _ _ (neither _ _ c.in_default.ensures.accepted.0).0).0).0)
