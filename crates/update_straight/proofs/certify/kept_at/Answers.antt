use Rattle.lists.proofs.Laws.{sum_to-none, sum_to-more}
use Rattle.lists.specs.Lists.{sum_to}
use Rattle.update_straight.proofs.Reckoned.{dot-is}
use Rattle.update_straight.proofs.certify.kept_at.Goals as goal
use lib.Ieee.{binary64, add}
use mathlib.Core.Path.{sym, ap, ◌∙◌}
use native.Mathlib.Nat.{le_antisymm}

pub loop-i-init : goal.loop-i-init
loop-i-init c = sym (sum_to-none _)

pub loop-i-preserved : goal.loop-i-preserved
loop-i-preserved c = rw (c.next_value.ensures, c.loop-i.invariant) (sum_to-more _ _)

pub returns : goal.returns
returns c = ap (add binary64 _) (c.loop-i.invariant ∙ ap (sum_to _) (le_antisymm c.loop-i.auto.i-end c.loop-i-test.false) ∙ dot-is _ _ _ _ _ _ c.args.at.dv_len)
