-- `fill::number` meets its contract. The loop's invariant: the places passed hold their numbers. Assumes nothing.
use Rattle.lists.specs.Lists.{overwrite}
use Rattle.region_farthest.proofs.fill.number.Given as goal
use mathlib.Core.Path.{◌≡◌}

abbrev pub invariant-loop-i : goal.invariant-loop-i
invariant-loop-i l = l.order ≡ overwrite (λ k. k) l.i l.initial.order
