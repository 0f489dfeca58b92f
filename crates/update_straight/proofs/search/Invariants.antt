-- The definition goes on from where the loop stands as it would from the start.
use Rattle.lists.specs.Lists.{zero64}
use Rattle.std.proofs.Common.{◌≡◌, ◌-◌}
use Rattle.update_rates.proofs.Search.{rest}
use Rattle.update_rates.specs.Rates.{halves, halved, while_to}
use Rattle.update_rates.specs.Steps.{off as off_at, stand_at, straight_of}
use Rattle.update_straight.proofs.search.Given as goal

abbrev pub invariant-loop-passes : goal.invariant-loop-passes
invariant-loop-passes l = let g = straight_of l.at.problem l.at.solid in record {
  off : l.off ≡ off_at g l.rate;
  goes_on : rest g l.bracket l.rate l.passes ≡ while_to (halves g) (halved g) (200 - 1) (stand_at g zero64 l.first l.first 1);
}
