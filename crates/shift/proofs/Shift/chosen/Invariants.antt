-- Who is chosen of the jobs passed.
use Rattle.std.proofs.Common.{◌≡◌, ◌<◌, get_or, false}
use Rattle.std.specs.Prelude.{MatchOption}
use Rattle.lists.specs.Lists.{fold_to}
use Rattle.shift.specs.Grants.{turn, place_of, job_at}
use Rattle.shift.proofs.Shift.chosen.Given as goal

abbrev pub invariant-loop-j : goal.invariant-loop-j
invariant-loop-j l = (place_of l.best ≡ fold_to (turn l.self (λ k. get_or l.marked-items k false)) 16 l.j) × MatchOption l.best (Unit {0}) (λ b. (b < 16) × (l.held ≡ job_at l.self b))
