-- `run_verdict::not_finite` meets its contract: the places passed are looked at. Assumes nothing.
use Rattle.ieee.specs.Basic.{is_finite}
use Rattle.lists.specs.Lists.{any_to}
use Rattle.run_verdict.proofs.not_finite.Given as goal
use lib.Ieee.{nan}
use lib.ListN.{get_or}
use mathlib.Core.Bool.{not}
use mathlib.Core.Path.{◌≡◌}

abbrev pub invariant-loop-u : goal.invariant-loop-u
invariant-loop-u l = l.t ≡ any_to (λ k. not (is_finite (get_or l.energies k nan))) l.u-index
