-- `oc_slopes::work_by_density` meets its contract: the places passed are filled. Assumes nothing.
use Rattle.lists.specs.Lists.{overwrite, choose, zero64}
use Rattle.oc_slopes.proofs.work_by_density.Given as goal
use Rattle.oc_slopes.specs.Slopes.{element_work}
use lib.Ieee.{nan}
use lib.ListN.{get_or}
use mathlib.Core.Bool.{false}
use mathlib.Core.Path.{◌≡◌}

abbrev pub invariant-loop-i : goal.invariant-loop-i
invariant-loop-i l = l.out ≡ overwrite (λ e. choose (get_or l.passive e false) zero64 (element_work (get_or l.density e nan) (get_or l.slope e nan) (get_or l.energies e nan))) l.i l.initial.out
