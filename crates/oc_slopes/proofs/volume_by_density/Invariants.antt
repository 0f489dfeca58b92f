-- `oc_slopes::volume_by_density` meets its contract: the places passed are filled. Assumes nothing.
use Rattle.lists.specs.Lists.{overwrite}
use Rattle.oc_slopes.proofs.volume_by_density.Given as goal
use lib.Ieee.{nan, binary64, mul}
use lib.ListN.{get_or}
use mathlib.Core.Path.{◌≡◌}

abbrev pub invariant-loop-i : goal.invariant-loop-i
invariant-loop-i l = l.out ≡ overwrite (λ e. mul binary64 (get_or l.slope e nan) (get_or l.free e nan)) l.i l.initial.out
