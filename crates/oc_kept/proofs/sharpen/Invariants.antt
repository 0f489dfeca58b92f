use Rattle.std.proofs.Common.{◌≡◌, false, get_or, Some}
use Rattle.std.specs.Float.{nan}
use Rattle.lists.specs.Lists.{overwrite}
use Rattle.oc_seen.specs.Seen.{element_density}
use Rattle.oc_kept.proofs.sharpen.Given as goal

abbrev pub invariant-loop-i : goal.invariant-loop-i
invariant-loop-i l = l.density ≡ overwrite (λ e. element_density (Some l.fn.beta) (get_or l.fn.passive e false) (get_or l.initial.density e nan)) l.i l.initial.density
