use Rattle.std.proofs.Common.{◌≡◌, false, get_or}
use Rattle.std.specs.Float.{nan}
use Rattle.lists.specs.Lists.{overwrite}
use Rattle.oc_seen.specs.Seen.{element_density, element_slope}
use Rattle.oc_seen.proofs.see.Given as goal

abbrev pub invariant-loop-i : goal.invariant-loop-i
invariant-loop-i l = record {
  density : l.density ≡ overwrite (λ e. element_density l.fn.sharpness (get_or l.fn.passive e false) (get_or l.initial.density e nan)) l.i l.initial.density;
  slope : l.slope ≡ overwrite (λ e. element_slope l.fn.sharpness (get_or l.fn.passive e false) (get_or l.initial.density e nan)) l.i l.initial.slope;
}
