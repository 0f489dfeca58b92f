-- `capi::sokdrib_sqrt_each` meets its contract: the places passed are filled. Assumes nothing.
use Rattle.std.proofs.Common.{◌≡◌, get_or}
use Rattle.std.specs.Float.{nan, binary64}
use Rattle.lists.specs.Lists.{overwrite}
use Rattle.ieee_root.specs.Sqrt.{sqrt_of}
use Rattle.capi.proofs.sokdrib_sqrt_each.Given as goal

abbrev pub invariant-loop-i : goal.invariant-loop-i
invariant-loop-i l = l.out ≡ overwrite (λ k. sqrt_of binary64 (get_or l.xs k nan)) l.i l.initial.out
