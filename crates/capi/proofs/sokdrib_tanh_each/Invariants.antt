-- `capi::sokdrib_tanh_each` meets its contract: the places passed are filled. Assumes nothing.
use Rattle.std.proofs.Common.{◌≡◌, get_or}
use Rattle.std.specs.Float.{nan}
use Rattle.lists.specs.Lists.{overwrite}
use Rattle.ieee_tanh.specs.Tanh.{tanh_of}
use Rattle.capi.proofs.sokdrib_tanh_each.Given as goal

abbrev pub invariant-loop-i : goal.invariant-loop-i
invariant-loop-i l = l.out ≡ overwrite (λ k. tanh_of (get_or l.zs k nan)) l.i l.initial.out
