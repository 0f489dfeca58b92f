-- `capi::sokdrib_dist2_each` meets its contract: the places passed are filled. Assumes nothing.
use Rattle.std.proofs.Common.{◌≡◌, get_or, []}
use Rattle.lists.specs.Lists.{overwrite}
use Rattle.capi.specs.Each.{dist2_of}
use Rattle.capi.proofs.sokdrib_dist2_each.Given as goal

abbrev pub invariant-loop-k : goal.invariant-loop-k
invariant-loop-k l = l.out ≡ overwrite (λ k. dist2_of (get_or l.points k []) (get_or l.triangles k [])) l.k l.initial.out
