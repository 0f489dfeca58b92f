use Prim.Native.Nat.{min}
use Rattle.lists.proofs.Laws.{sum_to-none}
use Rattle.lists.specs.Lists.{sum_to}
use Rattle.update_two.proofs.Laws.{parts_are}
use Rattle.update_two.proofs.Reckoning.kept.Goals as goal
use lib.ListN.{length}
use mathlib.Core.Path.{◌≡◌, sym, ap, ◌∙◌}
use native.Mathlib.Omega.{arith}

pub loop-k-init : goal.loop-k-init
loop-k-init c = (sym (sum_to-none _), sym (sum_to-none _))

pub returns : goal.returns
returns c = let r = c.args.self in
    let t = r.formed.table in
    let l = c.loop-e in
    let n : l.e ≡ min (length r.volumes.now) (length r.passive.now) = omega (arith, c.min-n.ensures) in (
      l.invariant.0 ∙ ap (sum_to _) n ∙ parts_are r.at.beta t.starts.now t.near.now t.coef.now r.volumes.now r.passive.now c.args.x.now,
      l.invariant.1 ∙ ap (sum_to _) n ∙ parts_are r.at.beta t.starts.now t.near.now t.coef.now r.volumes.now r.passive.now c.args.y.now,
    )
