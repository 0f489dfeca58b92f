-- By what its tests show (`proofs/Settled.antt`).
use Rattle.lists.specs.Lists.{choose, zero64}
use Rattle.update_straight.proofs.Settled.{known_is, nothing_known}
use Rattle.update_straight.proofs.certify.known.Goals as goal
use Rattle.update_straight.specs.Steps.{infinity}
use borrow.Author.Rules.{rules}
use lib.Ieee.{lt}
use mathlib.Core.Bool.{not, ◌&&◌}
use mathlib.Core.Path.{refl, sym, ◌∙◌}

pub returns-then-orderly : goal.returns-then-orderly
returns-then-orderly c =
    let p = c.args.at.problem in
    let low = c.args.guess.low in
    let high = c.args.guess.high in
    let a = c.of-a.ensures in
    let b = c.of-b.ensures in
    known_is p.x.now p.gain.now p.dv.now p.passive.now p.m p.target p.tolerance c.args.at.solid (sym c.orderly.ensures.test ∙ c.if-orderly.true) c.orderly.ensures.fit (search rules) c.args.at.dv_len
    _ low high _ _ _ _ c.kept_at.ensures c.kept_at-then-orderly.ensures refl refl
    (c.either.ensures ∙ (λ i. choose (lt zero64 low && lt low infinity && a.0 i && a.1 i) low zero64))
    (c.either-then-orderly.ensures ∙ (λ i. choose (lt zero64 high && lt high infinity && not (b.0 i) && b.1 i) high infinity))

pub returns : goal.returns
returns c = nothing_known _ _ _ _ _ _ _ _ _ refl refl
