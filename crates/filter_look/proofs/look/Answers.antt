-- `filter_look::look` meets its contract: the limit settles what is far, the cube and the root the rest. Assumes nothing.
use Rattle.std.proofs.Common.{◌≡◌, ◌∙◌, sym, ap, [], get_or}
use lib.Ieee.{Float, binary64, sub, lt}
use Rattle.lists.proofs.Bools.{and-left-false, and-right-false, and-true}
use Rattle.geom.specs.Vectors.{dist}
use Rattle.geom.specs.Points.{point}
use Rattle.filter_look.proofs.Looks.{dist_is, far, looked_past, looked_met}
use Rattle.filter_look.proofs.look.Goals as goal

pub returns-then-sight-d2-clause-looked : goal.returns-then-sight-d2-clause-looked
returns-then-sight-d2-clause-looked c = let a = c.args in
    let g = a.sight in
    looked_past _ _ _ _ (and-right-false _ _ (far g.radius g.limit a.q _ c.dist2-d2.result g.settles c.dist2-d2.ensures c.if-sight-d2.true)) c.requires.lists.counted

pub returns-then-d-sight-clause-looked : goal.returns-then-d-sight-clause-looked
returns-then-d-sight-clause-looked c = let a = c.args in
    let g = a.sight in
    let there = point (get_or g.sorted.now a.k []) in
    let d : c.sqrt-d.result ≡ dist a.q there = c.sqrt-d.ensures ∙ dist_is a.q there c.dist2-d2.result c.dist2-d2.ensures in
    looked_met _ _ _ _ (sub binary64 g.radius c.sqrt-d.result) _
    (and-true _ _ (sym c.holds.ensures ∙ c.if-holds.true) (ap (λ (v : Float). lt v g.radius) (sym d) ∙ c.if-d-sight.true))
    (ap (sub binary64 g.radius) d) c.touch.ensures.met

pub returns-else-d-sight-clause-looked : goal.returns-else-d-sight-clause-looked
returns-else-d-sight-clause-looked c = let a = c.args in
    let g = a.sight in
    let there = point (get_or g.sorted.now a.k []) in
    let d : c.sqrt-d.result ≡ dist a.q there = c.sqrt-d.ensures ∙ dist_is a.q there c.dist2-d2.result c.dist2-d2.ensures in
    looked_past _ _ _ _ (and-right-false _ _ (ap (λ (v : Float). lt v g.radius) (sym d) ∙ c.if-d-sight.false)) c.requires.lists.counted

pub returns-else-holds-clause-looked : goal.returns-else-holds-clause-looked
returns-else-holds-clause-looked c = looked_past _ _ _ _ (and-left-false _ _ (sym c.holds.ensures ∙ c.if-holds.false)) c.requires.lists.counted
