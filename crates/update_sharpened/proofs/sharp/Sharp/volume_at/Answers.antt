-- The volume is known, or is reckoned.
use Rattle.ieee_lanes.proofs.Same.{eq-same}
use Rattle.lists.proofs.Laws.{both}
use Rattle.lists.specs.Lists.{zero64}
use Rattle.update_rates.specs.Rates.{trial, reckoned}
use Rattle.update_sharpened.proofs.Reckoned.{volume-is}
use Rattle.update_sharpened.proofs.sharp.Sharp.volume_at.Goals as goal
use Rattle.update_sharpened.specs.Ahead.{sharp_of}
use borrow.Author.Rules.{rules}
use lib.Ieee.{eq, ne}
use mathlib.Core.Path.{sym, ap, ◌∙◌}

pub returns-then-rate-at-clause-kept : goal.returns-then-rate-at-clause-kept
returns-then-rate-at-clause-kept c =
    let a = c.args in
    let g = sharp_of a.self in
    let t = both (eq a.rate a.at.next) (ne a.rate zero64) c.if-rate-at.true in
    let e = eq-same a.rate a.at.next (search rules) (search rules) t.0 t.1 in
    c.requires.ahead.two ∙ ap (reckoned g) (c.requires.ahead.next ∙ ap (trial g) (sym e))

pub returns-then-p-q-clause-kept : goal.returns-then-p-q-clause-kept
unfolding trial
returns-then-p-q-clause-kept c =
    let t = both c.design_again-p.result c.design_again-q.result c.if-p-q.true in
    let p = c.design_again-p.ensures in
    c.requires.ahead.one ∙ ap (reckoned (sharp_of c.args.self)) (sym (p.same t.0) ∙ p.design)

pub returns-then-p-q-clause-ahead : goal.returns-then-p-q-clause-ahead
unfolding trial
returns-then-p-q-clause-ahead c =
    let g = sharp_of c.args.self in
    let t = both c.design_again-p.result c.design_again-q.result c.if-p-q.true in
    record {
      one = c.requires.ahead.one ∙ ap (reckoned g) (sym (c.design_again-p.ensures.same t.0));
      two = c.requires.ahead.two ∙ ap (reckoned g) (sym (c.design_again-q.ensures.same t.1));
      next = c.design_again-q.ensures.design;
    }

pub returns-clause-kept : goal.returns-clause-kept
unfolding trial
returns-clause-kept c = c.kept-keep.ensures.0 ∙ volume-is c.args.self _ ∙ ap (reckoned (sharp_of c.args.self)) c.design_again-p.ensures.design

pub returns-clause-ahead : goal.returns-clause-ahead
unfolding trial
returns-clause-ahead c = record {
  one = c.kept-keep.ensures.0 ∙ volume-is c.args.self _;
  two = c.kept-keep.ensures.1 ∙ volume-is c.args.self _;
  next = c.design_again-q.ensures.design;
}
