-- `copy` leaves the values of `from`.
use Rattle.std.proofs.Common.{◌≡◌, ◌++◌, ◌∙◌, refl, ap, length, slice_set, take, drop, append-nil, take_all, drop_of_length-le, arith}
use Rattle.lists.proofs.Copied.{copied_more}
use Rattle.lists.proofs.copy.Goals as goal

pub loop-i-init : goal.loop-i-init
loop-i-init g c = refl

pub loop-i-preserved : goal.loop-i-preserved
loop-i-preserved g c =
    ap (λ l. slice_set l c.loop-i.i c.index-from-i.result) c.loop-i.invariant
    ∙ copied_more c.args.from.now c.args.to.now c.index-from-i.result c.loop-i.i (omega arith) (omega arith) c.index-from-i.is

pub returns : goal.returns
returns g c =
    let e = take_all c.loop-i.i c.args.from.now (omega arith) in
    let n = drop_of_length-le c.args.to.now {i = c.loop-i.i} (omega arith) in
    c.loop-i.invariant ∙ ap (λ l. l ++ drop c.loop-i.i c.args.to.now) e ∙ ap (λ l. c.args.from.now ++ l) n ∙ append-nil c.args.from.now
