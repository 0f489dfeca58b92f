use Rattle.std.proofs.Common.{take, sym, ap, ◌∙◌, add-one, arith}
use Rattle.std.proofs.lemmas.List.{take_all}
use lib.Seq.{take-suc}
use Rattle.shape_report.proofs.Laws.{then, retext, same-long}
use Rattle.shape_report.proofs.parts.words.Goals as goal

pub loop-b-preserved : goal.loop-b-preserved
loop-b-preserved c =
    let text = c.args.text.now in
    let i = c.loop-b.b-index in
    retext (sym (ap (λ k. take k text) (add-one i) ∙ take-suc text i 0 (omega arith))) (then c.loop-b.invariant c.byte-next.ensures)

pub shape_of-out : goal.shape_of-out
shape_of-out c = same-long c.loop-b.invariant

pub returns : goal.returns
returns c = retext (take_all c.loop-b.b-index c.args.text.now (omega arith)) c.loop-b.invariant
