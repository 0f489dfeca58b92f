-- A byte more moves one byte of what is left into the reader, and a refused reader stays so.
use Rattle.std.proofs.Common.{◌≡◌, Ok, Err, ◌+◌, length, drop, sym, ap, ◌∙◌, arith, rules}
use Rattle.strip_stream.specs.Stream.{fed}
use Rattle.strip_stream.proofs.Parts.{fed_next, fed_all, fed_refused}
use Rattle.strip_stream.proofs.Reader.feed.Goals as goal

pub returns-in_err-step : goal.returns-in_err-step
returns-in_err-step c =
    let i = c.loop-b.b-index in
    let e : c.from_residual.result ≡ Err c.in_err-step.field-0.0 = search rules in
    e ∙ sym (fed_refused _ (drop (i + 1) c.args.bytes.now)) ∙ ap (λ x. fed x (drop (i + 1) c.args.bytes.now)) c.in_err-step.ensures ∙ fed_next (Ok c.loop-b.reader) c.args.bytes.now i (omega arith) ∙ c.loop-b.invariant

pub loop-b-preserved : goal.loop-b-preserved
loop-b-preserved c =
    let i = c.loop-b.b-index in
    ap (λ x. fed x (drop (i + 1) c.args.bytes.now)) c.in_ok-step.ensures ∙ fed_next (Ok c.loop-b.reader) c.args.bytes.now i (omega arith) ∙ c.loop-b.invariant

pub returns : goal.returns
returns c =
    let all : c.loop-b.b-index ≡ length c.args.bytes.now = omega arith in
    sym (fed_all (Ok c.loop-b.reader) c.args.bytes.now) ∙ ap (λ n. fed (Ok c.loop-b.reader) (drop n c.args.bytes.now)) (sym all) ∙ c.loop-b.invariant
