-- A strip in one part is read as a whole.
use Rattle.std.proofs.Common.{ap, ◌∙◌}
use Rattle.strip_stream.specs.Stream.{fed, finished}
use Rattle.strip_stream.proofs.Parts.{whole}
use Rattle.strip_stream.proofs.check.Goals as goal

pub returns : goal.returns
returns c = c.finish.ensures ∙ ap finished (c.feed.ensures ∙ ap (λ r. fed r c.args.bytes.now) c.begin.ensures) ∙ whole c.args.bytes.now
