-- What is written is the text's first places.
use Rattle.std.proofs.Common.{take}
use Rattle.shape_report.specs.Steps.{Wrote}
use Rattle.shape_report.proofs.parts.words.Given as goal

abbrev pub invariant-loop-b : goal.invariant-loop-b
invariant-loop-b l = Wrote (take l.b-index l.text) l.at l.initial.out l.out l.next
