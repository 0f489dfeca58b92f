-- To feed what is left gives what feeding all gives.
use Rattle.std.proofs.Common.{◌≡◌, Ok, drop}
use Rattle.strip_stream.specs.Stream.{fed}
use Rattle.strip_stream.proofs.Reader.feed.Given as goal

abbrev pub invariant-loop-b : goal.invariant-loop-b
invariant-loop-b l = fed (Ok l.reader) (drop l.b-index l.bytes) ≡ fed (Ok l.initial.reader) l.bytes
