-- What a call returns, a refusal with the state as it came. Definitions only.
use Rattle.std.specs.Prelude.{Result, Ok, Err}
use Rattle.refusal.specs.declared.Refusal.{Refusal}
use Rattle.run_plain.specs.declared.Reply.TheVariants.{Refused}
use Rattle.run_plain.specs.declared.State.{State}
use Rattle.run_plain.specs.declared.Returned.{Returned}

abbrev pub told : State → Result Returned Refusal → Returned
told s (Ok r) = r
told s (Err x) = record { state = s; reply = Refused x }
