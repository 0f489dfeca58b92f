-- Calls of `open` and `answer` that a caller made, told by their contracts alone: "Each answer gets state and lists as the last call left them, written by
-- nobody meanwhile, a list lent too short being a part of the same list". Definitions only.
use Rattle.std.specs.Prelude.{◌≡◌, List, [], ◌∷◌}
use Rattle.topo.specs.declared.Iteration.{Iteration}
use Rattle.run_plain.specs.declared.Reply.{Reply}
use Rattle.run_plain.specs.declared.Reply.TheVariants.{Refused, Solid, Round, Stop}
use Rattle.run_plain.specs.Lent.{Sizes}
use Rattle.run_plain.specs.Plain.{Out, Seen, unopened}
use Rattle.run_plain.specs.Calls.{Lists, lists_of, Core, Asked, Arguments, Result, replied, World, Call, lend, world_after, out_of, left_at}
use Rattle.run_plain.specs.declared.Returned.{Returned}
use Rattle.filter.specs.Build.{Working as OpenWorking, work_lengths}
use Rattle.run_plain.specs.Held.{Working, lengths_of}
use Rattle.run.specs.Run.{Opened, Answered}

-- a call of `open`: how much of each list was lent, what was asked, its working lists, and what came back
pub record MadeOpen : Type 0 where
  pub lent : Sizes
  pub asked : Asked
  pub work : OpenWorking
  pub returned : Returned
  pub core : Core
  pub worked : OpenWorking
  pub history : List Iteration

-- a call of `answer`
pub record Made : Type 0 where
  pub lent : Sizes
  pub arguments : Arguments
  pub work : Working
  pub returned : Returned
  pub core : Core
  pub worked : Working
  pub history : List Iteration

abbrev pub core_of : Lists → Core
core_of l = record { volumes = l.volumes; passive = l.passive; starts = l.starts; near = l.near; coef = l.coef; design = l.design; density = l.density; last = l.last }

-- what came back
abbrev pub open_result : MadeOpen → Result
open_result b = record { state = b.returned.state; reply = replied b.returned.reply; lists = lists_of b.core b.history }

abbrev pub answer_result : Made → Result
answer_result m = record { state = m.returned.state; reply = replied m.returned.reply; lists = lists_of m.core m.history }

abbrev pub call_of : Made → Call
call_of m = record { lent = m.lent; arguments = m.arguments }

-- the call met its contract, on the caller's state and on the first places of its lists
pub record MetOpen (w : World) (b : MadeOpen) : Type 0 where
  pub long : work_lengths b.work ≡ b.lent.work
  pub contract : Opened w.state b.asked (core_of (lend b.lent w.lists)) b.work (lend b.lent w.lists).history b.returned b.core b.worked b.history

pub record Met (w : World) (m : Made) : Type 0 where
  -- the working lists are as long as lent
  pub long : lengths_of m.work ≡ m.lent.work
  pub contract : Answered w.state m.arguments (core_of (lend m.lent w.lists)) m.work (lend m.lent w.lists).history m.returned m.core m.worked m.history

-- every answer did, each on what the last call left
unfoldable pub AllMet : World → List Made → Type 0
AllMet w [] = Unit {0}
AllMet w (m ∷ more) = Met w m × AllMet (world_after w.lists (answer_result m)) more

-- what is compared, call by call: once opened with records and design
unfoldable pub seen_from : World → List Made → List Seen
seen_from w [] = []
seen_from w (m ∷ more) = record { out = out_of (answer_result m); left = left_at (world_after w.lists (answer_result m)) } ∷ seen_from (world_after w.lists (answer_result m)) more

unfoldable pub seen_shut : World → List Made → List Seen
seen_shut w [] = []
seen_shut w (m ∷ more) = record { out = out_of (answer_result m); left = unopened } ∷ seen_shut (world_after w.lists (answer_result m)) more

abbrev pub seen_by : World → List Made → Reply → Out → List Seen
seen_by w more (Refused n) out = record { out = out; left = unopened } ∷ seen_shut w more
seen_by w more Solid out = record { out = out; left = left_at w } ∷ seen_from w more
seen_by w more (Round n) out = record { out = out; left = left_at w } ∷ seen_from w more
seen_by w more (Stop why) out = record { out = out; left = left_at w } ∷ seen_from w more

abbrev pub opened : World → MadeOpen → World
opened w b = world_after w.lists (open_result b)

unfoldable pub seen_run : World → MadeOpen → List Made → List Seen
seen_run w b more = seen_by (opened w b) more b.returned.reply (out_of (open_result b))

-- what the caller then holds
unfoldable pub world_made : World → List Made → World
world_made w [] = w
world_made w (m ∷ more) = world_made (world_after w.lists (answer_result m)) more
