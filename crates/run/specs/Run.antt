-- The contracts of `open` and `answer`: what they return and leave is what `run_plain`'s definitions give, at every input. Definitions only.
use Rattle.std.specs.Prelude.{◌≡◌, List, length}
use Rattle.topo.specs.declared.Iteration.{Iteration}
use Rattle.run_plain.specs.declared.State.{State}
use Rattle.run_plain.specs.declared.Returned.{Returned}
use Rattle.run_plain.specs.Calls.{Core, Asked, Arguments, Result, replied, lists_of, open_of, answer_of}
use Rattle.filter.specs.Build.{Working as OpenWorking, work_lengths}
use Rattle.run_plain.specs.Held.{Working, lengths_of}
use Rattle.run_answer.specs.Answers.{verdict_in, worked}
use Rattle.run_open_checks.specs.Opens.{entry_in, Left}

-- an opening: the result and every list are those of `open_of`; `work` says what is left in the working lists
pub record Opened (s : State) (g : Asked) (l : Core) (w : OpenWorking) (h : List Iteration) (r : Returned) (o : Core) (w' : OpenWorking) (h' : List Iteration) : Type 0 where
  pub same : ◌≡◌ {A = Result} (record { state = r.state; reply = replied r.reply; lists = lists_of o h' }) (open_of s g (work_lengths w) (lists_of l h))
  pub work : Left (length l.volumes) w w' (entry_in s g (length h) l w)

-- an answer: the result and every list are those of `answer_of`; `work` says what is free in the working lists
pub record Answered (s : State) (a : Arguments) (l : Core) (w : Working) (h : List Iteration) (r : Returned) (o : Core) (w' : Working) (h' : List Iteration) : Type 0 where
  pub same : ◌≡◌ {A = Result} (record { state = r.state; reply = replied r.reply; lists = lists_of o h' }) (answer_of s a (lengths_of w) (lists_of l h))
  pub work : worked s.setting.elements w w' (verdict_in s a (length h) l w)
