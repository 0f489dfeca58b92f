-- What the core of an answer returns and leaves, read as what `run_plain`'s contract of an answer states. Definitions only.
use Rattle.std.specs.Prelude.{◌≡◌, List, ℕ, length, set, Option, Some, None}
use Rattle.lent.specs.Lent.{Free}
use Rattle.topo.specs.declared.Iteration.{Iteration}
use Rattle.run_plain.specs.declared.State.{State}
use Rattle.run_plain.specs.declared.Verdict.{Verdict}
use Rattle.run_plain.specs.declared.Verdict.TheVariants.{Kept, Over, Halts, Begins, Solves}
use Rattle.run_plain.specs.Plain.{judged}
use Rattle.run_plain.specs.Calls.{Core, Arguments, Result, replied, lists_of, sizes_in, part_of, checks_at, answer_of}
use Rattle.run_plain.specs.Held.{Working, lengths_of}
use Rattle.run_answer.specs.declared.Step.{Step}

abbrev pub verdict_in : State → Arguments → ℕ → Core → Working → Verdict
verdict_in s a room l w = judged (part_of s) (checks_at s a (sizes_in (lengths_of w) l room))

pub record Scratch (n : ℕ) (w w' : Working) : Type 0 where
  pub free : Free n w.free w'.free
  pub slope : Free n w.slope w'.slope
  pub spare : Free n w.spare w'.spare
  pub dc : Free n w.dc w'.dc
  pub dv : Free n w.dv w'.dv

-- the working lists after an answer: as lent where it is refused or the solver stopped, else free in the needed places alone
abbrev pub worked : ℕ → Working → Working → Verdict → Type 0
worked n w w' (Kept k) = w' ≡ w
worked n w w' (Over k) = w' ≡ w
worked n w w' Halts = w' ≡ w
worked n w w' Begins = Scratch n w w'
worked n w w' Solves = Scratch n w w'

-- a history with the record after those that stand
abbrev pub noted : List Iteration → ℕ → Option Iteration → List Iteration
noted h rounds None = h
noted h rounds (Some e) = set h rounds e

-- what is returned and left, with the record put at its place of the history
abbrev pub recorded : State → Step → Core → List Iteration → Result
recorded s r o h = record { state = r.returned.state; reply = replied r.returned.reply; lists = lists_of o (noted h s.progress.rounds r.entry) }

-- for every history of `room` records: what the core returns and leaves, with its record put at its place, is what an answer does
pub record CoreAnswered (s : State) (a : Arguments) (room : ℕ) (l : Core) (w : Working) (r : Step) (o : Core) (w' : Working) : Type 0 where
  pub same : (h : List Iteration) → length h ≡ room → recorded s r o h ≡ answer_of s a (lengths_of w) (lists_of l h)
  pub work : worked s.setting.elements w w' (verdict_in s a room l w)
