-- Calls over numbers that a caller made, told by their contracts alone. The caller holds a state, the lists, and a history into which it puts the record that an
-- answer tells, at the place that it tells. Definitions only.
use Rattle.std.specs.Prelude.{◌≡◌, Bool, List, [], ◌∷◌, map, ℕ, length, take, set, eqb, Float}
use Rattle.lists.specs.Lists.{choose, overlay}
use Rattle.topo.specs.declared.Iteration.{Iteration}
use Rattle.topo.specs.declared.Stop.{Stop as Reason}
use Rattle.topo.specs.declared.Stop.TheVariants.{Settled, LevelledOff, Limit, Budget, Stopped}
use Rattle.run_plain.specs.Lent.{Sizes}
use Rattle.run_plain.specs.Plain.{Out, refused, asks, stops, solid, round, Shown, unopened, shown, Seen}
use Rattle.run_plain.specs.Calls.{lists_of, Core, Asked, Arguments, World, Call}
use Rattle.filter.specs.Build.{Working as OpenWorking, work_lengths}
use Rattle.run_plain.specs.Held.{Working, lengths_of}
use Rattle.c_numbers.specs.declared.RunState.{RunState}
use Rattle.c_numbers.specs.declared.RunGoal.{RunGoal}
use Rattle.c_numbers.specs.declared.RunHeard.{RunHeard}
use Rattle.c_numbers.specs.declared.RunReturned.{RunReturned}
use Rattle.c_numbers.specs.declared.RunRecord.{RunRecord}
use Rattle.c_numbers.specs.declared.RunStep.{RunStep}
use Rattle.c_numbers.specs.Flat.{goal_of, heard_of, state_of, OpenedAs, AnsweredAs}

pub record Held : Type 0 where
  pub state : RunState
  pub lists : Core
  pub history : List RunRecord

-- what a record's numbers say
unfoldable pub record_of : RunRecord → Iteration
record_of r = record { number = r.number; compliance = r.compliance; fraction = r.fraction; change = r.change; sharpness = r.sharpness; grey = r.grey; passes = r.passes }

abbrev pub world_of : Held → World
world_of h = record { state = state_of h.state; lists = lists_of h.lists (map record_of h.history) }

-- the first places of each list, but for the history
abbrev pub lent_core : Sizes → Core → Core
lent_core k l =
    record { volumes = take k.volumes l.volumes; passive = take k.passive l.passive; starts = take k.starts l.starts; near = take k.near l.near; coef = take k.coef l.coef; design = take k.design l.design; density = take k.density l.density; last = take k.last l.last }

abbrev pub back_core : Core → Core → Core
back_core p l =
    record { volumes = overlay p.volumes l.volumes; passive = overlay p.passive l.passive; starts = overlay p.starts l.starts; near = overlay p.near l.near; coef = overlay p.coef l.coef; design = overlay p.design l.design; density = overlay p.density l.density; last = overlay p.last l.last }

-- a call of `sokdrib_open`, and of `sokdrib_answer`
pub record OpenCall : Type 0 where
  pub lent : Sizes
  pub centroids : List (List Float)
  pub mirrors : List (List Float)
  pub goal : RunGoal
  pub flag : Bool
  pub work : OpenWorking
  pub returned : RunReturned
  pub core : Core
  pub worked : OpenWorking

pub record AnswerCall : Type 0 where
  pub lent : Sizes
  pub heard : RunHeard
  pub energies : List Float
  pub work : Working
  pub step : RunStep
  pub core : Core
  pub worked : Working

abbrev pub asked_of : OpenCall → Asked
asked_of b = record { centroids = b.centroids; mirrors = b.mirrors; goal = goal_of b.goal; flag = b.flag }

abbrev pub arguments_of : AnswerCall → Arguments
arguments_of m = record { heard = heard_of m.heard; energies = m.energies }

pub record MetOpen (h : Held) (b : OpenCall) : Type 0 where
  pub long : work_lengths b.work ≡ b.lent.work
  pub contract : OpenedAs h.state b.goal (asked_of b) (length (take b.lent.history h.history)) (lent_core b.lent h.lists) b.work b.returned b.core b.worked

pub record Met (h : Held) (m : AnswerCall) : Type 0 where
  pub long : lengths_of m.work ≡ m.lent.work
  pub contract : AnsweredAs h.state (arguments_of m) (length (take m.lent.history h.history)) (lent_core m.lent h.lists) m.work m.step m.core m.worked

-- what the caller then holds
abbrev pub opened : Held → OpenCall → Held
opened h b = record { state = b.returned.state; lists = back_core b.core h.lists; history = h.history }

abbrev pub answered : Held → AnswerCall → Held
answered h m = record { state = m.step.returned.state; lists = back_core m.core h.lists; history = overlay (set (take m.lent.history h.history) m.step.at m.step.entry) h.history }

unfoldable pub AllMet : Held → List AnswerCall → Type 0
AllMet h [] = Unit {0}
AllMet h (m ∷ more) = Met h m × AllMet (answered h m) more

-- a stop's number, and what a call tells
unfoldable pub stop_of : ℕ → Reason
stop_of n = choose (eqb n 0) Settled (choose (eqb n 1) LevelledOff (choose (eqb n 2) Limit (choose (eqb n 3) Budget Stopped)))

unfoldable pub out_of : RunReturned → Core → Out
out_of t l =
    choose (eqb t.reply 0) (refused t.number)
    (choose (eqb t.reply 1) (asks solid (take t.state.elements l.density))
    (choose (eqb t.reply 2) (asks (round t.number) (take t.state.elements l.density))
    (stops (stop_of t.number) (take t.state.elements l.last))))

abbrev pub left_at : Held → Shown
left_at h = shown (take h.state.rounds (map record_of h.history)) (take h.state.elements h.lists.design)

unfoldable pub seen_from : Held → List AnswerCall → List Seen
seen_from h [] = []
seen_from h (m ∷ more) = record { out = out_of m.step.returned m.core; left = left_at (answered h m) } ∷ seen_from (answered h m) more

unfoldable pub seen_shut : Held → List AnswerCall → List Seen
seen_shut h [] = []
seen_shut h (m ∷ more) = record { out = out_of m.step.returned m.core; left = unopened } ∷ seen_shut (answered h m) more

unfoldable pub seen_run : Held → OpenCall → List AnswerCall → List Seen
seen_run h b more =
    choose (eqb b.returned.reply 0) (record { out = out_of b.returned b.core; left = unopened } ∷ seen_shut (opened h b) more)
    (record { out = out_of b.returned b.core; left = left_at (opened h b) } ∷ seen_from (opened h b) more)

abbrev pub call_of : AnswerCall → Call
call_of m = record { lent = m.lent; arguments = arguments_of m }
