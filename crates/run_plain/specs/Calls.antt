-- What the contracts of `open` and `answer` state, over the numbers of a state and the lists that are lent; and a caller that hands each call the
-- state and the lists as the last call left them, or a part of a list. Of the working lists only the lengths count. Definitions only.
use Rattle.std.specs.Prelude.{◌≡◌, Bool, true, false, not, ◌&&◌, ◌||◌, List, [], ◌∷◌, ℕ, zero, suc, length, take, set, replicate, ltb, leb, eqb, Float, Option, Some, None}
use Rattle.lists.specs.Lists.{choose, zero64, overlay}
use Rattle.refusal.specs.Refusals.{number_of}
use Rattle.topo.specs.declared.Goal.{Goal}
use Rattle.topo.specs.declared.Iteration.{Iteration}
use Rattle.topo.specs.declared.Sharpening.TheVariants.{Off}
use Rattle.topo.specs.declared.Stop.{Stop}
use Rattle.topo.specs.declared.Stop.TheVariants.{Stopped}
use Rattle.topo.specs.Stages.{sharpens, early}
use Rattle.oc_record.specs.Record.{compliance_of}
use Rattle.update_rates.specs.Rates.{Search}
use Rattle.run_plain.specs.declared.Phase.{Phase}
use Rattle.run_plain.specs.declared.Phase.TheVariants.{Idle, Solid, Round}
use Rattle.run_plain.specs.declared.Heard.{Heard}
use Rattle.run_plain.specs.declared.Reply.{Reply}
use Rattle.run_plain.specs.declared.Reply.TheVariants.{Refused, Solid as SolidPart, Round as RoundPart, Stop as StopReply}
use Rattle.run_plain.specs.declared.Verdict.{Verdict}
use Rattle.run_plain.specs.declared.Verdict.TheVariants.{Kept, Over, Halts, Begins, Solves}
use Rattle.run_plain.specs.declared.Setting.{Setting}
use Rattle.run_plain.specs.declared.Progress.{Progress}
use Rattle.run_plain.specs.declared.Compliances.{Compliances}
use Rattle.run_plain.specs.declared.State.{State}
use Rattle.run_plain.specs.Lent.{Sizes, answer_short}
use Rattle.run_plain.specs.Formulas.{Steep, s1, s2, s4, s8, s16, Case, ones, see, update_at, record_at, not_finite, idle, small, level}
use Rattle.run_plain.specs.Opening.{Opening, elements, starts_of, near_of, coef_of, start_of, Entry, Kept as KeptOut, Zeroed, Shut, Opens, entry_of}
use Rattle.run_plain.specs.declared.Checks.{Checks}
use Rattle.run_plain.specs.Plain.{Answer, Part, nothing, solid, round, Out, refused, asks, stops, Shown, unopened, shown, Seen, judged, Stops, first_stop, sharpest}

-- ---- what is lent, and what a call leaves
pub record Lists : Type 0 where
  pub volumes : List Float
  pub passive : List Bool
  pub starts : List ℕ
  pub near : List ℕ
  pub coef : List Float
  pub design : List Float
  -- the densities asked for, and those of the last record's round
  pub density : List Float
  pub last : List Float
  pub history : List Iteration

-- an answer's arguments, but for the state and the other lists
pub record Arguments : Type 0 where
  pub heard : Heard
  pub energies : List Float

-- a reply, a refusal by its number
pub data Replied : Type 0 where
  refuses : ℕ → Replied
  asks_solid : Replied
  asks_round : ℕ → Replied
  ends : Stop → Replied

abbrev pub replied : Reply → Replied
replied (Refused r) = refuses (number_of r)
replied SolidPart = asks_solid
replied (RoundPart n) = asks_round n
replied (StopReply why) = ends why

-- what a call returns, and its lists as it leaves them
pub record Result : Type 0 where
  pub state : State
  pub reply : Replied
  pub lists : Lists

-- every list but the history and the working lists
pub record Core : Type 0 where
  pub volumes : List Float
  pub passive : List Bool
  pub starts : List ℕ
  pub near : List ℕ
  pub coef : List Float
  pub design : List Float
  pub density : List Float
  pub last : List Float

abbrev pub lists_of : Core → List Iteration → Lists
lists_of l h =
    record { volumes = l.volumes; passive = l.passive; starts = l.starts; near = l.near; coef = l.coef; design = l.design; density = l.density; last = l.last; history = h }

-- the lists with what an answer writes
abbrev pub written_lists : Lists → List Float → List Float → List Float → List Iteration → Lists
written_lists l design density last history = record l { design = design; density = density; last = last; history = history }

-- the lengths, with those of the working lists
abbrev pub sizes_of : List ℕ → Lists → Sizes
sizes_of work l =
    record {
      volumes = length l.volumes;
      passive = length l.passive;
      starts = length l.starts;
      near = length l.near;
      coef = length l.coef;
      design = length l.design;
      density = length l.density;
      last = length l.last;
      history = length l.history;
      work = work;
    }

-- the same, of a history that has room for so many records
abbrev pub sizes_in : List ℕ → Core → ℕ → Sizes
sizes_in work l room =
    record {
      volumes = length l.volumes;
      passive = length l.passive;
      starts = length l.starts;
      near = length l.near;
      coef = length l.coef;
      design = length l.design;
      density = length l.density;
      last = length l.last;
      history = room;
      work = work;
    }

-- ---- the state's numbers
-- no record stands, and no work is known
abbrev pub unstarted : Progress
unstarted = record { rounds = 0; stage = 0; at_stage = 0; steady = 0 }

abbrev pub no_work : Compliances
no_work = record { solid = zero64; last = zero64 }

-- "Over": the state ended
abbrev pub ended_of : State → State
ended_of s = record s { phase = Idle }

-- the steepness of a stage
abbrev pub steep_at : ℕ → Steep
steep_at zero = s1
steep_at (suc zero) = s2
steep_at (suc (suc zero)) = s4
steep_at (suc (suc (suc zero))) = s8
steep_at (suc (suc (suc (suc n)))) = s16

-- 20: "the test of its numbers that docs/ fixes and every state of a run passes". A state with no run open has nothing to test
unfoldable pub in_range : State → Bool
in_range s = leb s.progress.stage 4 && ltb s.progress.at_stage 20 && ltb s.progress.steady 5 && leb s.setting.elements 65535

abbrev pub sound_in : Phase → State → Bool
sound_in Idle s = true
sound_in Solid s = in_range s && eqb s.progress.rounds 0
sound_in Round s = in_range s && ltb s.progress.rounds s.setting.max_iterations

unfoldable pub sound : State → Bool
sound s = sound_in s.phase s

-- the part that a state asks for: none where its numbers fail the test
abbrev pub part_in : Phase → State → Part
part_in Idle s = nothing
part_in Solid s = solid
part_in Round s = round (suc s.progress.rounds)

unfoldable pub part_of : State → Part
part_of s = choose (sound s) (part_in s.phase s) nothing

-- what the formulas read: the places needed of the lists that are lent
unfoldable pub case_from : State → Lists → Case
case_from s l =
    record {
      volumes = take s.setting.elements l.volumes;
      passive = take s.setting.elements l.passive;
      starts = take (suc s.setting.elements) l.starts;
      near = take s.setting.entries l.near;
      coef = take s.setting.entries l.coef;
      fraction = s.setting.fraction;
      sharpen = sharpens s.setting.sharpen;
    }

unfoldable pub checks_at : State → Arguments → Sizes → Checks
checks_at s a k =
    record {
      short = answer_short s.setting.elements s.setting.entries s.setting.max_iterations k;
      said = a.heard.said;
      stands = ltb 0 s.progress.rounds;
      count = not (eqb (length a.energies) s.setting.elements);
      bad = not_finite a.energies;
      idle = idle (compliance_of a.energies);
      flag = a.heard.flag;
    }

-- ---- an answer
abbrev pub keeps : State → ℕ → Lists → Result
keeps s n l = record { state = s; reply = refuses n; lists = l }

abbrev pub first_state : State → Float → State
first_state s w = record s { phase = Round; compliances = record s.compliances { solid = w } }

abbrev pub design_in : State → Lists → List Float
design_in s l = take s.setting.elements l.design

abbrev pub density_in : State → Lists → List Float
density_in s l = take s.setting.elements l.density

-- the solid part is solved: round 1 is asked for
abbrev pub first_asked : State → Arguments → Lists → Result
first_asked s a l =
    record {
      state = first_state s (compliance_of a.energies);
      reply = asks_round 1;
      lists = written_lists l l.design (overlay (see (case_from s l) (steep_at s.progress.stage) (design_in s l)) l.density) l.last l.history;
    }

-- the update and the record of a round
abbrev pub update_in : State → Arguments → Lists → Search
update_in s a l = update_at (case_from s l) (steep_at s.progress.stage) (design_in s l) (density_in s l) a.energies

abbrev pub record_in : State → Arguments → Lists → Iteration
record_in s a l = record_at (case_from s l) (steep_at s.progress.stage) (design_in s l) (density_in s l) a.energies (suc s.progress.rounds)

-- whether the work is level with the last record's
unfoldable pub level_at : State → Float → Bool
level_at s w = choose (ltb 0 s.progress.rounds) (level s.compliances.last w) false

unfoldable pub steady_at : State → Float → ℕ
steady_at s w = choose (sharpest s.setting.sharpen (steep_at s.progress.stage) && level_at s w) (suc s.progress.steady) 0

unfoldable pub stops_at : State → Heard → Iteration → Stops
stops_at s h r =
    record {
      sharp = sharpest s.setting.sharpen (steep_at s.progress.stage);
      small = small r.change;
      levelled = leb 5 (steady_at s r.compliance);
      limit = leb s.setting.max_iterations (suc s.progress.rounds);
      budget = leb h.allowed h.elapsed;
      flag = h.flag;
    }

-- whether the steepness moves on
unfoldable pub due_at : State → Iteration → Bool
due_at s r = leb 20 (suc s.progress.at_stage) || (early s.setting.sharpen && small r.change)

unfoldable pub stage_after : State → Iteration → ℕ
stage_after s r = choose (sharpest s.setting.sharpen (steep_at s.progress.stage)) s.progress.stage (choose (due_at s r) (suc s.progress.stage) s.progress.stage)

unfoldable pub turns_after : State → Iteration → ℕ
turns_after s r = choose (sharpest s.setting.sharpen (steep_at s.progress.stage)) 0 (choose (due_at s r) 0 (suc s.progress.at_stage))

-- the state with the record added: at a stop, and going on
abbrev pub recorded_state : State → Iteration → State
recorded_state s r = record s { phase = Idle; progress = record s.progress { rounds = suc s.progress.rounds }; compliances = record s.compliances { last = r.compliance } }

abbrev pub onward_state : State → Iteration → State
onward_state s r =
    record s {
      phase = Round;
      progress = record { rounds = suc s.progress.rounds; stage = stage_after s r; at_stage = turns_after s r; steady = steady_at s r.compliance };
      compliances = record s.compliances { last = r.compliance };
    }

abbrev pub solved_lists : State → Arguments → Lists → List Float → Lists
solved_lists s a l density = written_lists l (overlay (update_in s a l).design l.design) density (overlay (density_in s l) l.last) (set l.history s.progress.rounds (record_in s a l))

abbrev pub solved_by : State → Arguments → Lists → Option Stop → Result
solved_by s a l (Some why) = record { state = recorded_state s (record_in s a l); reply = ends why; lists = solved_lists s a l l.density }
solved_by s a l None =
    record {
      state = onward_state s (record_in s a l);
      reply = asks_round (suc (suc s.progress.rounds));
      lists = solved_lists s a l (overlay (see (case_from s l) (steep_at (stage_after s (record_in s a l))) (update_in s a l).design) l.density);
    }

abbrev pub answer_by : State → Arguments → Lists → Verdict → Result
answer_by s a l (Kept n) = keeps s (number_of n) l
answer_by s a l (Over n) = keeps (ended_of s) (number_of n) l
answer_by s a l Halts = record { state = ended_of s; reply = ends Stopped; lists = l }
answer_by s a l Begins = first_asked s a l
answer_by s a l Solves = solved_by s a l (first_stop (stops_at s a.heard (record_in s a l)))

-- the contract of `answer`; `work` has the lengths of the working lists
unfoldable pub answer_of : State → Arguments → List ℕ → Lists → Result
answer_of s a work l = answer_by s a l (judged (part_of s) (checks_at s a (sizes_of work l)))

-- ---- an opening
-- an opening's arguments that no later call gets
pub record Asked : Type 0 where
  pub centroids : List (List Float)
  pub mirrors : List (List Float)
  pub goal : Goal
  pub flag : Bool

abbrev pub opening_of : Asked → List ℕ → Lists → Opening
opening_of g work l = record { volumes = l.volumes; centroids = g.centroids; passive = l.passive; mirrors = g.mirrors; goal = g.goal; flag = g.flag; lent = sizes_of work l }

-- "the three filter lists [..] are zero throughout"
unfoldable pub zeroed_lists : Lists → Lists
zeroed_lists l = record l { starts = replicate (length l.starts) 0; near = replicate (length l.near) 0; coef = replicate (length l.coef) zero64 }

-- the finished filter in its lists, with the design and the densities given
abbrev pub built_lists : Opening → Lists → List Float → List Float → Lists
built_lists o l design density =
    record l { starts = overlay (starts_of o) l.starts; near = overlay (near_of o) l.near; coef = overlay (coef_of o) l.coef; design = design; density = density }

abbrev pub setting_of : Goal → ℕ → ℕ → Setting
setting_of g elements entries = record { elements = elements; entries = entries; fraction = g.fraction; sharpen = g.sharpen; max_iterations = g.max_iterations }

abbrev pub opened_state : Goal → ℕ → ℕ → State
opened_state g elements entries = record { phase = Solid; setting = setting_of g elements entries; progress = unstarted; compliances = no_work }

abbrev pub open_by : State → Opening → Lists → Entry → Result
open_by s o l (KeptOut n) = keeps s n l
open_by s o l (Zeroed n) = keeps s n (zeroed_lists l)
open_by s o l Shut = keeps (ended_of s) 15 (built_lists o l l.design l.density)
open_by s o l Opens = record { state = opened_state o.goal (elements o) (length (near_of o)); reply = asks_solid; lists = built_lists o l (overlay (start_of o) l.design) (overlay (ones (elements o)) l.density) }

-- in turn: no run is open
abbrev pub in_turn : Phase → Bool
in_turn Idle = true
in_turn Solid = false
in_turn Round = false

-- the contract of `open`
unfoldable pub open_of : State → Asked → List ℕ → Lists → Result
open_of s g work l = choose (in_turn s.phase) (open_by s (opening_of g work l) l (entry_of (opening_of g work l))) (keeps s 20 l)

-- ---- the caller: it holds a state and lists, lends each call the first places of each list, and writes nothing meanwhile
pub record World : Type 0 where
  pub state : State
  pub lists : Lists

abbrev pub lend : Sizes → Lists → Lists
lend k l =
    record {
      volumes = take k.volumes l.volumes;
      passive = take k.passive l.passive;
      starts = take k.starts l.starts;
      near = take k.near l.near;
      coef = take k.coef l.coef;
      design = take k.design l.design;
      density = take k.density l.density;
      last = take k.last l.last;
      history = take k.history l.history;
    }

abbrev pub give_back : Lists → Lists → Lists
give_back p l =
    record {
      volumes = overlay p.volumes l.volumes;
      passive = overlay p.passive l.passive;
      starts = overlay p.starts l.starts;
      near = overlay p.near l.near;
      coef = overlay p.coef l.coef;
      design = overlay p.design l.design;
      density = overlay p.density l.density;
      last = overlay p.last l.last;
      history = overlay p.history l.history;
    }

-- an answer that a caller makes: how much of each list it lends, and the rest
pub record Call : Type 0 where
  pub lent : Sizes
  pub arguments : Arguments

abbrev pub result_of : World → Call → Result
result_of w c = answer_of w.state c.arguments c.lent.work (lend c.lent w.lists)

abbrev pub world_after : Lists → Result → World
world_after l r = record { state = r.state; lists = give_back r.lists l }

-- "a definition gives this paper's number and values for each case": the densities asked for are in `density`, those of a stop in `last`
abbrev pub out_by : Replied → ℕ → Lists → Out
out_by (refuses k) n l = refused k
out_by asks_solid n l = asks solid (take n l.density)
out_by (asks_round k) n l = asks (round k) (take n l.density)
out_by (ends why) n l = stops why (take n l.last)

abbrev pub out_of : Result → Out
out_of r = out_by r.reply r.state.setting.elements r.lists

abbrev pub left_at : World → Shown
left_at w = shown (take w.state.progress.rounds w.lists.history) (take w.state.setting.elements w.lists.design)

unfoldable pub calls_from : World → List Call → List Seen
calls_from w [] = []
calls_from w (c ∷ more) =
    let r = result_of w c in
    let v = world_after w.lists r in
    record { out = out_of r; left = left_at v } ∷ calls_from v more

unfoldable pub calls_shut : World → List Call → List Seen
calls_shut w [] = []
calls_shut w (c ∷ more) =
    let r = result_of w c in
    record { out = out_of r; left = unopened } ∷ calls_shut (world_after w.lists r) more

abbrev pub calls_by : World → List Call → Replied → Out → List Seen
calls_by w more (refuses n) out = record { out = out; left = unopened } ∷ calls_shut w more
calls_by w more asks_solid out = record { out = out; left = left_at w } ∷ calls_from w more
calls_by w more (asks_round n) out = record { out = out; left = left_at w } ∷ calls_from w more
calls_by w more (ends why) out = record { out = out; left = left_at w } ∷ calls_from w more

-- an opening, with so much of each list lent, and then answers
unfoldable pub calls_run : World → Sizes → Asked → List Call → List Seen
calls_run w k g more =
    let r = open_of w.state g k.work (lend k w.lists) in
    calls_by (world_after w.lists r) more r.reply (out_of r)

-- what an opening, and then answers, leave
abbrev pub world_open : World → Sizes → Asked → World
world_open w k g = world_after w.lists (open_of w.state g k.work (lend k w.lists))

unfoldable pub world_from : World → List Call → World
world_from w [] = w
world_from w (c ∷ more) = world_from (world_after w.lists (result_of w c)) more

-- "the fresh state that docs/ gives"
unfoldable pub fresh : State
fresh = record { phase = Idle; setting = record { elements = 0; entries = 0; fraction = zero64; sharpen = Off; max_iterations = 0 }; progress = unstarted; compliances = no_work }

-- what the plain run is fed of a call: of the lists the lengths that are lent
abbrev pub fed : Lists → Call → Answer
fed l c = record { heard = c.arguments.heard; energies = c.arguments.energies; lent = sizes_of c.lent.work (lend c.lent l) }

-- no run is open
abbrev pub NoRun : State → Type 0
NoRun s = s.phase ≡ Idle
