-- 01, "The plain run": "fed the calls' arguments alone: never the state, and of an answer's lists other than the energies only the lengths". It reads
-- steady rounds and rounds at a steepness off its own records. Definitions only.
use Rattle.std.specs.Prelude.{Bool, false, not, ◌&&◌, ◌||◌, List, [], ◌∷◌, ◌++◌, ℕ, suc, length, ltb, leb, eqb, Float, Option, Some, None}
use Rattle.lists.specs.Lists.{choose, zero64}
use Rattle.refusal.specs.declared.Refusal.TheVariants as Refusal
use Rattle.refusal.specs.Refusals.{number_of}
use Rattle.topo.specs.declared.Iteration.{Iteration}
use Rattle.topo.specs.declared.Sharpening.{Sharpening}
use Rattle.topo.specs.declared.Stop.{Stop}
use Rattle.topo.specs.declared.Stop.TheVariants.{Settled, LevelledOff, Limit, Budget, Stopped}
use Rattle.topo.specs.Stages.{sharpens, early}
use Rattle.oc_record.specs.Record.{compliance_of}
use Rattle.run_plain.specs.declared.Said.{Said}
use Rattle.run_plain.specs.declared.Heard.{Heard}
use Rattle.run_plain.specs.declared.Checks.{Checks}
use Rattle.run_plain.specs.declared.Said.TheVariants.{Gave, Failed, Halted}
use Rattle.run_plain.specs.declared.Verdict.{Verdict}
use Rattle.run_plain.specs.declared.Verdict.TheVariants.{Kept, Over, Halts, Begins, Solves}
use Rattle.run_plain.specs.Lent.{Sizes, answer_short}
use Rattle.run_plain.specs.Formulas.{Steep, s1, s2, s4, s8, s16, ones, see, update_at, record_at, not_finite, idle, small, level}
use Rattle.run_plain.specs.Opening.{Opening, elements, near_of, case_of, start_of, entry_of, Entry, Kept as KeptOut, Zeroed, Shut, Opens}

-- ---- what goes in and what comes out
-- an answer: what the solver said, the flag and the milliseconds; its energies; how long each other list is
pub record Answer : Type 0 where
  pub heard : Heard
  pub energies : List Float
  pub lent : Sizes

-- "the part asked for (solid, before round 1; round n; or none)"
pub data Part : Type 0 where
  nothing : Part
  solid : Part
  round : ℕ → Part

-- "each call's refusal number, stop or part asked for, with a part its densities [..], with a stop those of the last record's round"
pub data Out : Type 0 where
  refused : ℕ → Out
  asks : Part → List Float → Out
  stops : Stop → List Float → Out

-- "once opened, records and design"
pub data Shown : Type 0 where
  unopened : Shown
  shown : List Iteration → List Float → Shown

-- what is compared after each call
pub record Seen : Type 0 where
  pub out : Out
  pub left : Shown

-- ---- steepness
abbrev pub next : Steep → Steep
next s1 = s2
next s2 = s4
next s4 = s8
next s8 = s16
next s16 = s16

abbrev pub stage_of : Steep → ℕ
stage_of s1 = 0
stage_of s2 = 1
stage_of s4 = 2
stage_of s8 = 3
stage_of s16 = 4

unfoldable pub same : Steep → Steep → Bool
same a b = eqb (stage_of a) (stage_of b)

-- "At 16, or unsharpened throughout"
unfoldable pub sharpest : Sharpening → Steep → Bool
sharpest sharpen b = not (sharpens sharpen) || same b s16

-- ---- the run's own records, the newest first
pub record Row : Type 0 where
  pub steep : Steep
  pub entry : Iteration

abbrev pub in_order : List Row → List Iteration
in_order [] = []
in_order (r ∷ rows) = in_order rows ++ (r.entry ∷ [])

-- rounds at a steepness
unfoldable pub count_at : Steep → List Row → ℕ
count_at b [] = 0
count_at b (r ∷ rows) = choose (same b r.steep) (suc (count_at b rows)) (count_at b rows)

-- whether a work is level with that of the round before: "The first round at 16 compares with the last at 8."
unfoldable pub level_with : List Row → Float → Bool
level_with [] w = false
level_with (q ∷ rows) w = level q.entry.compliance w

-- rounds running, up to the newest, that may settle and are level with the round before
unfoldable pub steady_run : Sharpening → List Row → ℕ
steady_run sharpen [] = 0
steady_run sharpen (r ∷ rows) = choose (sharpest sharpen r.steep && level_with rows r.entry.compliance) (suc (steady_run sharpen rows)) 0

-- ---- "An answer checks 20, 14, 15 or 18 as the solver said, 16, 17, 19, then 15 by the flag."
abbrev pub solid_said : Said → Checks → Verdict
solid_said Halted c = Over Refusal.Stopped
solid_said Failed c = Over Refusal.SolverFailed
solid_said Gave c = choose c.count (Over Refusal.EnergiesDiffer) (choose c.bad (Over Refusal.EnergyNotFinite) (choose c.idle (Over Refusal.NoWork) (choose c.flag (Over Refusal.Stopped) Begins)))

-- "Solver stopped: 15, or Stopped if a record stands."
abbrev pub round_said : Said → Checks → Verdict
round_said Halted c = choose c.stands Halts (Over Refusal.Stopped)
round_said Failed c = Over Refusal.SolverFailed
round_said Gave c = choose c.count (Over Refusal.EnergiesDiffer) (choose c.bad (Over Refusal.EnergyNotFinite) Solves)

unfoldable pub judged : Part → Checks → Verdict
judged nothing c = Kept Refusal.OutOfTurn
judged solid c = choose c.short (Kept Refusal.ListTooShort) (solid_said c.said c)
judged (round n) c = choose c.short (Kept Refusal.ListTooShort) (round_said c.said c)

-- ---- "stops are tried in this order: Settled [..], LevelledOff [..], Limit, Budget. Earlier, only Limit and Budget." "Stopped comes last"
pub record Stops : Type 0 where
  pub sharp : Bool
  pub small : Bool
  pub levelled : Bool
  pub limit : Bool
  pub budget : Bool
  pub flag : Bool

unfoldable pub first_stop : Stops → Option Stop
first_stop t =
    choose (t.sharp && t.small) (Some Settled)
    (choose (t.sharp && t.levelled) (Some LevelledOff)
    (choose t.limit (Some Limit)
    (choose t.budget (Some Budget)
    (choose t.flag (Some Stopped) None))))

-- ---- the run
-- "It keeps the opening's arguments, the part asked for [..], design, steepness, solid work, the densities asked with its last record's round, and its own
-- records, empty at first."
pub record Run : Type 0 where
  pub given : Opening
  pub part : Part
  pub design : List Float
  pub steep : Steep
  pub solid_work : Float
  pub last : List Float
  pub rows : List Row

pub record Step : Type 0 where
  pub run : Run
  pub out : Out

-- "No part after any."
abbrev pub ended : Run → Run
ended r = record r { part = nothing }

-- "Else the start's design and steepness 1; it asks for the solid part."
abbrev pub plain_start : Opening → Run
plain_start o = record { given = o; part = solid; design = start_of o; steep = s1; solid_work = zero64; last = []; rows = [] }

-- the densities that a round is asked with
abbrev pub asked_of : Run → List Float
asked_of r = see (case_of r.given) r.steep r.design

-- it asks for round n, at steepness b
abbrev pub asking : Run → ℕ → Steep → Step
asking r n b =
    record {
      run = record r { part = round n; steep = b };
      out = asks (round n) (see (case_of r.given) b r.design);
    }

-- "Solid answer: work kept."
abbrev pub with_work : Run → Float → Run
with_work r w = record r { solid_work = w }

-- "Answer n: work and one update by the formulas above; record n with its reckonings; the updated design."
abbrev pub updated : Run → List Float → Run
updated r energies =
    record r {
      design = (update_at (case_of r.given) r.steep r.design (asked_of r) energies).design;
      last = asked_of r;
      rows = record { steep = r.steep; entry = record_at (case_of r.given) r.steep r.design (asked_of r) energies (suc (length r.rows)) } ∷ r.rows;
    }

abbrev pub newest_change : List Row → Bool
newest_change [] = false
newest_change (r ∷ rows) = small r.entry.change

-- the tests of the stops, after an update: LevelledOff "five rounds running"; "Budget applies if elapsed is then at least allowed"
abbrev pub stops_of : Run → Answer → Stops
stops_of r a =
    record {
      sharp = sharpest r.given.goal.sharpen r.steep;
      small = newest_change r.rows;
      levelled = leb 5 (steady_run r.given.goal.sharpen r.rows);
      limit = leb r.given.goal.max_iterations (length r.rows);
      budget = leb a.heard.allowed a.heard.elapsed;
      flag = a.heard.flag;
    }

-- "moving on after 20 rounds or a change below 0.01"; with 02's third choice "from each steepness below 16 after exactly 20 rounds, however small the change"
unfoldable pub due_steep : Sharpening → Steep → List Row → Steep
due_steep sharpen b rows = choose (sharpest sharpen b) b (choose (leb 20 (count_at b rows) || (early sharpen && newest_change rows)) (next b) b)

-- "Then the first stop that applies, the flag's Stopped last: no part. Else steepness moves on if due and it asks for round n+1."
abbrev pub onward : Run → Option Stop → Step
onward r (Some why) = record { run = ended r; out = stops why r.last }
onward r None = asking r (suc (length r.rows)) (due_steep r.given.goal.sharpen r.steep r.rows)

unfoldable pub checks_of : Run → Answer → Checks
checks_of r a =
    record {
      short = answer_short (elements r.given) (length (near_of r.given)) r.given.goal.max_iterations a.lent;
      said = a.heard.said;
      stands = ltb 0 (length r.rows);
      count = not (eqb (length a.energies) (elements r.given));
      bad = not_finite a.energies;
      idle = idle (compliance_of a.energies);
      flag = a.heard.flag;
    }

abbrev pub after : Run → Answer → Verdict → Step
after r a (Kept n) = record { run = r; out = refused (number_of n) }
after r a (Over n) = record { run = ended r; out = refused (number_of n) }
after r a Halts = record { run = ended r; out = stops Stopped r.last }
after r a Begins = asking (with_work r (compliance_of a.energies)) 1 r.steep
after r a Solves = onward (updated r a.energies) (first_stop (stops_of (updated r a.energies) a))

unfoldable pub answered : Run → Answer → Step
answered r a = after r a (judged r.part (checks_of r a))

-- ---- whole lists: "an opening on a state with no run open, then any answers"
abbrev pub left_of : Run → Shown
left_of r = shown (in_order r.rows) r.design

unfoldable pub plain_from : Run → List Answer → List Seen
plain_from r [] = []
plain_from r (a ∷ more) = record { out = (answered r a).out; left = left_of (answered r a).run } ∷ plain_from (answered r a).run more

-- what it keeps after them
unfoldable pub run_from : Run → List Answer → Run
run_from r [] = r
run_from r (a ∷ more) = run_from (answered r a).run more

-- "Opening: refused, no part." and "Answer with no part: 20."
unfoldable pub plain_shut : List Answer → List Seen
plain_shut [] = []
plain_shut (a ∷ more) = record { out = refused 20; left = unopened } ∷ plain_shut more

abbrev pub refused_open : ℕ → List Answer → List Seen
refused_open n more = record { out = refused n; left = unopened } ∷ plain_shut more

abbrev pub plain_open : Opening → List Answer → Entry → List Seen
plain_open o more (KeptOut n) = refused_open n more
plain_open o more (Zeroed n) = refused_open n more
plain_open o more Shut = refused_open 15 more
plain_open o more Opens = record { out = asks solid (ones (elements o)); left = left_of (plain_start o) } ∷ plain_from (plain_start o) more

unfoldable pub plain_run : Opening → List Answer → List Seen
plain_run o more = plain_open o more (entry_of o)
