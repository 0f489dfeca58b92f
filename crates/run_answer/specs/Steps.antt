-- What the steps of an answer promise each other. This is the code's own structure: what a caller must believe is said by `CoreAnswered` alone. Definitions
-- only.
use Rattle.std.specs.Prelude.{◌≡◌, List, suc, ◌≤◌, length, take, Float, None}
use Rattle.std.specs.Borrow.{MutBor}
use Rattle.lent.specs.Lent.{Free}
use Rattle.lists.specs.Lists.{overlay}
use Rattle.topo.specs.declared.Iteration.{Iteration}
use Rattle.topo.specs.Stages.{sharpens}
use Rattle.oc_record.specs.Record.{compliance_of}
use Rattle.run_plain.specs.declared.State.{State}
use Rattle.run_plain.specs.declared.Elements.{Elements}
use Rattle.run_plain.specs.declared.Reply.TheVariants.{Round}
use Rattle.run_plain.specs.declared.Verdict.TheVariants.{Solves}
use Rattle.run_plain.specs.Formulas.{Case, see, update_at, record_at}
use Rattle.run_plain.specs.Calls.{Core, Arguments, lists_of, steep_at, first_state, answer_by}
use Rattle.run_plain.specs.Held.{Working}
use Rattle.run_answer.specs.declared.Step.{Step}
use Rattle.run_answer.specs.Answers.{Scratch, recorded}

-- what is left in lists that were handed on
abbrev pub core_left : Elements → MutBor (List Float) × (MutBor (List Float) × (MutBor (List Float) × Unit {0})) → Core
core_left e f =
    record {
      volumes = e.volumes.now;
      passive = e.passive.now;
      starts = e.table.starts.now;
      near = e.table.near.now;
      coef = e.table.coef.now;
      design = f.0.now;
      density = f.1.0.now;
      last = f.1.1.0.now;
    }

abbrev pub working_left : MutBor (List Float) × (MutBor (List Float) × (MutBor (List Float) × (MutBor (List Float) × (MutBor (List Float) × Unit {0})))) → Working
working_left w = record { free = w.0.now; slope = w.1.0.now; spare = w.1.1.0.now; dc = w.1.1.1.0.now; dv = w.1.1.1.1.0.now }

-- lists that are long enough for a question, and for a round
pub record Asks (s : State) (l : Core) (sp : List Float) : Type 0 where
  pub volumes : s.setting.elements ≤ length l.volumes
  pub passive : s.setting.elements ≤ length l.passive
  pub starts : suc s.setting.elements ≤ length l.starts
  pub near : s.setting.entries ≤ length l.near
  pub coef : s.setting.entries ≤ length l.coef
  pub design : s.setting.elements ≤ length l.design
  pub density : s.setting.elements ≤ length l.density
  pub spare : s.setting.elements ≤ length sp

pub record Enough (s : State) (u : List Float) (l : Core) (w : Working) : Type 0 where
  pub energies : length u ≡ s.setting.elements
  pub asks : Asks s l w.slope
  pub last : s.setting.elements ≤ length l.last
  pub free : s.setting.elements ≤ length w.free
  pub spare : s.setting.elements ≤ length w.spare
  pub dc : s.setting.elements ≤ length w.dc
  pub dv : s.setting.elements ≤ length w.dv

-- what the formulas read: the needed places
abbrev pub case_in : State → Core → Case
case_in s l =
    record {
      volumes = take s.setting.elements l.volumes;
      passive = take s.setting.elements l.passive;
      starts = take (suc s.setting.elements) l.starts;
      near = take s.setting.entries l.near;
      coef = take s.setting.entries l.coef;
      fraction = s.setting.fraction;
      sharpen = sharpens s.setting.sharpen;
    }

-- the lists with what an answer writes
abbrev pub written : Core → List Float → List Float → List Float → Core
written l design density last = record l { design = design; density = density; last = last }

-- the densities of a question are laid over
abbrev pub asked : State → Core → Core
asked s l = written l l.design (overlay (see (case_in s l) (steep_at s.progress.stage) (take s.setting.elements l.design)) l.density) l.last

pub record Asked (s : State) (l : Core) (sp : List Float) (o : Core) (sp' : List Float) : Type 0 where
  pub lists : o ≡ asked s l
  pub spare : Free s.setting.elements sp sp'

abbrev pub entry_in : State → List Float → Core → Iteration
entry_in s energies l =
    record_at (case_in s l) (steep_at s.progress.stage) (take s.setting.elements l.design) (take s.setting.elements l.density) energies (suc s.progress.rounds)

abbrev pub design_in : State → List Float → Core → List Float
design_in s energies l = (update_at (case_in s l) (steep_at s.progress.stage) (take s.setting.elements l.design) (take s.setting.elements l.density) energies).design

-- a round on the needed places: its record, the design and the densities laid over, and the working lists
pub record Solved (s : State) (energies : List Float) (l : Core) (w : Working) (r : Iteration) (o : Core) (w' : Working) : Type 0 where
  pub entry : r ≡ entry_in s energies l
  pub lists : o ≡ written l (overlay (design_in s energies l) l.design) l.density (overlay (take s.setting.elements l.density) l.last)
  pub work : Scratch s.setting.elements w w'

-- the solid part is solved: round 1 is asked for, and no record is made
pub record Begun (s : State) (energies : List Float) (l : Core) (w : Working) (r : Step) (o : Core) (w' : Working) : Type 0 where
  pub state : r.returned.state ≡ first_state s (compliance_of energies)
  pub reply : r.returned.reply ≡ Round 1
  pub entry : r.entry ≡ None
  pub lists : o ≡ asked s l
  pub work : Scratch s.setting.elements w w'

-- a round is solved and recorded: a stop, or the next round
pub record Followed (s : State) (a : Arguments) (l : Core) (w : Working) (r : Step) (o : Core) (w' : Working) : Type 0 where
  pub same : (h : List Iteration) → recorded s r o h ≡ answer_by s a (lists_of l h) Solves
  pub work : Scratch s.setting.elements w w'
