-- What the last step of an opening promises. This is the code's own structure: what a caller must believe is said by `CoreOpened` of crate `run_open_checks` alone.
-- Definitions only.
use Rattle.std.specs.Prelude.{◌≡◌, Bool, true, false, List, ◌++◌, ℕ, length, drop, replicate, Float}
use Rattle.ieee.specs.Basic.{one64}
use Rattle.refusal.specs.declared.Refusal.TheVariants.{Stopped}
use Rattle.topo.specs.declared.Goal.{Goal}
use Rattle.filter.specs.Build.{Working}
use Rattle.filter_wipe.specs.Wiped.{Wiped}
use Rattle.oc_start.specs.Start.{solid_volume, start_design}
use Rattle.oc_goal.specs.Goal.{target_of, start_density}
use Rattle.run_plain.specs.declared.Reply.TheVariants.{Refused, Solid}
use Rattle.run_plain.specs.declared.Job.{Job}
use Rattle.run_plain.specs.declared.OpenFields.{OpenFields}
use Rattle.run_plain.specs.declared.State.{State}
use Rattle.run_plain.specs.Formulas.{sum_of}
use Rattle.run_plain.specs.Calls.{ended_of, opened_state}
use Rattle.run_plain.specs.declared.Returned.{Returned}

-- the lists that the step reads or may write
pub record Lists : Type 0 where
  pub volumes : List Float
  pub passive : List Bool
  pub design : List Float
  pub density : List Float
  pub last : List Float

abbrev pub lists : Job → OpenFields → Lists
lists j f = record { volumes = j.volumes.now; passive = j.passive.now; design = f.design.now; density = f.density.now; last = f.last.now }

-- the flag is set: the run does not begin
pub record ShutBy (s : State) (l : Lists) (w : Working) (r : Returned) (o : Lists) (w' : Working) : Type 0 where
  pub returned : ◌≡◌ {A = Returned} r (record { state = ended_of s; reply = Refused Stopped })
  pub lists : o ≡ l
  pub work : Wiped w w'

-- the start's design, and the densities of the solid part
abbrev pub begun : Goal → Lists → Lists
begun g l =
    record l {
      design = start_design l.passive (start_density (solid_volume l.volumes l.passive) (sum_of l.volumes) (target_of g.fraction (sum_of l.volumes))) ++ drop (length l.passive) l.design;
      density = replicate (length l.volumes) one64 ++ drop (length l.volumes) l.density;
    }

-- it is not: the run begins, with so many entries of the table, and the solid part is asked for
pub record BegunBy (g : Goal) (entries : ℕ) (l : Lists) (w : Working) (r : Returned) (o : Lists) (w' : Working) : Type 0 where
  pub returned : ◌≡◌ {A = Returned} r (record { state = opened_state g (length l.volumes) entries; reply = Solid })
  pub lists : o ≡ begun g l
  pub work : w' ≡ w

abbrev pub Lastly : Bool → State → Goal → ℕ → Lists → Working → Returned → Lists → Working → Type 0
Lastly true s g entries l w r o w' = ShutBy s l w r o w'
Lastly false s g entries l w r o w' = BegunBy g entries l w r o w'
