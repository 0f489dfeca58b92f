-- A state whose numbers can go on: what 20's test of a state that asks for a round comes to. Definitions only.
use Rattle.std.specs.Prelude.{◌≤◌, ◌<◌}
use Rattle.run_plain.specs.declared.State.{State}

pub record Fit (s : State) : Type 0 where
  pub stage : s.progress.stage ≤ 4
  pub turns : s.progress.at_stage < 20
  pub steady : s.progress.steady < 5
  pub elements : s.setting.elements ≤ 65535
  pub rounds : s.progress.rounds < s.setting.max_iterations
