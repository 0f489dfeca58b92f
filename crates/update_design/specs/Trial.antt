-- The design at a rate of what an update is given. Definitions only.
use Rattle.std.specs.Prelude.{List, Float}
use Rattle.update_design.specs.Design.{design_at}
use Rattle.update_design.specs.declared.problem.Problem.{Problem}

abbrev pub trial_of : Problem → Float → List Float
trial_of p rate = design_at p.x.now p.gain.now p.passive.now p.m rate
