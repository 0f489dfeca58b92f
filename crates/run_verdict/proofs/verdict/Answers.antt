-- `run_verdict::verdict` meets its contract: the part by the phase. Assumes nothing.
use Rattle.lists.specs.Lists.{choose}
use Rattle.run_plain.specs.Calls.{part_of}
use Rattle.run_verdict.proofs.verdict.Goals as goal
use Prim.Native.Nat.{suc}
use native.Mathlib.Omega.{arith}

pub returns-in-Solid : goal.returns-in-Solid
unfolding part_of choose
returns-in-Solid c = grind (arith, c.judged.ensures 0)

pub returns-in-Round : goal.returns-in-Round
unfolding part_of choose
returns-in-Round c = grind (arith, c.judged-in-Round.ensures (suc c.args.state.progress.rounds))
