-- The energies of the elements passed are written.
use Rattle.std.proofs.Common.{◌≡◌}
use Rattle.lists.specs.Lists.{overwrite}
use Rattle.shape_solver.specs.Energies.{energy_at}
use Rattle.shape_solver.proofs.solve.Given as goal

abbrev pub invariant-loop-e : goal.invariant-loop-e
invariant-loop-e l = l.energies ≡ overwrite (energy_at l.weights l.density) l.e l.initial.energies
