use Rattle.std.proofs.Common.{◌≡◌, [], get_or}
use Rattle.lists.specs.Lists.{overwrite}
use Rattle.strip_floats.specs.Floats.{floats_of}
use Rattle.strip_floats.proofs.rows.Given as goal

abbrev pub invariant-loop-i : goal.invariant-loop-i
invariant-loop-i g l = l.to ≡ overwrite (λ k. floats_of g.row.N (get_or l.from k [])) l.i l.initial.to
