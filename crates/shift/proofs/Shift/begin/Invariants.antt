-- The places passed have their job's share and limit.
use Rattle.std.proofs.Common.{◌≡◌}
use Rattle.std.specs.Prelude.{replicate}
use Rattle.lists.specs.Lists.{overwrite}
use Rattle.shift.specs.Grants.{share_of, limit_of}
use Rattle.shift.proofs.Shift.begin.Given as goal

abbrev pub invariant-loop-j : goal.invariant-loop-j
invariant-loop-j l = (l.share ≡ overwrite (share_of l.jobs) l.j (replicate 16 0)) × (l.limit ≡ overwrite (limit_of l.jobs) l.j (replicate 16 0))
