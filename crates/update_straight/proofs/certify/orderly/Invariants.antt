-- Whether any place passed is unusual; and each number read fits.
use Rattle.lists.specs.Lists.{any_to}
use Rattle.std.proofs.Common.{◌≡◌, ℕ, ◌<◌, not, T, get_or}
use Rattle.update_straight.proofs.certify.orderly.Given as goal
use Rattle.update_straight.specs.Steps.{usual}
use lib.Ieee.{nan, binary64, fits}

abbrev pub invariant-loop-i : goal.invariant-loop-i
invariant-loop-i l = record {
  test : l.t ≡ any_to (λ k. not (usual (get_or l.x k nan) (get_or l.gain k nan) (get_or l.dv k nan))) l.i;
  fit : (k : ℕ) → k < l.i → T (fits binary64 (get_or l.x k nan));
}
