-- Numbers one after the other are a point's, or a plane's. Assumes nothing.
use Rattle.std.proofs.Common.{◌≡◌, ℕ, ◌+◌, ◌*◌, List, add-zero}
use Rattle.lists.specs.Lists.{tabulate}
use Rattle.strip.specs.Strip.{number_at, point_at, plane_at}

pub point : (bytes : List ℕ) (p : ℕ) → tabulate (λ i. number_at bytes (p + 3 * i)) 3 ≡ point_at bytes p
unfolding tabulate point_at
point bytes p = rw add-zero

pub plane : (bytes : List ℕ) (p : ℕ) → tabulate (λ i. number_at bytes (p + 3 * i)) 6 ≡ plane_at bytes p
unfolding tabulate plane_at
plane bytes p = rw add-zero
