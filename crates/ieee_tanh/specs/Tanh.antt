-- 01: "tanh(z) is Lambert's continued fraction worked from the inside: r = 63, then for k = 61, 59, .. 1: r = k + (z·z)/r,
-- each operation rounded once, and the answer is z/r." Definitions only.
use Rattle.std.specs.Prelude.{ℕ, ◌-◌, ◌*◌, Float}
use Rattle.std.specs.Float.{binary64}
use Rattle.std.specs.Float.Ieee.{add, mul, div}
use Rattle.lists.specs.Lists.{fold_to}
use Rattle.ieee.specs.Basic.{whole64}

-- r after the first n values of k, of which the one at i is 61 - 2·i
unfoldable pub lambert : Float → ℕ → Float
unfolding fold_to
lambert z n = fold_to (λ i r. add binary64 (whole64 (61 - 2 * i)) (div binary64 (mul binary64 z z) r)) (whole64 63) n

unfoldable pub tanh_of : Float → Float
unfolding lambert
tanh_of z = div binary64 z (lambert z 31)
