-- `filter::grid::limit_of` meets its contract: the root is monotone, and infinity's root is below nothing. Assumes nothing.
use Rattle.std.proofs.Common.{◌≡◌, true, false, refl}
use lib.Ieee.Fits.{mul-fits}
use lib.Ieee.{Float, nan, inf, fin, binary64, mul, le, lt, eq, of_bits}
use Rattle.ieee.proofs.Comparing.{holds}
use Rattle.ieee.proofs.Order.{le_not_lt}
use Rattle.ieee_root.proofs.Monotone.{sqrt-at-least}
use Rattle.ieee_root.specs.Sqrt.{sqrt_of}
use Rattle.lists.proofs.Bools.{never}
use Rattle.filter.proofs.grid.limit_of.Goals as goal

-- infinity is below nothing
below-none : (r : Float) → lt (inf false) r ≡ false
unfolding lt
below-none nan = refl
below-none (inf s) = refl
below-none (fin s m e) = refl

-- and nothing else is from it on
from-infinity : (r d : Float) → le (inf false) d ≡ true → lt (sqrt_of binary64 d) r ≡ false
unfolding le lt eq sqrt_of
from-infinity r nan h = never h refl
from-infinity r (inf true) h = never h refl
from-infinity r (inf false) h = below-none r
from-infinity r (fin s m e) h = never h refl

pub returns-then-sqrt-radius : goal.returns-then-sqrt-radius
returns-then-sqrt-radius c = λ d fit h. let r = c.args.radius in le_not_lt r (sqrt_of binary64 d) (sqrt-at-least binary64 r (mul binary64 r r) d (mul-fits binary64 r r) fit (holds h) (holds (rw c.sqrt.ensures at c.if-sqrt-radius.true)))

pub returns-else-sqrt-radius : goal.returns-else-sqrt-radius
unfolding of_bits
returns-else-sqrt-radius c = λ d fit h. from-infinity c.args.radius d h
