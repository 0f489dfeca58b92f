-- The continued fraction before its first step, and the law that `tanh` is odd. Assumes nothing.
use mathlib.Core.Path.{◌≡◌, sym, ap, ◌∙◌}
use Prim.Native.Nat.{ℕ, ◌-◌, ◌*◌}
use lib.Ieee.{Float, binary64, add, mul, div, neg}
use Rattle.lists.specs.Lists.{fold_to}
use Rattle.lists.proofs.Laws.{fold_to-none}
use Rattle.ieee.specs.Basic.{whole64}
use Rattle.ieee_tanh.specs.Tanh.{lambert, tanh_of}
use Rattle.ieee.proofs.Sign.{mul-neg-neg, div-neg}

abbrev turn : Float → ℕ → Float → Float
turn zz i r = add binary64 (whole64 (61 - 2 * i)) (div binary64 zz r)

pub lambert-none : (z : Float) → whole64 63 ≡ lambert z 0
unfolding lambert
lambert-none z = sym (fold_to-none (turn (mul binary64 z z)) (whole64 63))

-- the fraction sees only the square
lambert-neg : (z : Float) (n : ℕ) → lambert (neg z) n ≡ lambert z n
unfolding lambert
lambert-neg z n = ap (λ (zz : Float). fold_to (turn zz) (whole64 63) n) (mul-neg-neg binary64 z z)

-- tanh(-z) is -tanh(z), for every z: zeros, infinities and a not-a-number too
pub tanh_odd : (z : Float) → tanh_of (neg z) ≡ neg (tanh_of z)
unfolding tanh_of
tanh_odd z = ap (div binary64 (neg z)) (lambert-neg z 31) ∙ div-neg binary64 z (lambert z 31)
