-- 01's proved case: "not-a-number slope at 0.5, move 0.2 gives 0.3". The gain is not above 0, so the value falls to its lower bound. Assumes nothing.
use mathlib.Core.Path.{◌≡◌, refl}
use mathlib.Core.Bool.{false}
use lib.Ieee.{Float, nan, binary64, add, sub, div, neg, lt, is_nan, of_bits}
use Rattle.lists.specs.Lists.{choose}
use Rattle.ieee.specs.Basic.{one64, max_of, min_of}
use Rattle.update_rates.specs.Rates.{half}
use Rattle.update_value.specs.Value.{gain_of, grown, limited, next_of}

-- 0.2 and 0.3
abbrev move : Float
move = of_bits binary64 0x3fc9_9999_9999_999a

abbrev three_tenths : Float
three_tenths = of_bits binary64 0x3fd3_3333_3333_3333

-- whatever the rate, and whether the slope of the work or the gain itself is no number
pub nan-slope : (rate : Float) → next_of false half (gain_of nan one64) move rate ≡ three_tenths
unfolding gain_of grown limited next_of choose max_of min_of add sub div neg lt is_nan of_bits
nan-slope rate = refl

pub nan-gain : (rate : Float) → next_of false half nan move rate ≡ three_tenths
unfolding grown limited next_of choose max_of min_of add sub lt is_nan of_bits
nan-gain rate = refl
