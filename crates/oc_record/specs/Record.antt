-- 01: "A round record holds its number, work, share, change, steepness and grey": the sums and the fold of `optimize`, from the left. Definitions only.
use Rattle.std.specs.Prelude.{min, Bool, false, List, length, get_or, Float}
use Rattle.std.specs.Float.{nan, binary64}
use Rattle.std.specs.Float.Ieee.{sub, mul, div, of_bits}
use Rattle.lists.specs.Lists.{fold_to, sum_to, choose, zero64}
use Rattle.ieee.specs.Basic.{one64, abs_of, min_of, max_of}

-- 2.0 and 4.0
abbrev pub two64 : Float
two64 = of_bits binary64 0x4000_0000_0000_0000

abbrev pub four64 : Float
four64 = of_bits binary64 0x4010_0000_0000_0000

-- `dot`: as far as both lists go
unfoldable pub dot : List Float → List Float → Float
dot a b = sum_to (λ k. mul binary64 (get_or a k nan) (get_or b k nan)) (min (length a) (length b))

-- the work: `2.0 * u.iter().sum()`
unfoldable pub compliance_of : List Float → Float
compliance_of u = mul binary64 two64 (sum_to (λ k. get_or u k nan) (length u))

-- the share: `dot(&d.volumes, &seen.density) / total`
unfoldable pub fraction_of : List Float → List Float → Float → Float
fraction_of volumes density total = div binary64 (dot volumes density) total

-- the change: `(a - b).abs()` of next and x, `fold(0.0, f64::max)`
unfoldable pub change_of : List Float → List Float → Float
change_of next x = fold_to (λ k m. max_of m (abs_of (sub binary64 (get_or next k nan) (get_or x k nan)))) zero64 (min (length next) (length x))

-- grey: `4.0 * x * (1.0 - x) * v`, summed, `/ free_total`
unfoldable pub grey_of : List Float → List Float → Float → Float
grey_of density free total =
    div binary64 (sum_to (λ k. mul binary64 (mul binary64 (mul binary64 four64 (get_or density k nan)) (sub binary64 one64 (get_or density k nan))) (get_or free k nan)) (min (length density) (length free))) total

-- 02: "the least and greatest design value of the free elements after it". From 1 and from 0: in a run free values lie from 0.001 to 1, and some element is free
unfoldable pub least_of : List Float → List Bool → Float
least_of design passive = fold_to (λ k m. choose (get_or passive k false) m (min_of (get_or design k nan) m)) one64 (min (length design) (length passive))

unfoldable pub greatest_of : List Float → List Bool → Float
greatest_of design passive = fold_to (λ k m. choose (get_or passive k false) m (max_of (get_or design k nan) m)) zero64 (min (length design) (length passive))
