-- How the work and the volume go with each design value: `work_slope`, `volume_slope` and `straight` of oc.rs. Definitions only.
use Rattle.std.specs.Prelude.{ℕ, Bool, false, List, length, get_or, Float}
use Rattle.std.specs.Float.{nan, binary64}
use Rattle.std.specs.Float.Ieee.{sub, mul, div, neg, of_bits}
use Rattle.lists.specs.Lists.{tabulate, choose, zero64}
use Rattle.ieee.specs.Basic.{one64}
use Rattle.topo.specs.Levels.{FLOOR, level_of, modulus_of}
use Rattle.filter_table.specs.Table.{backed}
use Rattle.oc_record.specs.Record.{two64}

-- PENALTY, 3.0
abbrev pub penalty : Float
penalty = of_bits binary64 0x4008_0000_0000_0000

-- `-PENALTY * x.powf(PENALTY - 1.0) * (1.0 - FLOOR) * 2.0 * u / modulus(q, 1.0) * s`, where "x² is one product" and q is the level of x
unfoldable pub element_work : Float → Float → Float → Float
element_work x s u =
    mul binary64
    (div binary64
    (mul binary64 (mul binary64 (mul binary64 (mul binary64 (neg penalty) (mul binary64 x x)) (sub binary64 one64 FLOOR)) two64) u)
    (modulus_of (level_of x) one64))
    s

-- `by_density` of `work_slope`, 0.0 where held
unfoldable pub work_by_density : List Bool → List Float → List Float → List Float → List Float
work_by_density passive density slope energies =
    tabulate (λ e. choose (get_or passive e false) zero64 (element_work (get_or density e nan) (get_or slope e nan) (get_or energies e nan))) (length passive)

-- `by_density` of `volume_slope`
unfoldable pub volume_by_density : List Float → List Float → List Float
volume_by_density slope free = tabulate (λ e. mul binary64 (get_or slope e nan) (get_or free e nan)) (length slope)

-- each carried back through the filter
unfoldable pub work_slope : List ℕ → List ℕ → List Float → List Bool → List Float → List Float → List Float → List Float
work_slope starts near coef passive density slope energies =
    backed starts near coef (work_by_density passive density slope energies) (length passive) (length passive)

unfoldable pub volume_slope : List ℕ → List ℕ → List Float → List Float → List Float → List Float
volume_slope starts near coef slope free = backed starts near coef (volume_by_density slope free) (length slope) (length slope)

-- without sharpening: `filter.back(&free)`
unfoldable pub straight_slope : List ℕ → List ℕ → List Float → List Float → List Float
straight_slope starts near coef free = backed starts near coef free (length free) (length free)
