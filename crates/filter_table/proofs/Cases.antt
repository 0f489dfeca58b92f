-- The two products with small tables, by computation. Assumes nothing.
use mathlib.Core.Path.{◌≡◌, refl}
use mathlib.Core.Bool.{true, false}
use mathlib.Core.List.{List, [], ◌∷◌}
use Prim.Native.Nat.{ℕ}
use lib.Ieee.{Float, binary64, of_bits, add, mul, sum, round, units}
use Rattle.lists.specs.Lists.{tabulate, fold_to, fold_over, sum_over, zero64, any_to, choose}
use Rattle.filter_table.specs.Table.{row_end, product, row_sum, applied, add_to, row_share, backed, well_of}

abbrev half64 : Float
half64 = of_bits binary64 0x3fe0_0000_0000_0000

abbrev one64 : Float
one64 = of_bits binary64 0x3ff0_0000_0000_0000

abbrev two64 : Float
two64 = of_bits binary64 0x4000_0000_0000_0000

abbrev three64 : Float
three64 = of_bits binary64 0x4008_0000_0000_0000

-- the rows (0.5, 0.5) and (0, 1)
abbrev near : List ℕ
near = 0 ∷ 1 ∷ 1 ∷ []

abbrev coef : List Float
coef = half64 ∷ half64 ∷ one64 ∷ []

abbrev starts : List ℕ
starts = 0 ∷ 2 ∷ 3 ∷ []

pub two-rows : applied starts near coef (one64 ∷ three64 ∷ []) 2 ≡ two64 ∷ three64 ∷ []
unfolding applied row_sum row_end product tabulate fold_to fold_over sum_over choose of_bits add mul sum round units
two-rows = refl

pub two-rows-back : backed starts near coef (two64 ∷ two64 ∷ []) 2 2 ≡ one64 ∷ three64 ∷ []
unfolding backed row_share row_end add_to tabulate fold_to fold_over choose of_bits add mul sum round units
two-rows-back = refl

pub two-rows-well : well_of starts near coef 2 2 ≡ true
unfolding well_of any_to
two-rows-well = refl

-- a row that ends past the lists is empty, and a column past the end reads 0.0
pub past_the_end : applied (0 ∷ 2 ∷ 9 ∷ []) near coef (two64 ∷ []) 2 ≡ one64 ∷ zero64 ∷ []
unfolding applied row_sum row_end product tabulate fold_to fold_over sum_over choose of_bits add mul sum round units
past_the_end = refl

pub past_the-end_ill : well_of (0 ∷ 2 ∷ 9 ∷ []) near coef 2 1 ≡ false
unfolding well_of any_to
past_the-end_ill = refl
