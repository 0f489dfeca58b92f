-- The definitions of `specs/Slopes.antt` by what each call on the way gave. Assumes nothing.
use mathlib.Core.Path.{◌≡◌, ◌∙◌}
use mathlib.Core.Bool.{Bool}
use mathlib.Core.List.{List}
use Prim.Native.Nat.{ℕ}
use lib.ListN.{length}
use lib.Ieee.{Float}
use Rattle.filter_table.specs.Table.{backed}
use Rattle.oc_slopes.specs.Slopes.{work_by_density, volume_by_density, work_slope, volume_slope}

module _ (starts near : List ℕ) (coef : List Float) where
  pub work-is : (passive : List Bool) (density slope energies w o : List Float) (n m : ℕ) → w ≡ work_by_density passive density slope energies → o ≡ backed starts near coef w n m
      → n ≡ length passive → m ≡ length passive → o ≡ work_slope starts near coef passive density slope energies
  unfolding work_slope
  work-is passive density slope energies w o n m e f g h = f ∙ (λ i. backed starts near coef (e i) (g i) (h i))

  pub volume-is : (slope free w o : List Float) (n m : ℕ) → w ≡ volume_by_density slope free → o ≡ backed starts near coef w n m
      → n ≡ length slope → m ≡ length slope → o ≡ volume_slope starts near coef slope free
  unfolding volume_slope
  volume-is slope free w o n m e f g h = f ∙ (λ i. backed starts near coef (e i) (g i) (h i))
