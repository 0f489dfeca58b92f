-- The definitions of `specs/Seen.antt` by what each call on the way gave. Assumes nothing.
use mathlib.Core.Path.{◌≡◌, ap, ◌∙◌}
use mathlib.Core.Bool.{Bool}
use mathlib.Core.List.{List}
use Prim.Native.Nat.{ℕ}
use lib.ListN.{length}
use lib.Ieee.{Float}
use Rattle.std.specs.Prelude.{Option}
use Rattle.filter_table.specs.Table.{applied}
use Rattle.oc_seen.specs.Seen.{densities, slopes, seen_density, seen_slope}

module _ (starts near : List ℕ) (coef : List Float) (s : Option Float) (passive : List Bool) (x a o : List Float) (n : ℕ) (filtered : a ≡ applied starts near coef x n) (all : n ≡ length passive) where
  -- what is filtered and then sharpened is what a solve sees
  pub density-is : o ≡ densities s passive a → o ≡ seen_density s starts near coef passive x
  unfolding seen_density
  density-is h = h ∙ ap (densities s passive) (filtered ∙ ap (applied starts near coef x) all)

  pub slope-is : o ≡ slopes s passive a → o ≡ seen_slope s starts near coef passive x
  unfolding seen_slope
  slope-is h = h ∙ ap (slopes s passive) (filtered ∙ ap (applied starts near coef x) all)
