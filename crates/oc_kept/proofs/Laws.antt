-- The definition of `specs/Kept.antt` by what each call on the way gave. Assumes nothing.
use mathlib.Core.Path.{◌≡◌, ap, ◌∙◌}
use mathlib.Core.Bool.{Bool}
use mathlib.Core.List.{List}
use Prim.Native.Nat.{ℕ}
use lib.Ieee.{Float, binary64, add}
use Rattle.oc_record.specs.Record.{dot}
use Rattle.std.specs.Prelude.{Some}
use Rattle.oc_seen.specs.Seen.{seen_density}
use Rattle.oc_kept.specs.declared.Rule.{Rule}
use Rattle.oc_kept.specs.declared.Rule.TheVariants.{Straight, Sharpened}
use Rattle.oc_kept.specs.Kept.{kept_of}

module _ (starts near : List ℕ) (coef : List Float) (rule : Rule) (straight volumes : List Float) (passive : List Bool) (y : List Float) where
  pub kept-straight : (solid d r : Float) → rule ≡ Straight solid → d ≡ dot straight y → r ≡ add binary64 solid d → r ≡ kept_of rule straight starts near coef volumes passive y
  unfolding kept_of
  kept-straight solid d r e f g = rw e (g ∙ ap (add binary64 solid) f)

  pub kept-sharpened : (beta : Float) (o : List Float) (r : Float) → rule ≡ Sharpened beta → o ≡ seen_density (Some beta) starts near coef passive y → r ≡ dot volumes o
      → r ≡ kept_of rule straight starts near coef volumes passive y
  unfolding kept_of
  kept-sharpened beta o r e f g = rw e (g ∙ ap (dot volumes) f)
