-- The volume that a design keeps. 01: "`FnMut` volume a choice of two rules". Definitions only.
use Rattle.std.specs.Prelude.{ℕ, Bool, Some, List, Float}
use Rattle.std.specs.Float.{binary64}
use Rattle.std.specs.Float.Ieee.{add}
use Rattle.oc_kept.specs.declared.Rule.{Rule}
use Rattle.oc_kept.specs.declared.Rule.TheVariants.{Straight, Sharpened}
use Rattle.oc_record.specs.Record.{dot}
use Rattle.oc_seen.specs.Seen.{seen_density}

-- without sharpening `solid + dot(&straight, y)`, which clamps nothing; else `kept`, the volume of the densities that a solve would see
unfoldable pub kept_of : Rule → List Float → List ℕ → List ℕ → List Float → List Float → List Bool → List Float → Float
kept_of (Straight solid) straight starts near coef volumes passive y = add binary64 solid (dot straight y)
kept_of (Sharpened beta) straight starts near coef volumes passive y = dot volumes (seen_density (Some beta) starts near coef passive y)
