-- The three choices of sharpening. Definitions only.
use Rattle.std.specs.Prelude.{ℕ, Bool, true, false, eqb}
use Rattle.lists.specs.Lists.{choose}
use Rattle.topo.specs.declared.Sharpening.{Sharpening}
use Rattle.topo.specs.declared.Sharpening.TheVariants.{Off, Early, Full}

-- whether the design is sharpened at all
abbrev pub sharpens : Sharpening → Bool
sharpens Off = false
sharpens Early = true
sharpens Full = true

-- whether a change below 0.01 moves the steepness on. 02: "A third sharpening choice [..] moves on from each steepness below 16 after exactly 20 rounds, however small the
-- change."
abbrev pub early : Sharpening → Bool
early Off = false
early Early = true
early Full = false

-- the choices by number: "strip flag value 2 [..] Values 0 and 1 run as before"
unfoldable pub sharpening_of : ℕ → Sharpening
sharpening_of n = choose (eqb n 0) Off (choose (eqb n 1) Early Full)

abbrev pub sharpening_number : Sharpening → ℕ
sharpening_number Off = 0
sharpening_number Early = 1
sharpening_number Full = 2
