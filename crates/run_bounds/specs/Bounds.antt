-- Demand 3: "After each update held elements are 1 and free ones lie from 0.001 to 1, within the round's move as 01 rounds it." Definitions only.
use Rattle.std.specs.Prelude.{◌≡◌, List, [], ◌∷◌, ◌++◌, Float}
use Rattle.topo.specs.declared.Iteration.{Iteration}
use Rattle.update_rates.specs.Bounds.{UpdatedBy}
use Rattle.run_plain.specs.Formulas.{Steep, sharpness, move_at}
use Rattle.run_plain.specs.Opening.{Opening, case_of, start_of}
use Rattle.run_plain.specs.Plain.{Out, Seen, shown}

-- what a run shows that has the records l and the design x: each call leaves both, or it adds one record and updates the design, within the move of
-- the record's steepness
pub data Within (o : Opening) : List Iteration → List Float → List Seen → Type 0 where
  none : {l : List Iteration} {x : List Float} → Within o l x []
  kept : {l : List Iteration} {x : List Float} {out : Out} {more : List Seen} → Within o l x more → Within o l x (record { out = out; left = shown l x } ∷ more)
  moved : {l : List Iteration} {x y : List Float} {out : Out} {more : List Seen} (e : Iteration) (b : Steep) → e.sharpness ≡ sharpness b → UpdatedBy o.passive (move_at (case_of o) b) x y
      → Within o (l ++ (e ∷ [])) y more → Within o l x (record { out = out; left = shown (l ++ (e ∷ [])) y } ∷ more)

-- an opened run, from the start's design on
pub data WithinRun (o : Opening) : List Seen → Type 0 where
  opened : {out : Out} {more : List Seen} → Within o [] (start_of o) more → WithinRun o (record { out = out; left = shown [] (start_of o) } ∷ more)
