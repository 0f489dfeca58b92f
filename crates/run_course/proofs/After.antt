-- The steepness of a stage is the last just where the stage is, and a round that goes on has one left. By cases. Assumes nothing.
use Rattle.std.specs.Prelude.{Option, None}
use Rattle.topo.specs.declared.Stop.{Stop}
use mathlib.Core.Path.{◌≡◌, refl, sym, ap, ◌∙◌}
use mathlib.Core.Bool.{Bool, not, ◌||◌}
use Prim.Native.Nat.{ℕ, zero, suc, ◌<◌}
use native.Mathlib.Omega.{arith}
use lib.Dec.{leb}
use borrow.Author.Tests.{le-leb, leb-false}
use Rattle.topo.specs.declared.Iteration.{Iteration}
use Rattle.topo.specs.declared.Sharpening.{Sharpening}
use Rattle.topo.specs.Stages.{sharpens}
use Rattle.run_plain.specs.declared.State.{State}
use Rattle.run_plain.specs.declared.Heard.{Heard}
use Rattle.run_plain.specs.Formulas.{s16}
use Rattle.run_plain.specs.Plain.{first_stop, same, sharpest}
use Rattle.run_plain.specs.Calls.{steep_at, stops_at}
use Rattle.run_plain.proofs.Counts.{goes_on}

pub sharpest_is : (sharpen : Sharpening) (stage : ℕ) → sharpest sharpen (steep_at stage) ≡ (not (sharpens sharpen) || leb 4 stage)
unfolding sharpest same
sharpest_is sharpen stage = at stage
  where
    at : (n : ℕ) → (not (sharpens sharpen) || same (steep_at n) s16) ≡ (not (sharpens sharpen) || leb 4 n)
    at zero = refl
    at (suc zero) = refl
    at (suc (suc zero)) = refl
    at (suc (suc (suc zero))) = refl
    at (suc (suc (suc (suc n)))) = ap (λ (x : Bool). not (sharpens sharpen) || x) (sym (le-leb 4 (suc (suc (suc (suc n)))) (omega arith)))

-- a round that goes on has one left
pub goes-fit : (s : State) (a : Heard) (e : Iteration) (t : Option Stop) → t ≡ first_stop (stops_at s a e) → t ≡ None → suc s.progress.rounds < s.setting.max_iterations
unfolding stops_at
goes-fit s a e t g h = leb-false _ _ (goes_on (stops_at s a e) (sym g ∙ h)).limit
