-- The count of an update is the number of rates that it tries. Assumes nothing.
use mathlib.Core.Path.{◌≡◌, refl, sym, ◌∙◌}
use mathlib.Core.Bool.{Bool, true, false}
use mathlib.Core.List.{[], ◌∷◌}
use Prim.Native.Nat.{ℕ, zero, suc, ◌+◌, ◌-◌}
use native.Mathlib.Omega.{arith}
use lib.ListN.{length, length-append, length-map}
use lib.Ieee.{Float, binary64, mul}
use Rattle.oc_record.specs.Record.{two64}
use Rattle.update_rates.specs.Rates.{Given, Search, trial, reckoned, first, raises, raised, middle, halves, halved, while_to, raised_all, updated}
use Rattle.update_rates.specs.Tried.{turns_to, tried, reckonings}

abbrev Counts : ℕ → ℕ → Search → Type 0
Counts before more s = s.passes ≡ before + more

turns : {B : Type 0} (p : Search → Bool) (f : Search → Search) (r : Search → B) → ((s : Search) → (f s).passes ≡ s.passes + 1) → (n : ℕ) (s : Search) → Counts s.passes (length (turns_to p f r n s)) (while_to p f n s)
unfolding while_to turns_to
turns p f r one zero s = omega arith
turns {B = B} p f r one (suc n) s = go (p s) (turns p f r one n (f s))
  where
    go : (b : Bool) → Counts (f s).passes (length (turns_to p f r n (f s))) (while_to p f n (f s))
        → Counts s.passes (length {A = B} (elim b [ true ↦ r s ∷ turns_to p f r n (f s) | false ↦ [] ])) (elim b [ true ↦ while_to p f n (f s) | false ↦ s ])
    go true h = omega (arith, h, one s)
    go false h = omega arith

-- "Count in the update's result equals the number of rates the definition tries"
pub passes-tried : (g : Given) → (updated g).passes ≡ length (tried g)
unfolding updated raised_all raised halved first tried
passes-tried g =
    let a = turns (raises g) (raised g) (λ s. mul binary64 two64 s.high) (λ s. refl) 199 (first g) in
    let b = turns (halves g) (halved g) (middle g) (λ s. refl) (200 - (raised_all g).passes) (raised_all g) in
    let c = length-append (turns_to (raises g) (raised g) (λ s. mul binary64 two64 s.high) 199 (first g)) (turns_to (halves g) (halved g) (middle g) (200 - (raised_all g).passes) (raised_all g)) in
    omega (arith, a, b, c)

pub passes-reckoned : (g : Given) → (updated g).passes ≡ length (reckonings g)
unfolding reckonings
passes-reckoned g = passes-tried g ∙ sym (length-map (tried g) (λ (rate : Float). reckoned g (trial g rate)))
