-- An update reckons one volume at least and 200 at most: each turn counts one and uses up one of those left. Assumes nothing.
use mathlib.Core.Path.{◌≡◌, refl}
use mathlib.Core.Bool.{Bool, true, false}
use Prim.Native.Nat.{ℕ, zero, suc, ◌+◌, ◌-◌, ◌≤◌}
use native.Mathlib.Omega.{arith}
use Rattle.update_rates.specs.Rates.{Given, Search, first, raises, raised, halves, halved, while_to, raised_all, updated}
use Rattle.update_rates.specs.Tried.{Between}

-- f counts one, so n turns count n at most
counted : (p : Search → Bool) (f : Search → Search) → ((s : Search) → (f s).passes ≡ s.passes + 1) → (n : ℕ) (s : Search) → Between s.passes (s.passes + n) (while_to p f n s)
unfolding while_to
counted p f one zero s = record { from = omega arith; to = omega arith }
counted p f one (suc n) s = go (p s) (one s) (counted p f one n (f s))
  where
    go : (b : Bool) → (f s).passes ≡ s.passes + 1 → Between (f s).passes ((f s).passes + n) (while_to p f n (f s))
        → Between s.passes (s.passes + suc n) (elim b [ true ↦ while_to p f n (f s) | false ↦ s ])
    go true e h = record { from = omega (arith, h.from); to = omega (arith, h.to) }
    go false e h = record { from = omega arith; to = omega arith }

pub passes-at-most : (g : Given) → Between 1 200 (updated g)
unfolding updated raised_all raised halved first
passes-at-most g =
    let r = counted (raises g) (raised g) (λ s. refl) 199 (first g) in
    let h = counted (halves g) (halved g) (λ s. refl) (200 - (raised_all g).passes) (raised_all g) in
    go (raised_all g).passes (updated g) r.from r.to h
  where
    go : (k : ℕ) (s : Search) → 1 ≤ k → k ≤ 200 → Between k (k + (200 - k)) s → Between 1 200 s
    go k s a b h = record { from = omega (arith, h.from); to = omega (arith, h.to) }
