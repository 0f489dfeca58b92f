-- An update by what each of its stages gave. Assumes nothing.
use mathlib.Core.Path.{◌≡◌, ap, ◌∙◌}
use mathlib.Core.List.{List}
use Prim.Native.Nat.{◌-◌}
use lib.Ieee.{Float}
use Rattle.lists.specs.Lists.{zero64}
use Rattle.update_rates.specs.declared.Stand.{Stand}
use Rattle.update_rates.specs.Rates.{Given, Search, trial, reckoned, first_rate, first, raises, raised, halves, halved, while_to, raised_all, updated}
use Rattle.update_rates.specs.Steps.{standing}

pub stages : (g : Given) (rate kept : Float) (y d d' : List Float) (up at : Stand)
    → rate ≡ first_rate g → y ≡ trial g rate → kept ≡ reckoned g y
    → standing up d ≡ while_to (raises g) (raised g) 199 (record { low = zero64; high = rate; design = y; kept = kept; passes = 1 })
    → standing at d' ≡ while_to (halves g) (halved g) (200 - up.passes) (standing up d)
    → standing at d' ≡ updated g
unfolding first raised_all updated
stages g rate kept y d d' up at a b c u h =
    let w : y ≡ trial g (first_rate g) = b ∙ ap (trial g) a in
    let f : ◌≡◌ {A = Search} (record { low = zero64; high = rate; design = y; kept = kept; passes = 1 }) (first g) = λ i. record { low = zero64; high = a i; design = w i; kept = (c ∙ ap (reckoned g) w) i; passes = 1 } in
    let v : standing up d ≡ raised_all g = u ∙ ap (while_to (raises g) (raised g) 199) f in
    h ∙ (λ i. while_to (halves g) (halved g) (200 - (v i).passes) (v i))
