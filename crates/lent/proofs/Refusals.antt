-- Where none of several refusals is given, none of the tests holds; and the other way round. By recursion on the tests. Assumes nothing.
use mathlib.Core.Path.{◌≡◌, refl}
use mathlib.Core.Bool.{Bool, true, false, ◌&&◌}
use mathlib.Core.List.{List, [], ◌∷◌, ◌++◌}
use lib.Dec.{ltb}
use borrow.Author.Tests.{ltb-true}
use Rattle.lists.specs.Lists.{choose}
use Rattle.lists.proofs.Laws.{passes_on, both}
use Rattle.lent.specs.Refusals.{Test, first_of}

-- their numbers are above 0
abbrev pub numbered : List Test → Bool
numbered [] = true
numbered (t ∷ tests) = ltb 0 t.1 && numbered tests

-- none of them holds
abbrev pub Passed : List Test → Type 0
Passed [] = Unit {0}
Passed (t ∷ tests) = (t.0 ≡ false) × Passed tests

pub passes : (tests : List Test) → numbered tests ≡ true → first_of tests ≡ 0 → Passed tests
passes [] n e = tt
passes (t ∷ tests) n e =
    let b = both (ltb 0 t.1) (numbered tests) n in
    let p = passes_on t.0 t.1 (first_of tests) (ltb-true 0 t.1 b.0) e in
    (p.0, passes tests b.1 p.1)

pub none_due : (tests : List Test) → Passed tests → first_of tests ≡ 0
unfolding choose
none_due [] p = refl
none_due (t ∷ tests) p = rw p.0 (none_due tests p.1)

-- of two parts of the tests
pub front-passes : (a b : List Test) → Passed (a ++ b) → Passed a
front-passes [] b p = tt
front-passes (t ∷ a) b p = (p.0, front-passes a b p.1)

pub back_passes : (a b : List Test) → Passed (a ++ b) → Passed b
back_passes [] b p = p
back_passes (t ∷ a) b p = back_passes a b p.1

pub both_pass : (a b : List Test) → Passed a → Passed b → Passed (a ++ b)
both_pass [] b p q = q
both_pass (t ∷ a) b p q = (p.0, both_pass a b p.1 q)
