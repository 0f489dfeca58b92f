-- 01, "What a refusal hands back": of several refusals the first in its order. Definitions only.
use Rattle.std.specs.Prelude.{ℕ, Bool, List, [], ◌∷◌}
use Rattle.lists.specs.Lists.{choose}

-- a test and the number that is due where it holds
abbrev pub Test : Type 0
Test = Bool × ℕ

-- the number of the first test that holds, 0 where none does
abbrev pub first_of : List Test → ℕ
first_of [] = 0
first_of (t ∷ tests) = choose t.0 t.1 (first_of tests)
