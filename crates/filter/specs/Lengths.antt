-- Lengths of a build's working lists that are told. Definitions only.
use Rattle.std.specs.Prelude.{List, [], ◌∷◌, ℕ}
use Rattle.filter.specs.declared.work.WorkLengths.{WorkLengths}

abbrev pub lengths : WorkLengths → List ℕ
lengths k = k.cell ∷ k.order ∷ k.first ∷ k.sorted ∷ k.stamp ∷ k.weight ∷ k.found ∷ k.bits ∷ []
