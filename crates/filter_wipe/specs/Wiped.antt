-- "Zeroed": "the working lists are zero throughout". Definitions only.
use Rattle.std.specs.Prelude.{◌≡◌, [], ◌∷◌}
use Rattle.lists.specs.Lists.{zero64}
use Rattle.lent.specs.Lent.{zeros}
use Rattle.filter.specs.Build.{Working}

-- the working lists, and what stands in them then: to their ends, not the needed places alone
pub record Wiped (w w' : Working) : Type 0 where
  pub cells : w'.cell ≡ zeros (0 ∷ 0 ∷ 0 ∷ []) w.cell
  pub orders : w'.order ≡ zeros 0 w.order
  pub firsts : w'.first ≡ zeros 0 w.first
  pub sorteds : w'.sorted ≡ zeros (zero64 ∷ zero64 ∷ zero64 ∷ []) w.sorted
  pub stamps : w'.stamp ≡ zeros 0 w.stamp
  pub weights : w'.weight ≡ zeros zero64 w.weight
  pub founds : w'.found ≡ zeros 0 w.found
  pub maps : w'.bits ≡ zeros 0 w.bits
