-- The numbers that stand for the cases of an update's ending: 01, "For an answer that is an enum, a definition gives this paper's number and values for
-- each case." Definitions only.
use Rattle.std.specs.Prelude.{ℕ, Float}
use Rattle.lists.specs.Lists.{zero64}
use Rattle.update.specs.declared.Updated.{Updated}
use Rattle.topo.specs.declared.Ending.{Ending}
use Rattle.topo.specs.declared.Ending.TheVariants.{Met, Cramped, Spent}
use Rattle.c_update.specs.declared.Update.{Update}

-- how an update ended
abbrev pub ending_number : Ending → ℕ
ending_number (Met kept) = 0
ending_number (Cramped low high) = 1
ending_number (Spent kept) = 2

-- "met with the kept volume, cramped with both rates of its bracket, or spent with the kept volume"
abbrev pub ending_first : Ending → Float
ending_first (Met kept) = kept
ending_first (Cramped low high) = low
ending_first (Spent kept) = kept

abbrev pub ending_second : Ending → Float
ending_second (Met kept) = zero64
ending_second (Cramped low high) = high
ending_second (Spent kept) = zero64

-- an update's answer as numbers
unfoldable pub told_of : Updated → Update
told_of u =
    record { refused = 0; ending = ending_number u.ending; first = ending_first u.ending; second = ending_second u.ending; passes = u.passes }

-- and where it is refused
unfoldable pub refused_with : ℕ → Update
refused_with number = record { refused = number; ending = 0; first = zero64; second = zero64; passes = 0 }
