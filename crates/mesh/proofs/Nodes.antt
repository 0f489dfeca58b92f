-- A node that is not there is the default. Assumes nothing.
use Rattle.std.proofs.Common.{◌≡◌, ℕ, ◌≤◌, List, length, get_or}
use lib.ListN.{get_or-eq_default}

pub past : {A : Type 0} (l : List A) (k : ℕ) (d : A) → length l ≤ k → get_or l k d ≡ d
past l k d h = get_or-eq_default l d h
