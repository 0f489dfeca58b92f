-- How a turn over the jobs goes, and what comes of all turns over marks. Assumes nothing.
use mathlib.Core.Path.{◌≡◌, ap, ◌∙◌}
use mathlib.Core.Bool.{Bool, false}
use mathlib.Core.List.{List}
use Prim.Native.Nat.{ℕ}
use lib.ListN.{get_or}
use Rattle.lists.specs.Lists.{fold_to, tabulate}
use Rattle.lists.proofs.Laws.{fold_to-same, get_or-tabulate}
use Rattle.shift.specs.declared.Shift.{Shift}
use Rattle.shift.specs.Grants.{is_named, turn, chosen_of}

pub chosen_is : (s : Shift) (named : List ℕ) (marks : List Bool) → marks ≡ tabulate (is_named named) 16 → fold_to (turn s (λ j. get_or marks j false)) 16 16 ≡ chosen_of s named
unfolding turn chosen_of
chosen_is s named marks e =
    fold_to-same (turn s (λ j. get_or marks j false)) (turn s (is_named named)) 16 16
    (λ k h best. ap (λ (t : Bool). turn s (λ _. t) k best) (ap (λ (l : List Bool). get_or l k false) e ∙ get_or-tabulate (is_named named) 16 k false h))
