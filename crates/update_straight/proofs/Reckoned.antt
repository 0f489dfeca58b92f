-- The volume that a rate keeps without sharpening, with no design written. Assumes nothing.
use mathlib.Core.Path.{◌≡◌, sym, ap, ◌∙◌}
use mathlib.Core.Bool.{Bool, false}
use mathlib.Core.List.{List}
use Prim.Native.Nat.{ℕ, min}
use native.Mathlib.Omega.{arith}
use lib.ListN.{length, get_or}
use lib.Ieee.{Float, nan, binary64, mul}
use Rattle.lists.specs.Lists.{sum_to}
use Rattle.lists.proofs.Laws.{get_or-tabulate, length-tabulate, sum_to-same}
use Rattle.oc_record.specs.Record.{dot}
use Rattle.update_value.specs.Value.{next_of}
use Rattle.update_design.specs.Design.{design_at}

pub dot-is : (x gain dv : List Float) (passive : List Bool) (m rate : Float) → length dv ≡ length x
    → sum_to (λ k. mul binary64 (get_or dv k nan) (next_of (get_or passive k false) (get_or x k nan) (get_or gain k nan) m rate)) (length x) ≡ dot dv (design_at x gain passive m rate)
unfolding dot design_at
dot-is x gain dv passive m rate e =
    sum_to-same _ _ (length x) (λ k h. ap (mul binary64 (get_or dv k nan)) (sym (get_or-tabulate _ (length x) k nan h)))
    ∙ ap (sum_to _) (sym (shorter (length dv) (length x) _ e (length-tabulate _ (length x))))
  where
    shorter : (a n b : ℕ) → a ≡ n → b ≡ n → min a b ≡ n
    shorter a n b e f = omega arith
