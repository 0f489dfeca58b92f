-- A list overwritten by the planes made of unit length is the list of these. Assumes nothing.
use Rattle.std.proofs.Common.{◌≡◌, ◌∙◌, sym, ℕ, List, [], ◌∷◌, length, get_or, refl, ap, arith}
use Rattle.std.specs.Float.{Float}
use Rattle.lists.specs.Lists.{overwrite}
use Rattle.geom.specs.Points.{plane}
use Rattle.geom.specs.declared.Mirror.{Mirror}
use Rattle.filter_group.specs.Group.{unit, mirrors}

throughout : (planes : List (List Float)) (l : List Mirror) → length planes ≡ length l → overwrite (λ k. unit (plane (get_or planes k []))) (length planes) l ≡ mirrors planes
unfolding overwrite
throughout [] [] e = refl
throughout [] (m ∷ l) e = absurd (omega arith)
throughout (p ∷ planes) [] e = absurd (omega arith)
throughout (p ∷ planes) (m ∷ l) e = ap (λ (ms : List Mirror). unit (plane p) ∷ ms) (throughout planes l (omega arith))

pub overwritten : (planes : List (List Float)) (l o : List Mirror) (i : ℕ) → o ≡ overwrite (λ k. unit (plane (get_or planes k []))) i l → i ≡ length l → length planes ≡ length l → o ≡ mirrors planes
overwritten planes l o i h e g = h ∙ rw (e, sym g) (throughout planes l g)
