-- A loop that copies a list place by place. Assumes nothing.
use mathlib.Core.Path.{◌≡◌, sym, ap, ◌∙◌}
use mathlib.Core.List.{List, ◌++◌}
use Prim.Native.Nat.{ℕ, suc, ◌+◌, ◌<◌}
use native.Mathlib.Numerals.{add-one}
use native.Mathlib.Omega.{arith}
use lib.ListN.{length, get_or, set, take, drop}
use lib.Seq.{drop-cons, take-suc, append_snoc, length-take-le, set_at}

-- the next value of s, over the first places of d
pub copied_more : {A : Type 0} (s d : List A) (x : A) (i : ℕ) → i < length s → i < length d → x ≡ get_or s i x → set (take i s ++ drop i d) i x ≡ take (i + 1) s ++ drop (i + 1) d
copied_more {A} s d x i hs hd e =
    ap (λ (y : A). set (take i s ++ drop i d) i y) e
    ∙ ap (λ (l : List A). set (take i s ++ l) i (get_or s i x)) (drop-cons d i x hd)
    ∙ set_at (take i s) (get_or d i x) (drop (suc i) d) (get_or s i x) i (length-take-le i s (omega arith))
    ∙ sym (append_snoc (take i s) (get_or s i x) (drop (suc i) d))
    ∙ sym (ap (λ (l : List A). l ++ drop (suc i) d) (take-suc s i x hs))
    ∙ ap (λ (k : ℕ). take k s ++ drop k d) (sym (add-one i))
