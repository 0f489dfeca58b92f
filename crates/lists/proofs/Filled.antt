-- A loop that fills a list place by place. Assumes nothing.
use mathlib.Core.Path.{◌≡◌, refl, ap, ◌∙◌}
use mathlib.Core.List.{List}
use Prim.Native.Nat.{ℕ, ◌+◌, ◌<◌}
use lib.ListN.{length, get_or, set}
use Rattle.lists.specs.Lists.{tabulate, overwrite}
use Rattle.lists.proofs.Laws.{overwrite-more, get_or-overwrite-here, overwrite-all}

module _ {A : Type 0} (f : ℕ → A) (l o : List A) (i : ℕ) (h : o ≡ overwrite f i l) where
  -- the place that comes next is as it was lent
  pub unwritten : (d : A) → get_or o i d ≡ get_or l i d
  unwritten d = ap (λ (t : List A). get_or t i d) h ∙ get_or-overwrite-here f i l d

  -- a store of the next value is one place more
  pub stored : (v : A) → i < length l → v ≡ f i → set o i v ≡ overwrite f (i + 1) l
  stored v k e = (λ j. set (h j) i (e j)) ∙ overwrite-more f i l k

  -- at its end the whole list is filled, which has n places
  pub filled : (n : ℕ) → i ≡ length l → n ≡ length l → o ≡ tabulate f n
  filled n e g = h ∙ rw (e, g) (overwrite-all f _ l refl)
