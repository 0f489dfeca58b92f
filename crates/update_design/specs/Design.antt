-- 01, "The rounds": the design after an update, at one rate. Definitions only.
use Rattle.std.specs.Prelude.{min, Bool, false, not, List, length, get_or, Float}
use Rattle.std.specs.Float.{nan}
use Rattle.std.specs.Float.Ieee.{ne}
use Rattle.lists.specs.Lists.{tabulate, fold_to, any_to, choose, zero64}
use Rattle.ieee.specs.Basic.{max_of}
use Rattle.update_value.specs.Value.{gain_of, next_of}

-- the gains of all elements
unfoldable pub gains_of : List Float → List Float → List Float
gains_of dc dv = tabulate (λ k. gain_of (get_or dc k nan) (get_or dv k nan)) (length dc)

-- the design at a rate
unfoldable pub design_at : List Float → List Float → List Bool → Float → Float → List Float
design_at x gain passive move rate = tabulate (λ k. next_of (get_or passive k false) (get_or x k nan) (get_or gain k nan) move rate) (length x)

-- the greatest gain of a free element: `fold(0.0, f64::max)`
unfoldable pub most_of : List Float → List Bool → Float
most_of gain passive = fold_to (λ k m. choose (get_or passive k false) m (max_of m (get_or gain k nan))) zero64 (min (length gain) (length passive))

-- `fewer == best`: equal element by element, as floats are
unfoldable pub same_design : List Float → List Float → Bool
same_design a b = not (any_to (λ k. ne (get_or a k nan) (get_or b k nan)) (min (length a) (length b)))
