-- Lists that are lent to a call, and how long they must be. Definitions only.
use Rattle.std.specs.Prelude.{Bool, ◌||◌, List, [], ◌∷◌, ℕ, suc}
use Rattle.lent.specs.Lent.{short}
use Rattle.filter.specs.Build.{work_needed}

-- how long each list of a call is that it may write or that an answer reads; `work` has those of the working lists
pub record Sizes : Type 0 where
  pub volumes : ℕ
  pub passive : ℕ
  pub starts : ℕ
  pub near : ℕ
  pub coef : ℕ
  pub design : ℕ
  pub density : ℕ
  pub last : ℕ
  pub history : ℕ
  pub work : List ℕ

-- "working lists as docs/ fixes them": the opening's are the filter's, an answer's are five of one place an element
abbrev pub open_work : ℕ → List ℕ
open_work n = work_needed n

abbrev pub answer_work : ℕ → List ℕ
answer_work n = n ∷ n ∷ n ∷ n ∷ n ∷ []

-- "one place an element, one more for row starts", and 14: "records fewer than rounds allowed"
unfoldable pub run_short : ℕ → ℕ → Sizes → Bool
run_short elements rounds k = short (k.starts ∷ k.design ∷ k.density ∷ k.last ∷ k.history ∷ []) (suc elements ∷ elements ∷ elements ∷ elements ∷ rounds ∷ [])

-- what an opening looks at before the rows
unfoldable pub open_short : ℕ → ℕ → Sizes → Bool
open_short elements rounds k = run_short elements rounds k || short k.work (open_work elements)

-- what an answer looks at: "a row's end for neighbours and weights" is the number of entries
unfoldable pub answer_short : ℕ → ℕ → ℕ → Sizes → Bool
answer_short elements entries rounds k =
    run_short elements rounds k || short (k.volumes ∷ k.passive ∷ k.near ∷ k.coef ∷ []) (elements ∷ elements ∷ entries ∷ entries ∷ []) || short k.work (answer_work elements)
