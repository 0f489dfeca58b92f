-- `SmallGrid::direction` meets its contract: the chain finds the first stride that is the number. Assumes nothing.
use Rattle.std.proofs.Common.{◌≡◌, ℕ, ◌≤◌, Bool, true, false, cond, not, eqb, ltb, ltb-false, List, Option, Some, None, refl, ap, ◌∙◌, rules, tests, arith}
use Rattle.std.specs.List.{position_or_len}
use Rattle.std.specs.Option.{unwrap_or}
use Rattle.std.proofs.lemmas.Iterator.{YieldsList-from_slice}
use Rattle.std.proofs.lemmas.Iterator.Search.{position_from_yields_List}
use Rattle.std.proofs.lemmas.List.Sums.{prefix_len-le-length}
use Rattle.mesh_lattice.proofs.SmallGrid.direction.Goals as goal
use Rattle.mesh_lattice.specs.Filing.{strides, index_in}

otherwise : (p n : ℕ) (t : Bool) → ltb p n ≡ t → p ≤ n → unwrap_or (cond t (Some p) None) n ≡ p
otherwise p n true e h = refl
otherwise p n false e h = let l = ltb-false p n e in omega arith

pub returns : goal.returns
unfolding index_in
returns c =
    let d = c.args.d in
    let xs : List ℕ = strides c.args.self.grid in
    let found = position_from_yields_List (λ (x : ℕ). eqb x d) _ _ _ c.position.ensures.ran (YieldsList-from_slice xs cc) (λ x b q k. search (rules, tests)) in
    c.unwrap_or.ensures
    ∙ ap (λ (r : Option ℕ). unwrap_or r 7) found
    ∙ otherwise (position_or_len (λ x. eqb x d) xs) 7 _ refl (prefix_len-le-length (λ x. not (eqb x d)) xs)
