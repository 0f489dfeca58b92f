-- The turns over the marks are those over the names.
use Rattle.std.proofs.Common.{◌≡◌, ◌<◌, ℕ, Option, Some, None, get_or, false, ap, ◌∙◌, arith}
use Rattle.std.specs.Prelude.{MatchOption}
use Rattle.lists.specs.Lists.{fold_to}
use Rattle.shift.specs.Grants.{turn}
use Rattle.shift.proofs.Turns.{chosen_is}
use Rattle.shift.proofs.Shift.chosen.Goals as goal

front : (Q : ℕ → Type 0) (o : Option ℕ) → MatchOption o (Unit {0}) (λ b. (b < 16) × Q b) → MatchOption o (Unit {0}) (λ b. b < 16)
front Q (Some b) h = h.0
front Q None h = h

pub returns : goal.returns
returns c =
    let all : c.loop-j.j ≡ 16 = omega arith in
    record {
      place = c.loop-j.invariant.0 ∙ ap (fold_to (turn c.args.self.now (λ k. get_or c.marked-marks.result k false)) 16) all ∙ chosen_is _ _ c.marked-marks.result c.marked-marks.ensures;
      below = front _ c.loop-j.best c.loop-j.invariant.1;
    }
