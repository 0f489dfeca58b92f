-- `fill::mark` meets its contract. The loop's invariant: the corners of the triangles passed are marked. Assumes nothing.
use Prim.Native.Nat.{ℕ}
use Rattle.lists.proofs.Laws.{any_step, tabulate_throughout}
use Rattle.lists.specs.Lists.{tabulate, any_to, fold_to}
use Rattle.region_by_nodes.specs.Steps.{flagged}
use Rattle.region_farthest.proofs.Filled.{three-marks}
use Rattle.region_farthest.proofs.fill.mark.Goals as goal
use Rattle.region_farthest.specs.Farthest.{corner_of, is_corner}
use borrow.Author.Rules.{rules}
use lib.ListN.{length, get_or, set, replicate}
use mathlib.Core.Bool.{Bool, true, false}
use mathlib.Core.List.{List, []}
use mathlib.Core.Path.{◌≡◌, sym, ap, ◌∙◌}
use native.Mathlib.Omega.{arith}

pub loop-t-init : goal.loop-t-init
unfolding any_to
loop-t-init c =
    let e : c.fill.new.self ≡ replicate (length c.args.seen.now) false = search rules in
    e ∙ sym (tabulate_throughout false (length c.args.seen.now))

pub loop-t-preserved : goal.loop-t-preserved
unfolding flagged fold_to
loop-t-preserved c = let l = c.loop-t in let a = c.args in
    let t = get_or a.tris.now l.t-index [] in
    let m = length a.seen.now in
    c.flag_all.ensures
    ∙ ap (λ (s : List Bool). set (set (set s (get_or t 0 0) true) (get_or t 1 0) true) (get_or t 2 0) true) l.invariant
    ∙ three-marks (λ k. any_to (λ j. corner_of (get_or a.tris.now j []) k) l.t-index) m (get_or t 0 0) (get_or t 1 0) (get_or t 2 0)
    ∙ (λ i. tabulate (λ k. any_step (λ j. corner_of (get_or a.tris.now j []) k) l.t-index i) m)

pub returns : goal.returns
unfolding is_corner
returns c = let l = c.loop-t in let a = c.args in
    let e : l.t-index ≡ length a.tris.now = omega arith in
    l.invariant ∙ ap (λ (n : ℕ). tabulate (λ k. any_to (λ j. corner_of (get_or a.tris.now j []) k) n) (length a.seen.now)) e
