-- `region_asymmetry::apart` meets its contract: each stage by what the one before it left. Assumes nothing.
use Rattle.lists.specs.Lists.{tabulate}
use Rattle.region_asymmetry.proofs.apart.Goals as goal
use Rattle.region_farthest.proofs.Farthest.{far-is}
use Rattle.region_farthest.specs.Farthest.{faces_of, is_corner, whole_tree}
use Rattle.region_tree.specs.Tree.{tree_of}
use lib.ListN.{length}
use mathlib.Core.Path.{◌≡◌, sym, ap, ◌∙◌}

pub returns : goal.returns
unfolding whole_tree
returns c = let a = c.args in
    let nodes = a.nodes.now in
    let tris = a.tris.now in
    let e : length a.work.order.now ≡ length (faces_of nodes tris) = c.requires.order-fit ∙ sym c.requires.faces-fit ∙ sym c.gather.auto.faces ∙ ap length c.gather.ensures in
    let eN = c.number.auto.order ∙ e in
    let eO = c.number.ensures ∙ ap (tabulate (λ k. k)) e in
    let eT = c.build.ensures ∙ (λ i. tree_of (c.gather.ensures i) (eN i) (eO i)) in
    let eS = c.mark.ensures ∙ ap (tabulate (is_corner tris)) c.requires.seen-fit in
    c.farthest-far.ensures ∙ far-is nodes tris a.mirror _ _ _ c.gather.ensures eT eS
