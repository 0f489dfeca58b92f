-- `region_passive::stages::mark` meets its contract: by nodes, then by depths of the middles; with no elements the first is all. Assumes nothing.
use Prim.Native.Nat.{ℕ}
use Rattle.lists.specs.Lists.{tabulate}
use Rattle.region_by_nodes.specs.Nodes.{by_nodes}
use Rattle.region_passive.proofs.Solid.{solid, solid-none, sets-only}
use Rattle.region_passive.proofs.stages.mark.Goals as goal
use Rattle.region_passive.specs.Passive.{Problem}
use Rattle.region_passive.specs.Held.{problem}
use lib.ListN.{length, get_or}
use mathlib.Core.Bool.{Bool}
use mathlib.Core.List.{List, []}
use mathlib.Core.Path.{◌≡◌, ap, ◌∙◌}
use borrow.Author.Rules.{rules}

-- by nodes, of as many nodes as there are flags
by_node_lem : (p : Problem) (k : ℕ) (w : List Bool) → k ≡ length p.nodes
    → w ≡ tabulate (λ e. by_nodes p.tris p.surfaces p.starts p.kept p.held p.loaded (length p.depths) k (get_or p.tets e [])) (length p.tets)
    → w ≡ tabulate (λ e. by_nodes p.tris p.surfaces p.starts p.kept p.held p.loaded (length p.depths) (length p.nodes) (get_or p.tets e [])) (length p.tets)
by_node_lem p k w flags e =
    e ∙ ap (λ (m : ℕ). tabulate (λ i. by_nodes p.tris p.surfaces p.starts p.kept p.held p.loaded (length p.depths) m (get_or p.tets i [])) (length p.tets)) flags

pub returns-then-is_empty : goal.returns-then-is_empty
returns-then-is_empty c =
    let a = c.args in
    let p : Problem = problem a.part in
    let w = c.by_nodes.new.marks in
    solid-none p w (search rules) (by_node_lem p (length a.keep.now) w c.requires.keeps c.by_nodes.ensures)

pub returns : goal.returns
returns c =
    let a = c.args in
    let p : Problem = problem a.part in
    let w = c.by_nodes.new.marks in
    let middles = c.centroids_of.new.centroids in
    solid p w c.by_depths.new.marks middles (by_node_lem p (length a.keep.now) w c.requires.keeps c.by_nodes.ensures) c.centroids_of.ensures
    (c.by_depths.ensures ∙ sets-only p middles (length p.depths) w)
