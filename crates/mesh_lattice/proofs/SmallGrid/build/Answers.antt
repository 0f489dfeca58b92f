-- `SmallGrid::build` meets its contract: the calls' promises, put one into the other (`Joins`). Assumes nothing.
use Rattle.std.proofs.Common.{◌≡◌, ℕ, ◌≤◌, List, ◌++◌, length, drop, take, replicate, rules, ap, ◌∙◌, arith}
use Rattle.std.proofs.lemmas.List.{length-take-le}
use Rattle.lists.proofs.Laws.{length-overwrite}
use Rattle.lists.specs.Lists.{overwrite}
use Rattle.mesh_lattice.proofs.Joins.{joinable, builds}
use Rattle.mesh_lattice.proofs.Lists.{front_filled}
use Rattle.mesh_lattice.proofs.SmallGrid.build.Goals as goal
use Rattle.mesh_lattice.specs.Lattice.{slots_in}
use Rattle.mesh_lattice.specs.declared.Grid.{Grid}

-- the table's places filled with 0, and the rest
emptied : (g : Grid) (n : ℕ) (new edges : List ℕ) → n ≡ slots_in g → slots_in g ≤ length edges → new ≡ replicate (length (take n edges)) 0
    → new ++ drop n edges ≡ overwrite (λ k. 0) (slots_in g) edges
emptied g n new edges is room filled =
    let fits : n ≤ length edges = omega arith in
    ap (λ (l : List ℕ). l ++ drop n edges) (filled ∙ ap (λ (k : ℕ). replicate k 0) (length-take-le n edges fits))
    ∙ front_filled 0 n edges fits
    ∙ ap (λ (k : ℕ). overwrite (λ k. 0) k edges) is

pub join-next-requires : goal.join-next-requires
join-next-requires c =
    joinable _ _ _ _ _ _ c.requires c.store_corners.ensures (emptied c.args.self.grid _ _ _ c.slot_count-slots.ensures c.requires.room (c.fill.ensures.after (search rules)))

pub returns : goal.returns
returns c =
    let first : c.fill.new.self ++ drop c.slot_count-slots.result c.args.edges.now ≡ overwrite (λ k. 0) (slots_in c.args.self.grid) c.args.edges.now =
    emptied c.args.self.grid _ _ _ c.slot_count-slots.ensures c.requires.room (c.fill.ensures.after (search rules)) in
    builds _ _ _ _ _ _ c.requires c.store_corners.ensures first _ _ _ _ _ c.join-next.ensures
    (emptied c.args.self.grid _ _ _ c.slot_count-slots.ensures (omega (arith, c.requires.room, ap length first, length-overwrite (λ k. 0) (slots_in c.args.self.grid) c.args.edges.now)) (c.fill-2.ensures.after (search rules)))
