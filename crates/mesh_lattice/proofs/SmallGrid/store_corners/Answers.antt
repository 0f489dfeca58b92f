-- `SmallGrid::store_corners` meets its contract: a turn stores the next corner. Assumes nothing.
use Rattle.std.proofs.Common.{◌<◌, [], length, ap, sym, ◌∙◌, arith}
use Rattle.geom.specs.Points.{stored}
use Rattle.lists.proofs.Filled as Filled
use Rattle.mesh_lattice.proofs.Filed.{node-corner}
use Rattle.mesh_lattice.proofs.SmallGrid.store_corners.Goals as goal
use Rattle.mesh_lattice.specs.Lattice.{corners_in, place_of}

pub loop-k-preserved : goal.loop-k-preserved
loop-k-preserved c =
    let g = c.args.self.grid in
    let k = c.loop-k.k in
    let h : k < corners_in g = omega (arith, c.corner_count-k-end.ensures) in
    let room : k < length c.args.nodes.now = omega (arith, c.requires) in
    Filled.stored _ _ _ _ c.loop-k.invariant _ room
    (c.into.ensures ∙ ap stored (c.place.ensures ∙ ap (place_of g) c.corner_at.ensures) ∙ sym (node-corner g [] k h))
