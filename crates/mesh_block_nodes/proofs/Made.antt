-- What `block` makes of nodes where it refuses nothing: as many as it tested for. Assumes nothing.
use mathlib.Core.Path.{◌≡◌, sym, ◌∙◌}
use mathlib.Core.List.{List}
use Prim.Native.Nat.{ℕ}
use native.Mathlib.Omega.{arith}
use lib.ListN.{length}
use Rattle.lent.proofs.Lent.{unless-accepted}
use Rattle.geom.specs.declared.Vec3.{Vec3}
use Rattle.mesh_lattice.specs.declared.Grid.{Grid}
use Rattle.mesh_lattice.specs.Bounds.{Positive}
use Rattle.mesh_block.specs.declared.Made.{Made}
use Rattle.mesh_block.specs.Block.{grid_of, Held, Built}
use Rattle.mesh_block.proofs.Refusals.{accepted}
use Rattle.mesh_block_nodes.specs.Points.{NodesMade}
use Rattle.mesh_block_nodes.proofs.Count.{node-count}

made-nodes : (g : Grid) → Positive g → {l l' : Held} {r : Made} → Built g l l' r → r.refused ≡ 0 → NodesMade g (length l.nodes) r
made-nodes g p {l} {l'} {r} b z =
    let a = accepted g (length l.nodes) (length l.tets) (length l.surfaces) (length l.tris) (length l.edges) (sym b.refusal ∙ z) in
    let n = b.node-count ∙ sym (unless-accepted r.refused _ 0 z) ∙ node-count g p in
    record { count = n; few = omega (arith, n, a.few-nodes); fit = omega (arith, n, a.nodes) }

-- "Cells of 0 count as 1."
grid-positive : (cells : List ℕ) (s : Vec3) → Positive (grid_of cells s)
unfolding grid_of
grid-positive cells s = record { x = omega arith; y = omega arith; z = omega arith }

pub block-nodes : (cells : List ℕ) (s : Vec3) {l l' : Held} {r : Made} → Built (grid_of cells s) l l' r → r.refused ≡ 0 → NodesMade (grid_of cells s) (length l.nodes) r
block-nodes cells s b z = made-nodes (grid_of cells s) (grid-positive cells s) b z
