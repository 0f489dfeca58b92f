-- `mesh_block::block` meets its contract: where nothing is refused the lists are long enough (`Refusals`), and the calls' promises are the contract's. Assumes nothing.
use Rattle.std.proofs.Common.{◌≡◌, ℕ, max, List, length, get_or, refl, sym, ap, ◌∙◌, subst, arith}
use Rattle.lent.proofs.Lent.{unless-accepted}
use Rattle.lists.proofs.Laws.{length-overwrite}
use Rattle.mesh_block.proofs.Refusals.{accepted_by, left_alone, same_grid}
use Rattle.mesh_block.proofs.block.Goals as goal
use Rattle.mesh_block.specs.Block as Block
use Rattle.mesh_block.specs.Block.{refusal_of, grid_of}
use Rattle.mesh_lattice.proofs.Edges.{edges_few}
use Rattle.mesh_lattice.proofs.Lists.{overwrite-again}
use Rattle.mesh_lattice.proofs.Numbers.{corners-most}
use Rattle.mesh_lattice.specs.Lattice.{tets_in, tet_of}
use Rattle.mesh_lattice.specs.declared.Grid.{Grid}
use Rattle.geom.specs.declared.Vec3.{Vec3}
use native.Mathlib.Nat.{le_trans}

-- the grid that is made is the definition's
made : (cells : List ℕ) (s : Vec3) (x y z : ℕ) → x ≡ max (get_or cells 0 0) 1 → y ≡ max (get_or cells 1 0) 1 → z ≡ max (get_or cells 2 0) 1 → ◌≡◌ {A = Grid} (record { nx = x; ny = y; nz = z; size = s }) (grid_of cells s)
unfolding grid_of
made cells s x y z ex ey ez = λ i. record { nx = ex i; ny = ey i; nz = ez i; size = s }

pub returns-in_err-g : goal.returns-in_err-g
returns-in_err-g c =
    let is : ◌≡◌ {A = Grid} (record { nx = c.max.result; ny = c.max-2.result; nz = c.max-3.result; size = c.args.size }) (grid_of c.args.cells c.args.size) =
    made _ _ _ _ _ c.max.ensures c.max-2.ensures c.max-3.ensures in
    let l = Block.lent c.args.lists in
    left_alone _ _ _ _ c.from_residual.ensures
    (c.in_err-g.ensures.refusal ∙ ap (λ (g : Grid). refusal_of g (length l.nodes) (length l.tets) (length l.surfaces) (length l.tris) (length l.edges)) is)

pub build-n-requires : goal.build-n-requires
build-n-requires c =
    let o = accepted_by _ _ _ _ _ _ _ c.in_ok-g.ensures.grid c.in_ok-g.ensures.refusal in
    record { fit = le_trans (corners-most c.in_ok-g.g.grid) o.nodes; places = o.tets; room = o.edges }

pub triangles-t-requires : goal.triangles-t-requires
triangles-t-requires c =
    let g = c.in_ok-g.g.grid in
    let are = c.build-n.ensures.tets-are in
    let o = accepted_by _ _ _ _ _ _ _ c.in_ok-g.ensures.grid c.in_ok-g.ensures.refusal in
    record {
      places = omega (arith, o.tets, ap length are, length-overwrite (tet_of g) (tets_in g) c.args.lists.tets.now);
      tets-are = overwrite-again (tet_of g) (tets_in g) _ _ are;
    }

pub overflow_cast-result : goal.overflow_cast-result
overflow_cast-result c =
    let g = c.in_ok-g.g in
    omega (arith, c.build-n.ensures.next-is, edges_few g.grid (tets_in g.grid), g.small.corners, g.small.few)

pub overflow_cast-result-3 : goal.overflow_cast-result-3
overflow_cast-result-3 c =
    let o = accepted_by _ _ _ _ _ _ _ c.in_ok-g.ensures.grid c.in_ok-g.ensures.refusal in
    omega (arith, c.triangles-t.ensures.next-is, o.few_triangles)

pub returns : goal.returns
returns c =
    let l = Block.lent c.args.lists in
    let is : ◌≡◌ {A = Grid} (record { nx = c.max.result; ny = c.max-2.result; nz = c.max-3.result; size = c.args.size }) (grid_of c.args.cells c.args.size) =
    made _ _ _ _ _ c.max.ensures c.max-2.ensures c.max-3.ensures in
    same_grid _ _ _ _ _ (c.in_ok-g.ensures.grid ∙ is)
    (record {
      refusal = subst (λ (g : Grid). 0 ≡ refusal_of g (length l.nodes) (length l.tets) (length l.surfaces) (length l.tris) (length l.edges)) (sym c.in_ok-g.ensures.grid) c.in_ok-g.ensures.refusal;
      node-count = c.build-n.ensures.next-is ∙ unless-accepted 0 _ 0 refl;
      tet-count = c.tet_count.ensures ∙ unless-accepted 0 _ 0 refl;
      tri-count = c.triangles-t.ensures.next-is ∙ unless-accepted 0 _ 0 refl;
      nodes-are = c.build-n.ensures.nodes-are ∙ unless-accepted 0 _ l.nodes refl;
      tets-are = c.build-n.ensures.tets-are ∙ unless-accepted 0 _ l.tets refl;
      surfaces-are = c.triangles-t.ensures.surfaces-are ∙ unless-accepted 0 _ l.surfaces refl;
      tris-are = c.triangles-t.ensures.tris-are ∙ unless-accepted 0 _ l.tris refl;
      edges_are = c.build-n.ensures.edges_are ∙ unless-accepted 0 _ l.edges refl;
    })
