-- `mesh_triangles::triangles` meets its contract: a turn stores a tetrahedron's triangles (`Placed`). Assumes nothing.
use Rattle.std.proofs.Common.{◌≡◌, ℕ, ◌<◌, List, [], get_or, refl, ap, ◌∙◌, arith}
use Rattle.lists.proofs.Laws.{get_or-overwrite-below}
use Rattle.lists.specs.Lists.{fold_to}
use Rattle.mesh_lattice.specs.Lattice.{tets_in, tet_of}
use Rattle.mesh_triangles.proofs.Faces.{triangles-few}
use Rattle.mesh_triangles.proofs.Placed.{placed-none, turn-placed}
use Rattle.mesh_triangles.proofs.triangles.Goals as goal
use Rattle.mesh_triangles.specs.Triangles.{triangles_to}

pub loop-e-init : goal.loop-e-init
unfolding triangles_to fold_to
loop-e-init c = record { placed = placed-none _ _; same = record { surfaces = refl; tris = refl; surfaces-long = refl; tris-long = refl } }

pub put_faces-requires : goal.put_faces-requires
put_faces-requires c =
    let here : c.loop-e.e < tets_in c.args.g.grid = omega (arith, c.tet_count-e-end.ensures) in
    omega (arith, c.loop-e.invariant.placed.next-is, triangles-few c.args.g.grid c.loop-e.e, here, c.args.g.small.few)

pub loop-e-preserved : goal.loop-e-preserved
loop-e-preserved c =
    let e = c.loop-e.e in
    let g = c.args.g.grid in
    let tets = c.args.tets.now in
    let here : e < tets_in g = omega (arith, c.tet_count-e-end.ensures) in
    let is_tet : get_or tets e [] ≡ tet_of g e =
    ap (λ (t : List (List ℕ)). get_or t e []) c.requires.tets-are ∙ get_or-overwrite-below (tet_of g) (tets_in g) tets e [] here (omega (arith, here, c.requires.places)) in
    let was = c.loop-e.invariant.same in
    let is = c.put_faces.ensures.same in
    record {
      placed = turn-placed _ _ _ _ _ _ _ _ c.vertices.ensures is_tet c.put_faces.ensures.placed c.loop-e.invariant.placed;
      same = record {
        surfaces = is.surfaces ∙ was.surfaces;
        tris = is.tris ∙ was.tris;
        surfaces-long = is.surfaces-long ∙ was.surfaces-long;
        tris-long = is.tris-long ∙ was.tris-long;
      };
    }
