-- `SmallGrid::way` meets its contract: each corner by the call's promise, and none so far out that a step overflows. Assumes nothing.
use Rattle.std.proofs.Common.{◌∷◌, [], ap, ◌∙◌, arith}
use Rattle.mesh_lattice.proofs.Ways.{first_near, step_near, wider}
use Rattle.mesh_lattice.proofs.SmallGrid.way.Goals as goal
use Rattle.mesh_lattice.specs.Lattice.{stepped, axis_of, way_of}

pub step-b-requires : goal.step-b-requires
step-b-requires c = wider 10922 65536 _ (omega arith) (first_near _ _ _ c.args.self.small c.requires c.first-a.ensures)

pub step-c-requires : goal.step-c-requires
step-c-requires c = wider 10923 65536 _ (omega arith) (step_near 10922 _ _ _ c.step-b.ensures (first_near _ _ _ c.args.self.small c.requires c.first-a.ensures))

pub step-d-requires : goal.step-d-requires
step-d-requires c =
    wider 10924 65536 _ (omega arith)
    (step_near 10923 _ _ _ c.step-c.ensures (step_near 10922 _ _ _ c.step-b.ensures (first_near _ _ _ c.args.self.small c.requires c.first-a.ensures)))

pub returns : goal.returns
unfolding way_of
returns c =
    let e = c.args.e in
    let b = c.step-b.ensures ∙ ap (stepped (axis_of e 0)) c.first-a.ensures in
    let r = c.step-c.ensures ∙ ap (stepped (axis_of e 1)) b in
    let d = c.step-d.ensures ∙ ap (stepped (axis_of e 2)) r in
    λ i. c.first-a.ensures i ∷ b i ∷ r i ∷ d i ∷ []
