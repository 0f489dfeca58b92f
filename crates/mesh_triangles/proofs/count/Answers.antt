-- `mesh_triangles::count` meets its contract: a turn counts a tetrahedron's faces. Assumes nothing.
use Rattle.std.proofs.Common.{Option, None, ℕ, ◌+◌, List, get_or, refl, ap, ◌∙◌, arith}
use Rattle.lists.specs.Lists.{fold_to}
use Rattle.mesh_triangles.proofs.Faces.{count-more}
use Rattle.mesh_triangles.proofs.count.Goals as goal
use Rattle.mesh_triangles.specs.Steps.{sides_of, one_of}
use Rattle.mesh_triangles.specs.Triangles.{triangles_to}

-- whether face k of four lies on a side
abbrev counted : ℕ → List (Option ℕ) → ℕ
counted k sides = one_of (get_or sides k None)

pub loop-e-init : goal.loop-e-init
unfolding triangles_to fold_to
loop-e-init c = record { counted = refl; few = omega arith }

pub loop-e-preserved : goal.loop-e-preserved
loop-e-preserved c =
    let g = c.args.g.grid in
    let sides = c.sides_of.ensures ∙ ap (sides_of g) c.vertices.ensures in
    record {
      counted =
          (λ i. c.loop-e.invariant.counted i
          + (c.one.ensures.is ∙ ap (counted 0) sides) i
          + (c.one-in-loop-e.ensures.is ∙ ap (counted 1) sides) i
          + (c.one-in-loop-e-2.ensures.is ∙ ap (counted 2) sides) i
          + (c.one-in-loop-e-3.ensures.is ∙ ap (counted 3) sides) i)
          ∙ count-more g c.loop-e.e;
      few = omega arith;
    }
