-- `Placer::put_faces` meets its contract: the four calls' promises, put one into the other. Assumes nothing.
use Rattle.std.proofs.Common.{Option, None, ◌≡◌, ℕ, ◌+◌, ◌≤◌, List, get_or, refl, ap, arith}
use Rattle.mesh_triangles.proofs.Placed.{few-more, face-placed}
use Rattle.mesh_triangles.proofs.Placer.put_faces.Goals as goal
use Rattle.mesh_triangles.specs.Steps.{placed_all}

-- the side of face k
at_face : (k : ℕ) (l m : List (Option ℕ)) → l ≡ m → get_or l k None ≡ get_or m k None
at_face k l m e = ap (λ (l : List (Option ℕ)). get_or l k None) e

pub put_face-requires-2 : goal.put_face-requires-2
put_face-requires-2 c =
    let one : c.put_face.new.self.next ≤ c.args.self.now.next + 1 = few-more _ _ _ 0 _ _ c.put_face.ensures.placed (omega arith) in
    omega (arith, one, c.requires)

pub put_face-requires-3 : goal.put_face-requires-3
put_face-requires-3 c =
    let one : c.put_face.new.self.next ≤ c.args.self.now.next + 1 = few-more _ _ _ 0 _ _ c.put_face.ensures.placed (omega arith) in
    let two : c.put_face-2.new.self.next ≤ c.args.self.now.next + 2 = few-more _ _ _ 1 _ _ c.put_face-2.ensures.placed one in
    omega (arith, two, c.requires)

pub put_face-requires-4 : goal.put_face-requires-4
put_face-requires-4 c =
    let one : c.put_face.new.self.next ≤ c.args.self.now.next + 1 = few-more _ _ _ 0 _ _ c.put_face.ensures.placed (omega arith) in
    let two : c.put_face-2.new.self.next ≤ c.args.self.now.next + 2 = few-more _ _ _ 1 _ _ c.put_face-2.ensures.placed one in
    let three : c.put_face-3.new.self.next ≤ c.args.self.now.next + 3 = few-more _ _ _ 2 _ _ c.put_face-3.ensures.placed two in
    omega (arith, three, c.requires)

pub returns-clause-placed : goal.returns-clause-placed
unfolding placed_all
returns-clause-placed c =
    face-placed _ _ _ _ _ _ _ _ _ _ (at_face 3 _ _ c.sides_of.ensures) c.put_face-4.ensures.placed
    (face-placed _ _ _ _ _ _ _ _ _ _ (at_face 2 _ _ c.sides_of.ensures) c.put_face-3.ensures.placed
    (face-placed _ _ _ _ _ _ _ _ _ _ (at_face 1 _ _ c.sides_of.ensures) c.put_face-2.ensures.placed
    (face-placed _ _ _ _ _ _ _ _ _ _ (at_face 0 _ _ c.sides_of.ensures) c.put_face.ensures.placed refl)))
