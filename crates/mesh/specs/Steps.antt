-- What the steps of `volume` promise to each other; no caller need read them. Definitions only.
use Rattle.std.specs.Prelude.{ℕ, List, [], ◌∷◌, Float}
use Rattle.std.specs.Float.{binary64}
use Rattle.std.specs.Float.Ieee.{div}
use Rattle.geom.specs.Vectors.{plus, scaled}
use Rattle.geom.specs.declared.Vec3.{Vec3}
use Rattle.mesh.specs.declared.Twice.{Twice}
use Rattle.mesh.specs.Mesh.{twenty_four64, triple, node_of}

-- a node by two numbers
abbrev pub twice_of : Vec3 → Float → Float → Twice
twice_of p u v = record { a = scaled p u; b = scaled p v }

-- the first four nodes of a tetrahedron
abbrev pub corners_of : List (List Float) → List ℕ → List Vec3
corners_of nodes tet =
    let p = node_of nodes tet in
    p 0 ∷ p 1 ∷ p 2 ∷ p 3 ∷ []

abbrev pub added : Vec3 → Vec3 → Vec3 → Vec3 → Vec3
added c m1 m2 m3 = plus (plus (plus c m1) m2) m3

abbrev pub share_by : Vec3 → Vec3 → Vec3 → Vec3 → Float
share_by d0 d1 d2 d3 = div binary64 (triple d0 d1 d2 d3) twenty_four64
