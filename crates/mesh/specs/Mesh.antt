-- mesh.rs: `volume`, `corner_volume`, `centroid`, `extent`. Each operation is rounded once, in the Rust's order. Definitions only.
use Rattle.std.specs.Prelude.{ℕ, List, [], ◌∷◌, length, get_or, eqb, Float}
use Rattle.std.specs.Float.{binary64}
use Rattle.std.specs.Float.Ieee.{add, sub, mul, div, of_bits}
use Rattle.lists.specs.Lists.{fold_to, choose, zero64}
use Rattle.ieee.specs.Basic.{abs_of, one64}
use Rattle.geom.specs.Vectors.{vec, plus, less, scaled, dot, cross, least, greatest, len}
use Rattle.geom.specs.declared.Vec3.{Vec3}
use Rattle.geom.specs.Points.{point, stored}

abbrev pub origin : Vec3
origin = vec zero64 zero64 zero64

-- 01: "A tetrahedron's missing node is the origin."
unfoldable pub node_at : List (List Float) → ℕ → Vec3
node_at nodes n = point (get_or nodes n (stored origin))

-- node k of a tetrahedron: corners 0 to 3, then the middles of its sides 0-1, 1-2, 2-0, 0-3, 2-3, 1-3
abbrev pub node_of : List (List Float) → List ℕ → ℕ → Vec3
node_of nodes tet k = node_at nodes (get_or tet k 0)

-- all ten
abbrev pub ten_of : List (List Float) → List ℕ → List Vec3
ten_of nodes tet =
    let p = node_of nodes tet in
    p 0 ∷ p 1 ∷ p 2 ∷ p 3 ∷ p 4 ∷ p 5 ∷ p 6 ∷ p 7 ∷ p 8 ∷ p 9 ∷ []

-- 0.585410196624969, 0.138196601125011, and whole numbers
abbrev pub A : Float
A = of_bits binary64 0x3fe2_bbae_2a27_f936

abbrev pub B : Float
B = of_bits binary64 0x3fc1_b06d_1d20_0925

abbrev pub four64 : Float
four64 = of_bits binary64 0x4010_0000_0000_0000

abbrev pub six64 : Float
six64 = of_bits binary64 0x4018_0000_0000_0000

abbrev pub twenty_four64 : Float
twenty_four64 = of_bits binary64 0x4038_0000_0000_0000

abbrev pub quarter64 : Float
quarter64 = of_bits binary64 0x3fd0_0000_0000_0000

-- `volume`: how the point moves with the weight w of the corner c, whose sides have the middles m1, m2, m3 and lead to corners of weights w1, w2, w3
unfoldable pub moves : Vec3 → Float → Vec3 → Float → Vec3 → Float → Vec3 → Float → Vec3
moves c w m1 w1 m2 w2 m3 w3 =
    plus
    (plus
    (plus (scaled c (sub binary64 (mul binary64 four64 w) one64)) (scaled m1 (mul binary64 four64 w1)))
    (scaled m2 (mul binary64 four64 w2)))
    (scaled m3 (mul binary64 four64 w3))

-- dot(d1 − d0, cross(d2 − d0, d3 − d0))
abbrev pub triple : Vec3 → Vec3 → Vec3 → Vec3 → Float
triple d0 d1 d2 d3 = dot (less d1 d0) (cross (less d2 d0) (less d3 d0))

-- `volume`: the share of one point of the rule, at which the corners 0 to 3 weigh w0 to w3
unfoldable pub share_at : List Vec3 → Float → Float → Float → Float → Float
share_at t w0 w1 w2 w3 =
    let p : ℕ → Vec3 = λ k. get_or t k origin in
    div binary64
    (triple
    (moves (p 0) w0 (p 4) w1 (p 6) w2 (p 7) w3)
    (moves (p 1) w1 (p 4) w0 (p 5) w2 (p 9) w3)
    (moves (p 2) w2 (p 5) w1 (p 6) w0 (p 8) w3)
    (moves (p 3) w3 (p 7) w0 (p 8) w2 (p 9) w1))
    twenty_four64

-- `volume`: the four-point rule, whose shares are added in order
unfoldable pub rule_of : List Vec3 → Float
rule_of t =
    add binary64
    (add binary64 (add binary64 (share_at t A B B B) (share_at t B A B B)) (share_at t B B A B))
    (share_at t B B B A)

unfoldable pub volume_of : List (List Float) → List ℕ → Float
volume_of nodes tet = abs_of (rule_of (ten_of nodes tet))

-- `corner_volume`: the straight tetrahedron between the corners
unfoldable pub corner_volume_of : List (List Float) → List ℕ → Float
corner_volume_of nodes tet =
    let p = node_of nodes tet in
    abs_of (div binary64 (triple (p 0) (p 1) (p 2) (p 3)) six64)

-- `centroid`: the corners, added in order to the origin, times 0.25
unfoldable pub centroid_of : List (List Float) → List ℕ → Vec3
unfolding fold_to
centroid_of nodes tet = scaled (fold_to (λ k s. plus s (node_of nodes tet k)) origin 4) quarter64

-- `extent`: the least and the greatest coordinates among the first n nodes, from those of the first node on
unfoldable pub lowest : List (List Float) → ℕ → Vec3
lowest nodes n = fold_to (λ k lo. least lo (point (get_or nodes k []))) (point (get_or nodes 0 [])) n

unfoldable pub highest : List (List Float) → ℕ → Vec3
highest nodes n = fold_to (λ k hi. greatest hi (point (get_or nodes k []))) (point (get_or nodes 0 [])) n

-- `extent`: the box's size from corner to corner, 0.0 with no nodes
unfoldable pub extent_of : List (List Float) → Float
extent_of nodes = choose (eqb (length nodes) 0) zero64 (len (less (highest nodes (length nodes)) (lowest nodes (length nodes))))
