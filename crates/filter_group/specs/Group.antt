-- filter.rs, `mirror_group`: the planes of symmetry, made of unit length, and the reflections in them. Definitions only.
use Rattle.std.specs.Prelude.{ℕ, ◌/◌, ◌%◌, ◌^◌, Bool, List, [], ◌∷◌, map, length, get_or, eqb, ltb, Float}
use Rattle.std.specs.Float.{binary64}
use Rattle.std.specs.Float.Ieee.{lt, of_bits}
use Rattle.lists.specs.Lists.{any_to, choose}
use Rattle.ieee.specs.Basic.{abs_of}
use Rattle.geom.specs.Vectors.{dot, normalized, image}
use Rattle.geom.specs.declared.Vec3.{Vec3}
use Rattle.geom.specs.declared.Mirror.{Mirror}
use Rattle.geom.specs.Points.{plane}
use Rattle.lent.specs.Domain.{plane_bad}

-- 1e-9
abbrev pub square64 : Float
square64 = of_bits binary64 0x3e11_2e0b_e826_d695

-- 11: "plane outside the domain, or normal length not above 1e-12"
unfoldable pub planes_bad : List (List Float) → Bool
unfolding any_to plane_bad
planes_bad planes = any_to (λ k. plane_bad (get_or planes k [])) (length planes)

-- "The normals are made of unit length."
unfoldable pub unit : Mirror → Mirror
unit m = record { point = m.point; normal = normalized m.normal }

abbrev pub mirrors : List (List Float) → List Mirror
mirrors planes = map (λ p. unit (plane p)) planes

-- 01: "`planes_square` refuses a pair whose `dot` exceeds 1e-9 in magnitude"
unfoldable pub skew : Mirror → Mirror → Bool
skew m k = lt square64 (abs_of (dot m.normal k.normal))

-- plane j with one before it
unfoldable pub skew_before : List (List Float) → ℕ → Bool
unfolding any_to skew
skew_before planes j = any_to (λ i. skew (unit (plane (get_or planes i []))) (unit (plane (get_or planes j [])))) j

unfoldable pub planes_skew : List (List Float) → Bool
unfolding any_to skew_before
planes_skew planes = any_to (skew_before planes) (length planes)

-- 10: "more than three planes"; 11: "plane outside the domain, or normal length not above 1e-12"; 12: "planes not square"; or what is refused after them
abbrev pub planes_refusal : List (List Float) → ℕ → ℕ
planes_refusal planes rest = choose (ltb 3 (length planes)) 10 (choose (planes_bad planes) 11 (choose (planes_skew planes) 12 rest))

-- the members are numbered by the sets of planes, of which the first has the lowest bit; 0 is the identity
abbrev pub members : List (List Float) → ℕ
members planes = 2 ^ length planes

-- p under member `set`: its planes, the last first
unfoldable pub image_in : List Mirror → ℕ → Vec3 → Vec3
unfolding choose
image_in [] set p = p
image_in (m ∷ ms) set p = choose (eqb (set % 2) 1) (image m (image_in ms (set / 2) p)) (image_in ms (set / 2) p)
