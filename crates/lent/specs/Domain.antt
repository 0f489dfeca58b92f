-- 01, "Domain and stand-ins": the domain, in its order, and the refusals of what lies outside it. Definitions only.
use Rattle.std.specs.Prelude.{ℕ, Bool, not, ◌&&◌, ◌||◌, List, [], length, get_or, ltb, Float}
use Rattle.std.specs.Float.{nan, binary64}
use Rattle.std.specs.Float.Ieee.{lt, le, of_bits}
use Rattle.lists.specs.Lists.{any_to, zero64}
use Rattle.ieee.specs.Basic.{abs_of, is_finite}
use Rattle.geom.specs.Vectors.{len}
use Rattle.geom.specs.Points.{plane}

-- 3: "At most 65,535 elements or triangles and 1,048,576 nodes."
abbrev pub too_many_elements : ℕ → Bool
too_many_elements n = ltb 65535 n

abbrev pub too_many_nodes : ℕ → Bool
too_many_nodes n = ltb 1048576 n

-- 0.001, 1,000,000, 10^20 and 1e-12
abbrev pub thousandth64 : Float
thousandth64 = of_bits binary64 0x3f50_624d_d2f1_a9fc

abbrev pub million64 : Float
million64 = of_bits binary64 0x412e_8480_0000_0000

abbrev pub largest64 : Float
largest64 = of_bits binary64 0x4415_af1d_78b5_8c40

abbrev pub shortest64 : Float
shortest64 = of_bits binary64 0x3d71_9799_812d_ea11

-- "Coordinates of nodes, middles and planes are finite, magnitude at most 1,000,000 mm.": v is no such coordinate
abbrev pub outside_domain : Float → Bool
outside_domain v = not (le (abs_of v) million64)

-- 9: "middle or node outside the domain"
abbrev pub point_bad : List Float → Bool
point_bad p = outside_domain (get_or p 0 nan) || outside_domain (get_or p 1 nan) || outside_domain (get_or p 2 nan)

abbrev pub points_bad : List (List Float) → Bool
points_bad points = any_to (λ k. point_bad (get_or points k [])) (length points)

-- 11: "plane outside the domain, or normal length not above 1e-12"; the coordinates of a plane are those of its point and of its normal
unfoldable pub plane_bad : List Float → Bool
unfolding any_to
plane_bad p = any_to (λ k. outside_domain (get_or p k nan)) 6 || not (lt shortest64 (len (plane p).normal))

-- 4: "a volume outside the domain": "A volume is above 0 and at most 10^20 mm³."
abbrev pub volume_bad : Float → Bool
volume_bad v = not (lt zero64 v && le v largest64)

abbrev pub volumes_bad : List Float → Bool
volumes_bad volumes = any_to (λ k. volume_bad (get_or volumes k nan)) (length volumes)

-- 8: "radius, or finite depth above 0, outside the domain": "Radius, and any finite depth above 0, from 0.001 to 1,000,000 mm."
abbrev pub radius_bad : Float → Bool
radius_bad r = not (le thousandth64 r && le r million64)

-- "An absent, infinite, zero, negative or not-a-number depth marks by nodes only": the depth is none of these
unfoldable pub is_depth : Float → Bool
is_depth depth = is_finite depth && lt zero64 depth

unfoldable pub depth_bad : Float → Bool
unfolding is_depth
depth_bad depth = is_depth depth && radius_bad depth

unfoldable pub depths_bad : List Float → Bool
unfolding any_to depth_bad
depths_bad depths = any_to (λ s. depth_bad (get_or depths s nan)) (length depths)
