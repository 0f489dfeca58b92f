-- The least over a leaf, triangle by triangle. Assumes nothing.
use mathlib.Core.Path.{◌≡◌}
use mathlib.Core.List.{List}
use Prim.Native.Nat.{ℕ, ◌+◌, ◌<◌}
use native.Mathlib.Numerals.{add-one}
use lib.Ieee.{Float}
use lib.ListN.{length, get_or, drop}
use lib.Seq.{drop-cons, drop-length}
use Rattle.ieee.specs.Basic.{min_of}
use Rattle.geom.specs.declared.Vec3.{Vec3}
use Rattle.region_tree.specs.Tree.{face_at}
use Rattle.region_nearest.specs.Nearest.{dist2_to, least_of}

module _ (faces : List (List Float)) (p : Vec3) (o : List ℕ) (i : ℕ) (b : Float) where
  pub least_more : i < length o → least_of faces p (min_of b (dist2_to p (face_at faces (get_or o i 0)))) (drop (i + 1) o) ≡ least_of faces p b (drop i o)
  unfolding least_of
  least_more h = rw (drop-cons o i 0 h, add-one i)

  pub least_all : i ≡ length o → b ≡ least_of faces p b (drop i o)
  unfolding least_of
  least_all h = rw (h, drop-length o)
