-- A strip's job in lists of floats: `strip`'s reading with its patterns as floats. Definitions only.
use Rattle.std.specs.Prelude.{◌≡◌, Bool, true, not, ◌&&◌, ◌||◌, List, ℕ, ◌+◌, ltb, length, Float}
use Rattle.std.specs.Float.Ieee.{of_bits}
use Rattle.std.specs.Float.{binary64}
use Rattle.lists.specs.Lists.{overwrite}
use Rattle.strip_lists.specs.declared.Lists.{Lists as Handed}
use Rattle.strip.specs.Strip.{Lists as Patterns, accepted, short, elements_of, mirrors_of, element_at, mirror_at, number_at, point_at, plane_at, flag_at}
use Rattle.strip_floats.specs.Floats.{point_of, plane_of}

-- the lists that a job is loaded into: one place an element, and one a plane
pub record Lists : Type 0 where
  pub volumes : List Float
  pub centroids : List (List Float)
  pub weights : List Float
  pub passive : List Bool
  pub mirrors : List (List Float)

-- the lists that are lent, with the one of held elements, which has no numbers; and as they are left
abbrev pub lists_of : Handed → List Bool → Lists
lists_of l passive = record { volumes = l.volumes.now; centroids = l.centroids.now; weights = l.weights.now; passive = passive; mirrors = l.mirrors.now }

abbrev pub left : List Float → List (List Float) → List Float → List Bool → List (List Float) → Lists
left volumes centroids weights passive mirrors = record { volumes = volumes; centroids = centroids; weights = weights; passive = passive; mirrors = mirrors }

-- one of them has too few places for n elements and k planes
unfoldable pub too_short : Lists → ℕ → ℕ → Bool
too_short l n k = ltb (length l.volumes) n || ltb (length l.centroids) n || ltb (length l.weights) n || ltb (length l.mirrors) k

-- "per element volume, x, y, z, weight, held flag"; planes "each point then normal"
unfoldable pub filled : List ℕ → ℕ → ℕ → Lists → Lists
filled bytes n k l =
    record {
      volumes = overwrite (λ e. of_bits binary64 (number_at bytes (element_at k e))) n l.volumes;
      centroids = overwrite (λ e. point_of (point_at bytes (element_at k e + 3))) n l.centroids;
      weights = overwrite (λ e. of_bits binary64 (number_at bytes (element_at k e + 12))) n l.weights;
      passive = overwrite (λ e. flag_at bytes (element_at k e + 15)) n l.passive;
      mirrors = overwrite (λ i. plane_of (plane_at bytes (mirror_at i))) k l.mirrors;
    }

-- whether a strip can be loaded: it is well formed, and every list is long enough
abbrev pub loads : List ℕ → Patterns → Lists → Bool
loads bytes p l = accepted bytes && not (short p (elements_of bytes) (mirrors_of bytes)) && not (too_short l (elements_of bytes) (mirrors_of bytes))

-- whether it was loaded, and where it was, the lists
pub record Loaded (bytes : List ℕ) (p : Patterns) (l : Lists) (r : Bool) (l' : Lists) : Type 0 where
  pub said : r ≡ loads bytes p l
  pub lists : r ≡ true → l' ≡ filled bytes (elements_of bytes) (mirrors_of bytes) l
