-- region.rs, `asymmetry`: the call, over the distance of crate region_farthest. Definitions only.
use Rattle.std.specs.Prelude.{ℕ, zero, suc, ◌≡◌, Bool, ◌||◌, List, length, ltb, Float, Result, Ok, Err}
use Rattle.lists.specs.Lists.{choose}
use Rattle.geom.specs.declared.Mirror.{Mirror}
use Rattle.geom.specs.Points.{flat}
use Rattle.lent.specs.Domain.{plane_bad}
use Rattle.lent.specs.Lent.{WorkedBy}
use Rattle.region_checks.specs.Boundary as Boundary
use Rattle.region_farthest.specs.Farthest.{asymmetry_of}

-- the lists that it works in: one place a triangle, and in the last one a node
pub record Lent : Type 0 where
  pub faces : List (List Float)
  pub kx : List ℕ
  pub ky : List ℕ
  pub kz : List ℕ
  pub order : List ℕ
  pub scratch : List ℕ
  pub boxes : List (List Float)
  pub seen : List Bool

abbrev pub lent : List (List Float) → List ℕ → List ℕ → List ℕ → List ℕ → List ℕ → List (List Float) → List Bool → Lent
lent faces kx ky kz order scratch boxes seen =
    record { faces = faces; kx = kx; ky = ky; kz = kz; order = order; scratch = scratch; boxes = boxes; seen = seen }

-- 14: "a lent list shorter than needed", with n triangles and m nodes
unfoldable pub too_short : ℕ → ℕ → Lent → Bool
too_short n m l =
    ((((((ltb (length l.faces) n || ltb (length l.kx) n) || ltb (length l.ky) n) || ltb (length l.kz) n)
    || ltb (length l.order) n) || ltb (length l.scratch) n) || ltb (length l.boxes) n)
    || ltb (length l.seen) m

-- 3, 21, 9, 11, 14 in this order, 0 where nothing is refused
unfoldable pub refusal_of : List (List Float) → List (List ℕ) → Mirror → Bool → ℕ
refusal_of nodes tris m short = Boundary.refusal_of 0 nodes tris (choose (plane_bad (flat m)) 11 (choose short 14 0))

-- the answer, case by case: 01's number, or the distance
unfoldable pub answer_of : ℕ → Float → Result Float ℕ
answer_of zero far = Ok far
answer_of (suc k) far = Err (suc k)

-- what `asymmetry` answers and leaves
module _ (nodes : List (List Float)) (tris : List (List ℕ)) (m : Mirror) (l : Lent) where
  abbrev pub refused : ℕ
  refused = refusal_of nodes tris m (too_short (length tris) (length nodes) l)

  pub record Measured (l' : Lent) (r : Result Float ℕ) : Type 0 where
    pub answer : r ≡ answer_of refused (asymmetry_of nodes tris m)
    pub faces : WorkedBy refused (length tris) l.faces l'.faces
    pub kx : WorkedBy refused (length tris) l.kx l'.kx
    pub ky : WorkedBy refused (length tris) l.ky l'.ky
    pub kz : WorkedBy refused (length tris) l.kz l'.kz
    pub order : WorkedBy refused (length tris) l.order l'.order
    pub scratch : WorkedBy refused (length tris) l.scratch l'.scratch
    pub boxes : WorkedBy refused (length tris) l.boxes l'.boxes
    pub seen : WorkedBy refused (length nodes) l.seen l'.seen
