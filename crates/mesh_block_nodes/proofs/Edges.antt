-- What the list of the edges met holds: each edge once, at its place, and each a step between corners of the box. Kept by each edge. Assumes nothing.
use mathlib.Core.Path.{◌≡◌, refl, sym, ap, ◌∙◌, subst}
use mathlib.Core.Bool.{Bool, true, false}
use mathlib.Core.List.{List, [], ◌∷◌, ◌++◌}
use mathlib.Core.Logic.{⊎_elim}
use Prim.Native.Nat.{ℕ, zero, suc, ◌+◌, ◌-◌, ◌≤◌, ◌<◌}
use native.Mathlib.Omega.{arith}
use native.Mathlib.Nat.{not-suc-le-zero, le_of_suc-le-suc, eq-or-lt_of_le}
use borrow.Author.Tests.{lt-ltb}
use lib.ListN.{length, get_or, get_or-append}
use lib.Seq.{get_or-append_seam}
use Rattle.lists.specs.Lists.{choose, fold_to}
use Rattle.mesh_lattice.specs.declared.Grid.{Grid}
use Rattle.mesh_lattice.specs.Lattice.{tets_in, Edge, sides_of, place_in, met_before, meet, meet_all, edges_to, edges_in}
use Rattle.mesh_lattice.specs.Bounds.{Positive}
use Rattle.mesh_lattice.proofs.Edges.{same, same-eq, value-met, value-new, meet-met, meet-new, meet-has, Keeps, all-keeps, edges-keep, length_more}
use Rattle.mesh_block_nodes.proofs.Sides.{Step, AllSteps, none, more, sides_steps}

-- ---- the edge at a place

pub place_found : (x : Edge) (l : List Edge) → place_in x l < length l → get_or l (place_in x l) (0, 0) ≡ x
unfolding place_in choose
place_found x [] h = absurd (not-suc-le-zero h)
place_found x (y ∷ l) h = go (same x y) refl h (place_found x l)
  where
    go : (t : Bool) → same x y ≡ t → choose t 0 (suc (place_in x l)) < suc (length l) → (place_in x l < length l → get_or l (place_in x l) (0, 0) ≡ x) → get_or (y ∷ l) (choose t 0 (suc (place_in x l))) (0, 0) ≡ x
    go true e h i = sym (same-eq x y e)
    go false e h i = i (le_of_suc-le-suc h)

-- ---- each once, and each a step

pub record Steps (g : Grid) (l : List Edge) : Type 0 where
  pub once : (k : ℕ) → k < length l → place_in (get_or l k (0, 0)) l ≡ k
  pub step : (k : ℕ) → k < length l → Step g (get_or l k (0, 0))

module _ (g : Grid) (l : List Edge) (x : Edge) (s : Steps g l) (v : Step g x) where
  abbrev longer : List Edge
  longer = l ++ (x ∷ [])

  before : (k : ℕ) → k < length l → get_or longer k (0, 0) ≡ get_or l k (0, 0)
  before k h = get_or-append l (x ∷ []) (0, 0) k h

  new : get_or longer (length l) (0, 0) ≡ x
  new = get_or-append_seam l x [] (0, 0)

  module _ (e : met_before x l ≡ false) where
    kept : Keeps l longer
    unfolding meet_all
    kept = subst (Keeps l) (meet-new l x e) (all-keeps l (x ∷ []))

    new-place : place_in x longer ≡ length l
    new-place = omega (arith, value-met g longer x (subst (λ (m : List Edge). met_before x m ≡ true) (meet-new l x e) (meet-has l x)), value-new g l x e)

    -- by whether a place is the last
    at : (P : ℕ → Type 0) → ((k : ℕ) → k < length l → P k) → P (length l) → (k : ℕ) → k < length longer → P k
    at P old last k h =
        ⊎_elim
        (λ (z : k ≡ length l). subst P (sym z) last)
        (λ (b : k < length l). old k b)
        (eq-or-lt_of_le (omega (arith, length_more x l)))

    one_more : Steps g longer
    one_more =
        record {
          once = at (λ k. place_in (get_or longer k (0, 0)) longer ≡ k)
              (λ k b. ap (λ (y : Edge). place_in y longer) (before k b) ∙ kept.place (get_or l k (0, 0)) (lt-ltb (place_in (get_or l k (0, 0)) l) (length l) (omega (arith, s.once k b))) ∙ s.once k b)
              (ap (λ (y : Edge). place_in y longer) new ∙ new-place);
          step = at (λ k. Step g (get_or longer k (0, 0)))
              (λ k b. subst (Step g) (sym (before k b)) (s.step k b))
              (subst (Step g) (sym new) v);
        }

  meet_steps : Steps g (meet l x)
  meet_steps = go (met_before x l) refl
    where
      go : (t : Bool) → met_before x l ≡ t → Steps g (meet l x)
      go true e = subst (Steps g) (sym (meet-met l x e)) s
      go false e = subst (Steps g) (sym (meet-new l x e)) (one_more e)

all_steps : (g : Grid) (xs l : List Edge) → Steps g l → AllSteps g xs → Steps g (meet_all l xs)
unfolding meet_all
all_steps g [] l s none = s
all_steps g (x ∷ xs) l s (more v vs) = all_steps g xs (meet l x) (meet_steps g l x s v) vs

steps-to : (g : Grid) (n : ℕ) → Positive g → n ≤ tets_in g → Steps g (edges_to g n)
unfolding edges_to fold_to
steps-to g zero p h = record { once = λ k b. absurd (not-suc-le-zero b); step = λ k b. absurd (not-suc-le-zero b) }
steps-to g (suc n) p h = all_steps g (sides_of g n) (edges_to g n) (steps-to g n p (omega arith)) (sides_steps g n p (omega arith))

pub edges_steps : (g : Grid) → Positive g → Steps g (edges_in g)
edges_steps g p = steps-to g (tets_in g) p (omega arith)

-- ---- each side of a tetrahedron is met

pub data Member (x : Edge) : List Edge → Type 0 where
  here : {xs : List Edge} → Member x (x ∷ xs)
  there : {y : Edge} {xs : List Edge} → Member x xs → Member x (y ∷ xs)

member-met : (x : Edge) (xs l : List Edge) → Member x xs → met_before x (meet_all l xs) ≡ true
unfolding meet_all
member-met x [] l h = elim h [ ]
member-met x (y ∷ xs) l here = (all-keeps (meet l x) xs).met x (meet-has l x)
member-met x (y ∷ xs) l (there m) = member-met x xs (meet l y) m

pub side-met : (g : Grid) (e : ℕ) (x : Edge) → e < tets_in g → Member x (sides_of g e) → met_before x (edges_in g) ≡ true
unfolding edges_to fold_to
side-met g e x h m =
    let z : suc e + (tets_in g - suc e) ≡ tets_in g = omega arith in
    subst (λ (n : ℕ). met_before x (edges_to g n) ≡ true) z ((edges-keep g (suc e) (tets_in g - suc e)).met x (member-met x (sides_of g e) (edges_to g e) m))
