-- The edges met: where an edge stands among them, and that it stays there. By recursion on the lists. Assumes nothing.
use mathlib.Core.Path.{◌≡◌, refl, sym, ap, ◌∙◌, subst}
use mathlib.Core.Bool.{Bool, true, false, ◌&&◌}
use mathlib.Core.List.{List, [], ◌∷◌, ◌++◌, map}
use Prim.Native.Nat.{ℕ, zero, suc, ◌+◌, ◌*◌, ◌≤◌, ◌<◌, zero-le}
use native.Mathlib.Omega.{arith}
use native.Mathlib.Nat.{not-suc-le-zero, le_of_suc-le-suc}
use borrow.Author.Tests.{eq-eqb, eqb-true, lt-ltb, le-ltb, ltb-true, ltb-false}
use lib.ListN.{length, length-append}
use lib.Dec.{eqb}
use Rattle.lists.specs.Lists.{choose, fold_to}
use Rattle.lists.proofs.Laws.{choose-true, choose-false, both}
use Rattle.mesh_lattice.specs.declared.Grid.{Grid}
use Rattle.mesh_lattice.specs.Lattice.{Edge, corners_in, sides_of, place_in, met_before, meet, meet_all, edges_to}

-- ---- the same edge

abbrev pub same : Edge → Edge → Bool
same x y = eqb x.0 y.0 && eqb x.1 y.1

pub same-eq : (x y : Edge) → same x y ≡ true → x ≡ y
same-eq x y e =
    let b = both (eqb x.0 y.0) (eqb x.1 y.1) e in
    λ i. (eqb-true x.0 y.0 b.0 i, eqb-true x.1 y.1 b.1 i)

pub same_refl : (x : Edge) → same x x ≡ true
same_refl x = rw (eq-eqb x.0 x.0 refl, eq-eqb x.1 x.1 refl)

-- ---- one edge more

-- an edge that was met keeps its place
place-keeps : (x y : Edge) (l : List Edge) → place_in x l < length l → place_in x (l ++ y ∷ []) ≡ place_in x l
unfolding place_in choose
place-keeps x y [] h = absurd (not-suc-le-zero h)
place-keeps x y (z ∷ l) h = go (same x z) h (place-keeps x y l)
  where
    go : (t : Bool) → choose t 0 (suc (place_in x l)) < suc (length l) → (place_in x l < length l → place_in x (l ++ y ∷ []) ≡ place_in x l)
        → choose t 0 (suc (place_in x (l ++ y ∷ []))) ≡ choose t 0 (suc (place_in x l))
    go true h i = refl
    go false h i = ap suc (i (le_of_suc-le-suc h))

-- a new edge takes the next place
place-new : (x y : Edge) (l : List Edge) → length l ≤ place_in x l → same x y ≡ true → place_in x (l ++ y ∷ []) ≡ length l
unfolding place_in choose
place-new x y [] h e = choose-true (same x y) 0 1 e
place-new x y (z ∷ l) h e = go (same x z) h (place-new x y l)
  where
    go : (t : Bool) → suc (length l) ≤ choose t 0 (suc (place_in x l)) → (length l ≤ place_in x l → same x y ≡ true → place_in x (l ++ y ∷ []) ≡ length l)
        → choose t 0 (suc (place_in x (l ++ y ∷ []))) ≡ suc (length l)
    go true h i = absurd (not-suc-le-zero h)
    go false h i = ap suc (i (le_of_suc-le-suc h) e)

-- and another that was not met is still not met
place_other : (x y : Edge) (l : List Edge) → length l ≤ place_in x l → same x y ≡ false → place_in x (l ++ y ∷ []) ≡ suc (length l)
unfolding place_in choose
place_other x y [] h e = choose-false (same x y) 0 1 e
place_other x y (z ∷ l) h e = go (same x z) h (place_other x y l)
  where
    go : (t : Bool) → suc (length l) ≤ choose t 0 (suc (place_in x l)) → (length l ≤ place_in x l → same x y ≡ false → place_in x (l ++ y ∷ []) ≡ suc (length l))
        → choose t 0 (suc (place_in x (l ++ y ∷ []))) ≡ suc (suc (length l))
    go true h i = absurd (not-suc-le-zero h)
    go false h i = ap suc (i (le_of_suc-le-suc h) e)

pub length_more : (y : Edge) (l : List Edge) → length (l ++ y ∷ []) ≡ length l + 1
length_more y l = length-append l (y ∷ [])

-- ---- what the table holds

-- the number of an edge's middle where the edge was met, and 0 elsewhere
unfoldable pub value_of : Grid → List Edge → Edge → ℕ
value_of g l x = choose (met_before x l) (corners_in g + place_in x l) 0

pub value-met : (g : Grid) (l : List Edge) (x : Edge) → met_before x l ≡ true → value_of g l x ≡ corners_in g + place_in x l
unfolding value_of
value-met g l x e = choose-true (met_before x l) (corners_in g + place_in x l) 0 e

pub value_not : (g : Grid) (l : List Edge) (x : Edge) → met_before x l ≡ false → value_of g l x ≡ 0
unfolding value_of
value_not g l x e = choose-false (met_before x l) (corners_in g + place_in x l) 0 e

met-keeps : (x y : Edge) (l : List Edge) → met_before x l ≡ true → met_before x (l ++ y ∷ []) ≡ true
met-keeps x y l e =
    let h = ltb-true (place_in x l) (length l) e in
    lt-ltb (place_in x (l ++ y ∷ [])) (length (l ++ y ∷ [])) (rw (place-keeps x y l h, length_more y l) (omega arith))

-- the new edge's value
pub value-new : (g : Grid) (l : List Edge) (x : Edge) → met_before x l ≡ false → value_of g (l ++ x ∷ []) x ≡ corners_in g + length l
value-new g l x e =
    let p = place-new x x l (ltb-false (place_in x l) (length l) e) (same_refl x) in
    value-met g (l ++ x ∷ []) x (lt-ltb (place_in x (l ++ x ∷ [])) (length (l ++ x ∷ [])) (rw (p, length_more x l) (omega arith)))
    ∙ ap (λ (n : ℕ). corners_in g + n) p

-- the others' values
pub value-other : (g : Grid) (l : List Edge) (x y : Edge) → same x y ≡ false → value_of g (l ++ y ∷ []) x ≡ value_of g l x
value-other g l x y e = go (met_before x l) refl
  where
    go : (t : Bool) → met_before x l ≡ t → value_of g (l ++ y ∷ []) x ≡ value_of g l x
    go true m =
        value-met g (l ++ y ∷ []) x (met-keeps x y l m)
        ∙ ap (λ (n : ℕ). corners_in g + n) (place-keeps x y l (ltb-true (place_in x l) (length l) m))
        ∙ sym (value-met g l x m)
    go false m =
        let p = place_other x y l (ltb-false (place_in x l) (length l) m) e in
        value_not g (l ++ y ∷ []) x (le-ltb (place_in x (l ++ y ∷ [])) (length (l ++ y ∷ [])) (rw (p, length_more y l) (omega arith)))
        ∙ sym (value_not g l x m)

-- ---- meeting

pub meet-met : (l : List Edge) (x : Edge) → met_before x l ≡ true → meet l x ≡ l
unfolding meet
meet-met l x e = choose-true (met_before x l) l (l ++ x ∷ []) e

pub meet-new : (l : List Edge) (x : Edge) → met_before x l ≡ false → meet l x ≡ l ++ x ∷ []
unfolding meet
meet-new l x e = choose-false (met_before x l) l (l ++ x ∷ []) e

-- every edge of l is met in m, at the same place
pub record Keeps (l m : List Edge) : Type 0 where
  pub met : (x : Edge) → met_before x l ≡ true → met_before x m ≡ true
  pub place : (x : Edge) → met_before x l ≡ true → place_in x m ≡ place_in x l

pub keeps_same : (l : List Edge) → Keeps l l
keeps_same l = record { met = λ x e. e; place = λ x e. refl }

pub keeps_on : (l m n : List Edge) → Keeps l m → Keeps m n → Keeps l n
keeps_on l m n a b = record { met = λ x e. b.met x (a.met x e); place = λ x e. b.place x (a.met x e) ∙ a.place x e }

meet-keeps : (l : List Edge) (y : Edge) → Keeps l (meet l y)
meet-keeps l y = go (met_before y l) refl
  where
    go : (t : Bool) → met_before y l ≡ t → Keeps l (meet l y)
    go true e = subst (Keeps l) (sym (meet-met l y e)) (keeps_same l)
    go false e =
        subst (Keeps l) (sym (meet-new l y e))
        (record { met = λ x m. met-keeps x y l m; place = λ x m. place-keeps x y l (ltb-true (place_in x l) (length l) m) })

pub meet-has : (l : List Edge) (x : Edge) → met_before x (meet l x) ≡ true
meet-has l x = go (met_before x l) refl
  where
    go : (t : Bool) → met_before x l ≡ t → met_before x (meet l x) ≡ true
    go true e = rw (meet-met l x e) e
    go false e =
        rw (meet-new l x e)
        (lt-ltb (place_in x (l ++ x ∷ [])) (length (l ++ x ∷ [])) (rw (place-new x x l (ltb-false (place_in x l) (length l) e) (same_refl x), length_more x l) (omega arith)))

pub all-keeps : (l xs : List Edge) → Keeps l (meet_all l xs)
unfolding meet_all
all-keeps l [] = keeps_same l
all-keeps l (x ∷ xs) = keeps_on l (meet l x) (meet_all (meet l x) xs) (meet-keeps l x) (all-keeps (meet l x) xs)

pub edges-keep : (g : Grid) (n k : ℕ) → Keeps (edges_to g n) (edges_to g (n + k))
unfolding edges_to fold_to
edges-keep g n zero =
    let e : n ≡ n + 0 = omega arith in subst (λ (m : ℕ). Keeps (edges_to g n) (edges_to g m)) e (keeps_same (edges_to g n))
edges-keep g n (suc k) =
    let e : suc (n + k) ≡ n + suc k = omega arith in
    subst (λ (m : ℕ). Keeps (edges_to g n) (edges_to g m)) e
    (keeps_on (edges_to g n) (edges_to g (n + k)) (edges_to g (suc (n + k))) (edges-keep g n k) (all-keeps (edges_to g (n + k)) (sides_of g (n + k))))

later : (c : ℕ) (m xs l a : List Edge) → Keeps (meet_all l xs) a → Keeps a m → map (λ x. c + place_in x a) xs ≡ map (λ x. c + place_in x m) xs
unfolding meet_all
later c m [] l a k h = refl
later c m (x ∷ xs) l a k h =
    let has : met_before x a ≡ true = k.met x ((all-keeps (meet l x) xs).met x (meet-has l x)) in
    let rest : map (λ x. c + place_in x a) xs ≡ map (λ x. c + place_in x m) xs = later c m xs (meet l x) a k h in
    λ i. (c + sym (h.place x has) i) ∷ rest i

-- the places of edges that are all met may be read off a later list
pub places-later : (c : ℕ) (xs l m : List Edge) → Keeps (meet_all l xs) m → map (λ x. c + place_in x (meet_all l xs)) xs ≡ map (λ x. c + place_in x m) xs
places-later c xs l m k = later c m xs l (meet_all l xs) (keeps_same (meet_all l xs)) k

-- ---- how many there are

meet-few : (l : List Edge) (x : Edge) → length (meet l x) ≤ length l + 1
unfolding meet choose
meet-few l x = go (met_before x l)
  where
    go : (t : Bool) → length (choose t l (l ++ x ∷ [])) ≤ length l + 1
    go true = omega arith
    go false = omega (arith, length_more x l)

pub all-few : (l xs : List Edge) → length (meet_all l xs) ≤ length l + length xs
unfolding meet_all
all-few l [] = omega arith
all-few l (x ∷ xs) = omega (arith, meet-few l x, all-few (meet l x) xs)

pub edges_few : (g : Grid) (n : ℕ) → length (edges_to g n) ≤ 6 * n
unfolding edges_to fold_to sides_of
edges_few g zero = zero-le
edges_few g (suc n) = omega (arith, all-few (edges_to g n) (sides_of g n), edges_few g n)
