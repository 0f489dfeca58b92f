-- What the code has filed is the list of the edges met. Kept by each edge that is looked up, and so by a tetrahedron's six. Assumes nothing.
use mathlib.Core.Path.{◌≡◌, refl, sym, ap, ◌∙◌, subst}
use mathlib.Core.Bool.{Bool, true, false}
use mathlib.Core.List.{List, [], ◌∷◌, ◌++◌, map}
use Prim.Native.Nat.{ℕ, ◌+◌, ◌-◌, ◌≤◌, ◌<◌}
use native.Mathlib.Omega.{arith}
use borrow.Author.Tests.{eq-eqb, ne_eqb, lt-ltb, le-ltb, ltb-false}
use lib.ListN.{length, get_or, set, length-set, get_or-append}
use lib.Seq.{get_or-set_same, get_or-set_other, get_or-append_seam}
use lib.Dec.{eqb, ltb}
use lib.Ieee.{Float}
use Rattle.lists.specs.Lists.{choose, overwrite}
use Rattle.lists.proofs.Laws.{choose-true, choose-false, overwrite-same, get_or-overwrite-below, overwrite-set}
use Rattle.geom.specs.Vectors.{plus, scaled}
use Rattle.geom.specs.Points.{stored, point}
use Rattle.mesh_lattice.specs.declared.Grid.{Grid}
use Rattle.mesh_lattice.specs.Lattice.{Edge, half64, corners_in, slots_in, corner_place, middle_place, place_in, met_before, meet, meet_all, node_with}
use Rattle.mesh_lattice.specs.Filing.{index_in, strides, slot_of, Filing, between, looked, looked_all}
use Rattle.mesh_lattice.proofs.Ways.{Valid, AllValid, index-found}
use Rattle.mesh_lattice.proofs.Ways as Ways
use Rattle.mesh_lattice.proofs.Edges.{same, same-eq, same_refl, value_of, value-met, value_not, value-new, value-other, meet-met, meet-new, meet-has, all-keeps, length_more}
use Rattle.mesh_lattice.proofs.Lists.{overwrite-one}

-- ---- the table's places

-- two edges have different places
pub slot_inj : (g : Grid) (x y : Edge) → Valid g x → Valid g y → slot_of g x ≡ slot_of g y → x ≡ y
unfolding slot_of
slot_inj g x y v w e =
    let a : x.0 ≡ y.0 = omega (arith, v.stride, w.stride) in
    let b : index_in (x.1 - x.0) (strides g) ≡ index_in (y.1 - y.0) (strides g) = omega (arith, v.stride, w.stride) in
    let d : x.1 - x.0 ≡ y.1 - y.0 = sym (index-found (strides g) (x.1 - x.0) v.stride) ∙ ap (λ (k : ℕ). get_or (strides g) k 0) b ∙ index-found (strides g) (y.1 - y.0) w.stride in
    let c : x.1 ≡ y.1 = omega (arith, v.low, w.low) in
    λ i. (a i, c i)

pub slot_lt : (g : Grid) (x : Edge) → Valid g x → slot_of g x < slots_in g
unfolding slot_of
slot_lt g x v = omega (arith, v.low, v.high, v.stride)

-- ---- one edge

-- the state after a new edge
abbrev pub grown : Grid → Filing → Edge → Filing
grown g s x = record { nodes = set s.nodes s.next (stored (between s.nodes x)); edges = set s.edges (slot_of g x) s.next; next = s.next + 1 }

pub look-old : (g : Grid) (s : Filing) (x : Edge) → 0 < get_or s.edges (slot_of g x) 0 → looked g s x ≡ s
unfolding looked
look-old g s x h = choose-false _ (grown g s x) s (ne_eqb (get_or s.edges (slot_of g x) 0) 0 (λ (z : get_or s.edges (slot_of g x) 0 ≡ 0). omega arith))

pub look-new : (g : Grid) (s : Filing) (x : Edge) → get_or s.edges (slot_of g x) 0 ≤ 0 → looked g s x ≡ grown g s x
unfolding looked
look-new g s x h =
    let z : get_or s.edges (slot_of g x) 0 ≡ 0 = omega arith in
    choose-true _ (grown g s x) s (eq-eqb (get_or s.edges (slot_of g x) 0) 0 z)

-- one edge before others
pub look_then : (g : Grid) (s t u : Filing) (x : Edge) (xs : List Edge) (m : ℕ) (ms : List ℕ) → t ≡ looked g s x → m ≡ get_or t.edges (slot_of g x) 0
    → ◌≡◌ {A = Filing × List ℕ} (u, ms) (looked_all g t xs) → ◌≡◌ {A = Filing × List ℕ} (u, m ∷ ms) (looked_all g s (x ∷ xs))
unfolding looked_all
look_then g s t u x xs m ms e n r =
    let rest : ◌≡◌ {A = Filing × List ℕ} (u, ms) (looked_all g (looked g s x) xs) = r ∙ ap (λ (v : Filing). looked_all g v xs) e in
    let number : m ≡ get_or (looked g s x).edges (slot_of g x) 0 = n ∙ ap (λ (v : Filing). get_or v.edges (slot_of g x) 0) e in
    λ i. ((rest i).0, number i ∷ (rest i).1)

pub look_none : (g : Grid) (s : Filing) → ◌≡◌ {A = Filing × List ℕ} (s, []) (looked_all g s [])
unfolding looked_all
look_none g s = refl

-- what edges that are looked up keep: the lists' lengths, and a bound of the next number
pub record Kept (k : ℕ) (s t : Filing) : Type 0 where
  pub nodes-long : length t.nodes ≡ length s.nodes
  pub edges-long : length t.edges ≡ length s.edges
  pub few : t.next ≤ s.next + k

look-keeps : (g : Grid) (s : Filing) (x : Edge) → Kept 1 s (looked g s x)
unfolding looked choose
look-keeps g s x = go (eqb (get_or s.edges (slot_of g x) 0) 0)
  where
    go : (t : Bool) → Kept 1 s (choose t (grown g s x) s)
    go true =
        record {
          nodes-long = length-set s.nodes s.next (stored (between s.nodes x));
          edges-long = length-set s.edges (slot_of g x) s.next;
          few = omega arith;
        }
    go false = record { nodes-long = refl; edges-long = refl; few = omega arith }

pub keeps-one : (g : Grid) (s t : Filing) (x : Edge) → t ≡ looked g s x → Kept 1 s t
keeps-one g s t x e = subst (Kept 1 s) (sym e) (look-keeps g s x)

pub keeps-more : (g : Grid) (k : ℕ) (r s t : Filing) (x : Edge) → Kept k r s → t ≡ looked g s x → Kept (k + 1) r t
keeps-more g k r s t x h e =
    let one = keeps-one g s t x e in
    record { nodes-long = one.nodes-long ∙ h.nodes-long; edges-long = one.edges-long ∙ h.edges-long; few = omega (arith, one.few, h.few) }

-- ---- the nodes

pub node-corner : (g : Grid) (l : List Edge) (k : ℕ) → k < corners_in g → node_with g l k ≡ stored (corner_place g k)
unfolding node_with
node-corner g l k h = choose-true (ltb k (corners_in g)) _ _ (lt-ltb k (corners_in g) h)

node-middle : (g : Grid) (l : List Edge) (x : Edge) → node_with g (l ++ x ∷ []) (corners_in g + length l) ≡ stored (middle_place g x)
unfolding node_with
node-middle g l x =
    let past : ltb (corners_in g + length l) (corners_in g) ≡ false = le-ltb (corners_in g + length l) (corners_in g) (omega arith) in
    let at : corners_in g + length l - corners_in g ≡ length l = omega arith in
    choose-false (ltb (corners_in g + length l) (corners_in g)) _ _ past
    ∙ ap (λ (y : Edge). stored (middle_place g y)) (ap (λ (k : ℕ). get_or (l ++ x ∷ []) k (0, 0)) at ∙ get_or-append_seam l x [] (0, 0))

-- an edge more changes no node before
node-before : (g : Grid) (l : List Edge) (x : Edge) (k : ℕ) → k < corners_in g + length l → node_with g l k ≡ node_with g (l ++ x ∷ []) k
unfolding node_with
node-before g l x k h = go (ltb k (corners_in g)) refl
  where
    go : (t : Bool) → ltb k (corners_in g) ≡ t
        → choose (ltb k (corners_in g)) (stored (corner_place g k)) (stored (middle_place g (get_or l (k - corners_in g) (0, 0))))
        ≡ choose (ltb k (corners_in g)) (stored (corner_place g k)) (stored (middle_place g (get_or (l ++ x ∷ []) (k - corners_in g) (0, 0))))
    go true e = choose-true (ltb k (corners_in g)) _ _ e ∙ sym (choose-true (ltb k (corners_in g)) _ _ e)
    go false e =
        let b : corners_in g ≤ k = ltb-false k (corners_in g) e in
        ap (λ (y : Edge). choose (ltb k (corners_in g)) (stored (corner_place g k)) (stored (middle_place g y))) (sym (get_or-append l (x ∷ []) (0, 0) (k - corners_in g) (omega arith)))

-- ---- what is filed

pub record Filed (g : Grid) (nodes : List (List Float)) (edges : List ℕ) (l : List Edge) (s : Filing) : Type 0 where
  pub next-is : s.next ≡ corners_in g + length l
  pub nodes-are : s.nodes ≡ overwrite (node_with g l) (corners_in g + length l) nodes
  pub table : (x : Edge) → Valid g x → get_or s.edges (slot_of g x) 0 ≡ value_of g l x
  pub long : length s.edges ≡ length edges
  pub rest : overwrite (λ k. 0) (slots_in g) s.edges ≡ overwrite (λ k. 0) (slots_in g) edges

module _ (g : Grid) (nodes : List (List Float)) (edges : List ℕ) (some : 0 < corners_in g) (fit : corners_in g ≤ length nodes) (room : slots_in g ≤ length edges) where
  stored-corner : (l : List Edge) (s : Filing) → Filed g nodes edges l s → (k : ℕ) → k < corners_in g → point (get_or s.nodes k []) ≡ corner_place g k
  stored-corner l s f k h =
      ap point (ap (λ (t : List (List Float)). get_or t k []) f.nodes-are ∙ get_or-overwrite-below (node_with g l) (corners_in g + length l) nodes k [] (omega arith) (omega arith) ∙ node-corner g l k h)

  grows : (l : List Edge) (s : Filing) (x : Edge) → Filed g nodes edges l s → Valid g x → met_before x l ≡ false → Filed g nodes edges (l ++ x ∷ []) (grown g s x)
  grows l s x f v e =
      record {
        next-is = rw (length_more x l) (omega (arith, f.next-is));
        nodes-are = nodes-are;
        table = table;
        long = length-set s.edges (slot_of g x) s.next ∙ f.long;
        rest = overwrite-set (λ k. 0) (slots_in g) s.edges (slot_of g x) s.next (slot_lt g x v) ∙ f.rest;
      }
    where
      n : ℕ
      n = corners_in g + length l

      middle : between s.nodes x ≡ middle_place g x
      middle = λ i. scaled (plus (stored-corner l s f x.0 (omega (arith, v.low, v.high)) i) (stored-corner l s f x.1 v.high i)) half64

      nodes-are : set s.nodes s.next (stored (between s.nodes x)) ≡ overwrite (node_with g (l ++ x ∷ [])) (corners_in g + length (l ++ x ∷ [])) nodes
      nodes-are =
          (λ i. set ((f.nodes-are ∙ overwrite-same (node_with g l) (node_with g (l ++ x ∷ [])) n nodes (node-before g l x)) i) (f.next-is i) ((ap stored middle ∙ sym (node-middle g l x)) i))
          ∙ overwrite-one (node_with g (l ++ x ∷ [])) n nodes
          ∙ ap (λ (k : ℕ). overwrite (node_with g (l ++ x ∷ [])) k nodes) (rw (length_more x l) (omega arith))

      table : (y : Edge) → Valid g y → get_or (set s.edges (slot_of g x) s.next) (slot_of g y) 0 ≡ value_of g (l ++ x ∷ []) y
      table y w = go (same y x) refl
        where
          go : (t : Bool) → same y x ≡ t → get_or (set s.edges (slot_of g x) s.next) (slot_of g y) 0 ≡ value_of g (l ++ x ∷ []) y
          go true q =
              subst (λ (z : Edge). get_or (set s.edges (slot_of g x) s.next) (slot_of g z) 0 ≡ value_of g (l ++ x ∷ []) z) (sym (same-eq y x q))
              (get_or-set_same s.edges (slot_of g x) s.next 0 (omega (arith, slot_lt g x v, f.long)) ∙ f.next-is ∙ sym (value-new g l x e))
          go false q =
              get_or-set_other s.edges (slot_of g x) (slot_of g y) s.next 0 (λ z. differ z q)
              ∙ f.table y w
              ∙ sym (value-other g l y x q)
            where
              differ : slot_of g y ≡ slot_of g x → same y x ≡ false → ⊥
              differ z q =
                  let p : y ≡ x = slot_inj g y x w v z in
                  let r : same y x ≡ true = subst (λ (u : Edge). same u x ≡ true) (sym p) (same_refl x) in
                  let no : ◌≡◌ {A = ℕ} 0 1 = cc in
                  omega arith

  -- one edge looked up
  pub look_files : (l : List Edge) (s : Filing) (x : Edge) → Filed g nodes edges l s → Valid g x → Filed g nodes edges (meet l x) (looked g s x)
  look_files l s x f v = go (met_before x l) refl
    where
      go : (t : Bool) → met_before x l ≡ t → Filed g nodes edges (meet l x) (looked g s x)
      go true e =
          let value : get_or s.edges (slot_of g x) 0 ≡ corners_in g + place_in x l = f.table x v ∙ value-met g l x e in
          subst (λ (m : List Edge). Filed g nodes edges m (looked g s x)) (sym (meet-met l x e)) (subst (Filed g nodes edges l) (sym (look-old g s x (omega arith))) f)
      go false e =
          let value : get_or s.edges (slot_of g x) 0 ≡ 0 = f.table x v ∙ value_not g l x e in
          subst (λ (m : List Edge). Filed g nodes edges m (looked g s x)) (sym (meet-new l x e)) (subst (Filed g nodes edges (l ++ x ∷ [])) (sym (look-new g s x (omega arith))) (grows l s x f v e))

  -- some edges looked up, with the number of each
  pub record FiledAll (l xs : List Edge) (r : Filing × List ℕ) : Type 0 where
    pub filing : Filed g nodes edges (meet_all l xs) r.0
    pub numbers : r.1 ≡ map (λ x. corners_in g + place_in x (meet_all l xs)) xs

  pub all_file : (xs l : List Edge) (s : Filing) → Filed g nodes edges l s → AllValid g xs → FiledAll l xs (looked_all g s xs)
  unfolding looked_all meet_all
  all_file [] l s f Ways.none = record { filing = f; numbers = refl }
  all_file (x ∷ xs) l s f (Ways.more v vs) =
      let one = look_files l s x f v in
      let rest = all_file xs (meet l x) (looked g s x) one vs in
      let head : get_or (looked g s x).edges (slot_of g x) 0 ≡ corners_in g + place_in x (meet_all (meet l x) xs) =
      one.table x v ∙ value-met g (meet l x) x (meet-has l x) ∙ ap (λ (k : ℕ). corners_in g + k) (sym ((all-keeps (meet l x) xs).place x (meet-has l x))) in
      record { filing = rest.filing; numbers = λ i. head i ∷ rest.numbers i }
