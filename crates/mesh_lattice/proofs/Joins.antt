-- What `join` has done after e tetrahedra: at the start, a turn, and at the end. Assumes nothing.
use mathlib.Core.Path.{◌≡◌, refl, sym, ap, ◌∙◌, subst}
use mathlib.Core.List.{List, [], ◌∷◌, map}
use Prim.Native.Nat.{ℕ, ◌+◌, ◌-◌, ◌≤◌, ◌<◌}
use native.Mathlib.Omega.{arith}
use lib.ListN.{length, get_or, set}
use lib.Ieee.{Float}
use Rattle.lists.specs.Lists.{overwrite, fold_to}
use Rattle.lists.proofs.Laws.{overwrite-none, overwrite-more, fold_to-more, get_or-overwrite-below, length-overwrite}
use Rattle.mesh_lattice.specs.declared.Grid.{Grid}
use Rattle.mesh_lattice.specs.Lattice.{corners_in, tets_in, slots_in, numbers_of, Edge, sides_between, sides_of, place_in, meet_all, edges_to, edges_in, middle_of, node_with, tet_of}
use Rattle.mesh_lattice.specs.Filing.{Ready, ReadyAll, Filing, looked_all, Joinable, Joined, Roomy, Builds, slot_of}
use Rattle.mesh_lattice.specs.Bounds.{Small}
use Rattle.mesh_lattice.proofs.Ways.{sides_valid}
use Rattle.mesh_lattice.proofs.Edges.{value_not, Keeps, edges-keep, places-later, edges_few}
use Rattle.mesh_lattice.proofs.Lists.{overwrite-over, overwrite-twice, overwrite-again}
use Rattle.mesh_lattice.proofs.Filed.{Filed, FiledAll, all_file, slot_lt}

pub record Joins (g : Grid) (nodes₀ : List (List Float)) (tets₀ : List (List ℕ)) (edges₀ : List ℕ) (e : ℕ) (tets : List (List ℕ)) (s : Filing) : Type 0 where
  pub passed : e ≤ tets_in g
  pub filed : Filed g nodes₀ edges₀ (edges_to g e) s
  pub tets-are : tets ≡ overwrite (tet_of g) e tets₀

-- ---- over plain numbers

abbrev pub six_of : List ℕ → List ℕ
six_of m = get_or m 0 0 ∷ get_or m 1 0 ∷ get_or m 2 0 ∷ get_or m 3 0 ∷ get_or m 4 0 ∷ get_or m 5 0 ∷ []

sides-are : (g : Grid) (e : ℕ) (n : List ℕ) → n ≡ numbers_of g e → sides_between n ≡ sides_of g e
unfolding sides_of
sides-are g e n en = ap sides_between en

tet-is : (g : Grid) (e a b c d : ℕ) (ms : List ℕ) → ◌≡◌ {A = List ℕ} (a ∷ b ∷ c ∷ d ∷ []) (numbers_of g e)
    → ms ≡ map (λ x. corners_in g + place_in x (edges_in g)) (sides_of g e) → a ∷ b ∷ c ∷ d ∷ six_of ms ≡ tet_of g e
unfolding tet_of sides_of middle_of
tet-is g e a b c d ms en em =
    λ i. get_or (en i) 0 0 ∷ get_or (en i) 1 0 ∷ get_or (en i) 2 0 ∷ get_or (en i) 3 0 ∷ six_of (em i)

edges_more : (g : Grid) (e : ℕ) → meet_all (edges_to g e) (sides_of g e) ≡ edges_to g (e + 1)
unfolding edges_to
edges_more g e = fold_to-more (λ e l. meet_all l (sides_of g e)) [] e

-- ---- the loop

module _ (g : Grid) (nodes₀ : List (List Float)) (tets₀ : List (List ℕ)) (edges₀ : List ℕ) (small : Small g) (pre : Joinable g nodes₀ tets₀ edges₀) where
  pub join-start : Joins g nodes₀ tets₀ edges₀ 0 tets₀ (record { nodes = nodes₀; edges = edges₀; next = corners_in g })
  unfolding edges_to fold_to place_in
  join-start =
      record {
        passed = omega arith;
        filed =
            record {
              next-is = omega arith;
              nodes-are = pre.stored-are ∙ ap (λ (n : ℕ). overwrite (node_with g []) n nodes₀) (omega arith);
              table = λ x v. ap (λ (l : List ℕ). get_or l (slot_of g x) 0) pre.empty
                  ∙ get_or-overwrite-below (λ k. 0) (slots_in g) edges₀ (slot_of g x) 0 (slot_lt g x v) (omega (arith, slot_lt g x v, pre.room))
                  ∙ sym (value_not g [] x refl);
              long = refl;
              rest = refl;
            };
        tets-are = sym (overwrite-none (tet_of g) tets₀);
      }

  -- what a turn may count on
  module _ (e : ℕ) (tets : List (List ℕ)) (s : Filing) (j : Joins g nodes₀ tets₀ edges₀ e tets s) where
    pub nodes-long : length s.nodes ≡ length nodes₀
    nodes-long = ap length j.filed.nodes-are ∙ length-overwrite _ _ _

    pub next-few : s.next ≤ 500000
    next-few = omega (arith, j.filed.next-is, edges_few g e, j.passed, small.few, small.corners)

    -- four corners may be looked up
    pub ready : (n : List ℕ) → ((k : ℕ) → k < 4 → get_or n k 0 < corners_in g) → ReadyAll g n s
    ready n h = record { first = two 0 1 (omega arith) (omega arith); second = two 2 3 (omega arith) (omega arith) }
      where
        two : (k l : ℕ) → k < 4 → l < 4 → Ready g (get_or n k 0) (get_or n l 0) 6 s
        two k l hk hl =
            record {
              low = h k hk;
              high = h l hl;
              fit = omega (arith, nodes-long, pre.fit);
              room = omega (arith, j.filed.long, pre.room);
              few = omega (arith, next-few);
            }

    -- tetrahedron e, its corners being a, b, c, d and its middles ms
    pub join-turn : e < tets_in g → (a b c d : ℕ) (t : Filing) (ms : List ℕ) → ◌≡◌ {A = List ℕ} (a ∷ b ∷ c ∷ d ∷ []) (numbers_of g e)
        → ◌≡◌ {A = Filing × List ℕ} (t, ms) (looked_all g s (sides_between (a ∷ b ∷ c ∷ d ∷ [])))
        → Joins g nodes₀ tets₀ edges₀ (e + 1) (set tets e (a ∷ b ∷ c ∷ d ∷ six_of ms)) t
    join-turn here a b c d t ms en looks =
        record {
          passed = omega arith;
          filed = subst (λ (l : List Edge). Filed g nodes₀ edges₀ l t) step all.filing;
          tets-are = (λ i. set (j.tets-are i) e (is_tet i)) ∙ overwrite-more (tet_of g) e tets₀ (omega (arith, pre.places));
        }
      where
        are_sides : sides_between (a ∷ b ∷ c ∷ d ∷ []) ≡ sides_of g e
        are_sides = sides-are g e _ en

        all : FiledAll g nodes₀ edges₀ (omega arith) pre.fit pre.room (edges_to g e) (sides_of g e) (t, ms)
        all =
            subst (FiledAll g nodes₀ edges₀ (omega arith) pre.fit pre.room (edges_to g e) (sides_of g e)) (sym (looks ∙ ap (looked_all g s) are_sides))
            (all_file g nodes₀ edges₀ (omega arith) pre.fit pre.room (sides_of g e) (edges_to g e) s j.filed (sides_valid g e small here))

        step : meet_all (edges_to g e) (sides_of g e) ≡ edges_to g (e + 1)
        step = edges_more g e

        keeps : Keeps (meet_all (edges_to g e) (sides_of g e)) (edges_in g)
        keeps =
            let z : e + 1 + (tets_in g - (e + 1)) ≡ tets_in g = omega arith in
            subst (λ (l : List Edge). Keeps l (edges_in g)) (sym step)
            (subst (λ (n : ℕ). Keeps (edges_to g (e + 1)) (edges_to g n)) z (edges-keep g (e + 1) (tets_in g - (e + 1))))

        is_tet : a ∷ b ∷ c ∷ d ∷ six_of ms ≡ tet_of g e
        is_tet = tet-is g e a b c d ms en (all.numbers ∙ places-later (corners_in g) (sides_of g e) (edges_to g e) (edges_in g) keeps)

  -- after the last tetrahedron
  pub join-end : (tets : List (List ℕ)) (s : Filing) (e : ℕ) → e ≡ tets_in g → Joins g nodes₀ tets₀ edges₀ e tets s → Joined g nodes₀ s.nodes tets₀ tets edges₀ s.edges s.next
  join-end tets s e last j =
      let k = subst (λ (n : ℕ). Joins g nodes₀ tets₀ edges₀ n tets s) last j in
      record { next-is = k.filed.next-is; nodes-are = k.filed.nodes-are; tets-are = k.tets-are; edges_are = k.filed.rest }

-- ---- before and after the loop

module _ (g : Grid) (nodes nodes₁ : List (List Float)) (tets : List (List ℕ)) (edges edges₁ : List ℕ) (room : Roomy g nodes tets edges)
    (n : nodes₁ ≡ overwrite (node_with g []) (corners_in g) nodes) (t : edges₁ ≡ overwrite (λ k. 0) (slots_in g) edges) where
  -- the corners stored, and the table emptied
  pub joinable : Joinable g nodes₁ tets edges₁
  joinable =
      record {
        fit = omega (arith, room.fit, ap length n, length-overwrite (node_with g []) (corners_in g) nodes);
        places = room.places;
        room = omega (arith, room.room, ap length t, length-overwrite (λ k. 0) (slots_in g) edges);
        stored-are = overwrite-again (node_with g []) (corners_in g) nodes nodes₁ n;
        empty = overwrite-again (λ k. 0) (slots_in g) edges edges₁ t;
      }

  -- and the table emptied again
  pub builds : (nodes₂ : List (List Float)) (tets₂ : List (List ℕ)) (edges₂ edges₃ : List ℕ) (r : ℕ)
      → Joined g nodes₁ nodes₂ tets tets₂ edges₁ edges₂ r → edges₃ ≡ overwrite (λ k. 0) (slots_in g) edges₂ → Builds g nodes nodes₂ tets tets₂ edges edges₃ r
  builds nodes₂ tets₂ edges₂ edges₃ r j z =
      record {
        next-is = j.next-is;
        nodes-are =
            j.nodes-are
            ∙ ap (overwrite (node_with g (edges_in g)) (corners_in g + length (edges_in g))) n
            ∙ overwrite-over (node_with g (edges_in g)) (node_with g []) (corners_in g) (length (edges_in g)) nodes;
        tets-are = j.tets-are;
        edges_are = z ∙ j.edges_are ∙ ap (overwrite (λ k. 0) (slots_in g)) t ∙ overwrite-twice (λ k. 0) (λ k. 0) (slots_in g) edges;
      }
