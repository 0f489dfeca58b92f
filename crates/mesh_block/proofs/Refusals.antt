-- What the chain of refusals says where none is given. Assumes nothing.
use mathlib.Core.Path.{◌≡◌, refl, sym, ap, ◌∙◌, subst}
use mathlib.Core.Bool.{◌||◌}
use Prim.Native.Nat.{ℕ, ◌≤◌}
use native.Mathlib.Omega.{arith}
use borrow.Author.Tests.{ltb-false}
use lib.Dec.{ltb}
use lib.ListN.{length}
use Rattle.lists.proofs.Bools.{never}
use Rattle.lists.proofs.Laws.{passes_on, neither}
use Rattle.geom.specs.Points.{stored}
use Rattle.lent.specs.Domain.{point_bad}
use Rattle.mesh_lattice.specs.declared.Grid.{Grid}
use Rattle.mesh_lattice.specs.Lattice.{tets_in, nodes_in, slots_in}
use Rattle.mesh_triangles.specs.Triangles.{triangles_in}
use Rattle.std.proofs.Common.{Result, Ok, Err}
use Rattle.std.specs.Result.{IsErr, IsErrAnd}
use Rattle.lent.proofs.Lent.{unless-refused}
use Rattle.refusal.proofs.Numbers.{some_number}
use Rattle.refusal.specs.Refusals.{number_of}
use Rattle.refusal.specs.declared.Refusal.{Refusal}
use Rattle.mesh_block.specs.declared.Counts.{Counts}
use Rattle.mesh_block.specs.declared.Made.{Made}
use Rattle.mesh_block.specs.Block.{too_many, refusal_of, Held, made_of, Built}

pub record Accepted (g : Grid) (n t s r w : ℕ) : Type 0 where
  pub few-tets : tets_in g ≤ 65535
  pub few-nodes : nodes_in g ≤ 1048576
  pub few_triangles : length (triangles_in g) ≤ 65535
  pub nodes : nodes_in g ≤ n
  pub tets : tets_in g ≤ t
  pub edges : slots_in g ≤ w

pub accepted : (g : Grid) (n t s r w : ℕ) → refusal_of g n t s r w ≡ 0 → Accepted g n t s r w
unfolding refusal_of
accepted g n t s r w e =
    let m = length (triangles_in g) in
    let a = passes_on (too_many g) 3 _ (omega arith) e in
    let many = neither (ltb 65535 (tets_in g)) (ltb 1048576 (nodes_in g) || ltb 65535 m) a.0 in
    let many2 = neither (ltb 1048576 (nodes_in g)) (ltb 65535 m) many.1 in
    let b = passes_on (point_bad (stored g.size)) 9 _ (omega arith) a.1 in
    let c = passes_on (ltb n (nodes_in g) || (ltb t (tets_in g) || (ltb s m || (ltb r m || ltb w (slots_in g))))) 14 0 (omega arith) b.1 in
    let short = neither (ltb n (nodes_in g)) (ltb t (tets_in g) || (ltb s m || (ltb r m || ltb w (slots_in g)))) c.0 in
    let short2 = neither (ltb t (tets_in g)) (ltb s m || (ltb r m || ltb w (slots_in g))) short.1 in
    let short3 = neither (ltb s m) (ltb r m || ltb w (slots_in g)) short2.1 in
    let short4 = neither (ltb r m) (ltb w (slots_in g)) short3.1 in
    record {
      few-tets = ltb-false 65535 (tets_in g) many.0;
      few-nodes = ltb-false 1048576 (nodes_in g) many2.0;
      few_triangles = ltb-false 65535 m many2.1;
      nodes = ltb-false n (nodes_in g) short.0;
      tets = ltb-false t (tets_in g) short2.0;
      edges = ltb-false w (slots_in g) short4.1;
    }

-- a grid that nothing refuses, under the name that the code has for it
pub accepted_by : (g grid : Grid) (n t s r w : ℕ) → g ≡ grid → 0 ≡ refusal_of grid n t s r w → Accepted g n t s r w
accepted_by g grid n t s r w is e = subst (λ (g : Grid). Accepted g n t s r w) (sym is) (accepted grid n t s r w (sym e))

-- the lists as they were lent, and no counts
pub left_alone : (g : Grid) (l : Held) (x : Result Counts Refusal) (r : Refusal) → IsErr x × IsErrAnd x (λ y. y ≡ r)
    → number_of r ≡ refusal_of g (length l.nodes) (length l.tets) (length l.surfaces) (length l.tris) (length l.edges) → Built g l l (made_of x)
left_alone g l (Ok a) r h e = never h.0 refl
left_alone g l (Err y) r h e =
    let no : number_of y ≡ 0 → ⊥ = λ z. omega (arith, z, some_number y) in
    record {
      refusal = ap number_of h.1 ∙ e;
      node-count = unless-refused _ _ _ no;
      tet-count = unless-refused _ _ _ no;
      tri-count = unless-refused _ _ _ no;
      nodes-are = unless-refused _ _ _ no;
      tets-are = unless-refused _ _ _ no;
      surfaces-are = unless-refused _ _ _ no;
      tris-are = unless-refused _ _ _ no;
      edges_are = unless-refused _ _ _ no;
    }

pub same_grid : (g h : Grid) (l l' : Held) (r : Made) → g ≡ h → Built g l l' r → Built h l l' r
same_grid g h l l' r e b = subst (λ (g : Grid). Built g l l' r) e b
