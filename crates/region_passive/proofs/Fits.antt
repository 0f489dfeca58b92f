-- A call that is not refused has few elements and lists that are long enough; and what either outcome leaves. Assumes nothing.
use mathlib.Core.Path.{◌≡◌, refl, ◌∙◌}
use mathlib.Core.Bool.{Bool, false}
use Prim.Native.Nat.{ℕ, ◌+◌, ◌≤◌, ◌<◌}
use native.Mathlib.Omega.{arith}
use lib.ListN.{length}
use lib.Dec.{ltb}
use borrow.Author.Tests.{ltb-false}
use Rattle.lists.proofs.Laws.{passes_on, neither}
use Rattle.region_checks.specs.Boundary as Boundary
use Rattle.region_passive.specs.Passive.{Problem, Lent, sets_in, refusal_of, Marked}
use Rattle.region_passive_checks.specs.Checks.{too_short, kept_short}
use Rattle.lent.proofs.Lent.{unless-refused, unless-accepted, worked_same, worked-free}
use Rattle.region_passive.specs.Steps.{Roomy, Past}

module _ (q : Problem) (l : Lent) where
  abbrev short : Bool
  short = too_short (length q.nodes) (length q.tets) (length q.tris) (sets_in q) (length q.surfaces) (length q.starts) (length l.marks) (length l.keep) (length l.centroids) (length l.cells) (length l.order) (length l.place) (length l.first)

  -- every list is long enough
  long-enough : short ≡ false
      → (length q.tris ≤ length q.surfaces) × (sets_in q + 1 ≤ length q.starts) × (length q.tets ≤ length l.marks) × (length q.nodes ≤ length l.keep) × (length q.tets ≤ length l.centroids)
      × (length q.tets ≤ length l.cells) × (length q.tets ≤ length l.order) × (length q.tets ≤ length l.place) × (length q.tets + 1 ≤ length l.first)
  unfolding too_short
  long-enough e =
      let a = neither (ltb (length q.surfaces) (length q.tris)) _ e in
      let b = neither (ltb (length q.starts) (sets_in q + 1)) _ a.1 in
      let c = neither (ltb (length l.marks) (length q.tets)) _ b.1 in
      let d = neither (ltb (length l.keep) (length q.nodes)) _ c.1 in
      let f = neither (ltb (length l.centroids) (length q.tets)) _ d.1 in
      let g = neither (ltb (length l.cells) (length q.tets)) _ f.1 in
      let h = neither (ltb (length l.order) (length q.tets)) _ g.1 in
      let i = neither (ltb (length l.place) (length q.tets)) _ h.1 in (
        ltb-false _ _ a.0,
        ltb-false _ _ b.0,
        ltb-false _ _ c.0,
        ltb-false _ _ d.0,
        ltb-false _ _ f.0,
        ltb-false _ _ g.0,
        ltb-false _ _ h.0,
        ltb-false _ _ i.0,
        ltb-false _ _ i.1,
      )

  pub roomy : refusal_of q l ≡ 0 → Roomy q l
  unfolding refusal_of Boundary.refusal_of
  roomy e =
      let many = passes_on _ 3 _ (omega arith) e in
      let rest = (passes_on _ 9 _ (omega arith) (passes_on _ 21 _ (omega arith) many.1).1).1 in
      let s = long-enough (neither short (kept_short q.starts (length q.kept) (sets_in q)) (passes_on _ 14 0 (omega arith) (passes_on _ 8 _ (omega arith) rest).1).0).0 in
      let few = ltb-false 65535 (length q.tets) (neither (ltb 65535 (length q.tets)) _ (neither _ (ltb 1048576 (length q.nodes)) many.0).0).0 in
      record {
        few = omega (arith, few);
        surfaced = s.0;
        begun = omega (arith, s.1);
        marked = s.2;
        keeps = s.3;
        middled = s.4;
        celled = s.5;
        orders = s.6;
        places = s.7;
        firsts = s.8;
      }

  pub refused_lem : (r : ℕ) → r ≡ refusal_of q l → 0 < r → Marked q l l r
  refused_lem r e pos =
      record {
        refusal = e;
        marks-are = unless-refused r _ _ (λ z. omega arith);
        keep_left = worked_same r _ l.keep;
        centroids-left = worked_same r _ l.centroids;
        cells_left = worked_same r _ l.cells;
        order-left = worked_same r _ l.order;
        place-left = worked_same r _ l.place;
        first-left = worked_same r _ l.first;
      }

  pub accepted : (l' : Lent) → 0 ≡ refusal_of q l → Past q l l' → Marked q l l' 0
  accepted l' e p =
      record {
        refusal = e;
        marks-are = p.marks-are ∙ unless-accepted 0 _ l.marks refl;
        keep_left = worked-free 0 (length q.nodes) l.keep l'.keep refl p.keeps;
        centroids-left = worked-free 0 (length q.tets) l.centroids l'.centroids refl p.middled;
        cells_left = worked-free 0 (length q.tets) l.cells l'.cells refl p.celled;
        order-left = worked-free 0 (length q.tets) l.order l'.order refl p.orders;
        place-left = worked-free 0 (length q.tets) l.place l'.place refl p.places;
        first-left = worked-free 0 (length q.tets + 1) l.first l'.first refl p.firsts;
      }
