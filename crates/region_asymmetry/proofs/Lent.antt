-- The lent lists are long enough where nothing is refused, and what is answered. Assumes nothing.
use mathlib.Core.Path.{◌≡◌, refl, ap, ◌∙◌}
use mathlib.Core.Bool.{false}
use mathlib.Core.List.{List}
use Prim.Native.Nat.{ℕ, zero, suc, ◌≤◌, ◌<◌}
use native.Mathlib.Omega.{arith}
use borrow.Author.Tests.{ltb-false}
use lib.Dec.{ltb}
use lib.ListN.{length}
use lib.Ieee.{Float}
use Rattle.lists.proofs.Laws.{passes_on, neither}
use Rattle.geom.specs.declared.Mirror.{Mirror}
use Rattle.region_checks.specs.Boundary as Boundary
use Rattle.region_asymmetry.specs.Asymmetry.{Lent, too_short, refusal_of, answer_of, Measured}
use Rattle.std.specs.Prelude.{Result, Ok, Err}
use Rattle.lent.proofs.Lent.{worked_same, worked-free}
use Rattle.refusal.proofs.Numbers.{some_number}
use Rattle.refusal.specs.Refusals.{number_of}
use Rattle.refusal.specs.declared.Refusal.{Refusal}
use Rattle.region_asymmetry.specs.Steps.{Roomy, Past}
use Rattle.region_farthest.specs.Farthest.{asymmetry_of}

pub positive : (n : ℕ) → (n ≡ 0 → ⊥) → 0 < n
positive zero h = absurd (h refl)
positive (suc n) h = omega arith

long-by : (n m : ℕ) (l : Lent) → 0 < n → n ≤ 65535 → too_short n m l ≡ false → Roomy n m l
unfolding too_short
long-by n m l some few e =
    let s₁ = neither _ _ e in
    let s₂ = neither _ _ s₁.0 in
    let s₃ = neither _ _ s₂.0 in
    let s₄ = neither _ _ s₃.0 in
    let s₅ = neither _ _ s₄.0 in
    let s₆ = neither _ _ s₅.0 in
    let s₇ = neither _ _ s₆.0 in
    record {
      some = some;
      few = few;
      faces = ltb-false _ _ s₇.0;
      kx = ltb-false _ _ s₇.1;
      ky = ltb-false _ _ s₆.1;
      kz = ltb-false _ _ s₅.1;
      order = ltb-false _ _ s₄.1;
      scratch = ltb-false _ _ s₃.1;
      boxes = ltb-false _ _ s₂.1;
      seen = ltb-false _ _ s₁.1;
    }

pub long : (nodes : List (List Float)) (tris : List (List ℕ)) (m : Mirror) (l : Lent) → (length tris ≡ 0 → ⊥) → refusal_of nodes tris m (too_short (length tris) (length nodes) l) ≡ 0 → Roomy (length tris) (length nodes) l
unfolding refusal_of Boundary.refusal_of
long nodes tris m l some e =
    let many = passes_on _ 3 _ (omega arith) e in
    let rest = (passes_on _ 9 _ (omega arith) (passes_on _ 21 _ (omega arith) many.1).1).1 in
    let few = (neither (ltb 65535 (length tris)) (ltb 1048576 (length nodes)) many.0).0 in
    long-by (length tris) (length nodes) l (positive (length tris) some) (ltb-false _ _ few) (passes_on _ 14 0 (omega arith) (passes_on _ 11 _ (omega arith) rest).1).0

-- ---- what is answered and left

pub answer-refused : (r : Refusal) (k : ℕ) (far : Float) → number_of r ≡ k → Err (number_of r) ≡ answer_of k far
unfolding answer_of
answer-refused r zero far e = absurd (omega (arith, e, some_number r))
answer-refused r (suc k) far e = ap Err e

pub answer-apart : (k : ℕ) (far : Float) → k ≡ 0 → Ok far ≡ answer_of k far
unfolding answer_of
answer-apart zero far h = refl
answer-apart (suc k) far h = absurd (omega arith)

module _ (nodes : List (List Float)) (tris : List (List ℕ)) (m : Mirror) (l : Lent) where
  abbrev number : ℕ
  number = refusal_of nodes tris m (too_short (length tris) (length nodes) l)

  -- all as before, whatever is answered
  pub untouched : (r : Result Float ℕ) → r ≡ answer_of number (asymmetry_of nodes tris m) → Measured nodes tris m l l r
  untouched r e =
      record {
        answer = e;
        faces = worked_same _ (length tris) l.faces;
        kx = worked_same _ (length tris) l.kx;
        ky = worked_same _ (length tris) l.ky;
        kz = worked_same _ (length tris) l.kz;
        order = worked_same _ (length tris) l.order;
        scratch = worked_same _ (length tris) l.scratch;
        boxes = worked_same _ (length tris) l.boxes;
        seen = worked_same _ (length nodes) l.seen;
      }

  pub measured : (l' : Lent) (far : Float) → number ≡ 0 → far ≡ asymmetry_of nodes tris m → Past (length tris) (length nodes) l l' → Measured nodes tris m l l' (Ok far)
  measured l' far none e p =
      record {
        answer = ap Ok e ∙ answer-apart number _ none;
        faces = worked-free _ _ l.faces l'.faces none p.faces;
        kx = worked-free _ _ l.kx l'.kx none p.kx;
        ky = worked-free _ _ l.ky l'.ky none p.ky;
        kz = worked-free _ _ l.kz l'.kz none p.kz;
        order = worked-free _ _ l.order l'.order none p.order;
        scratch = worked-free _ _ l.scratch l'.scratch none p.scratch;
        boxes = worked-free _ _ l.boxes l'.boxes none p.boxes;
        seen = worked-free _ _ l.seen l'.seen none p.seen;
      }
