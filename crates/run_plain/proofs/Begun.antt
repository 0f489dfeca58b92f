-- "at most 20 rounds at each steepness below 16", of the rounds begun: a round is begun only where fewer than 20 stand at its steepness; and with full stages each round begun is at the steepness of its number. By induction on the answers. Assumes nothing.
use Rattle.topo.specs.declared.Stop.{Stop}
use Rattle.std.specs.Prelude.{Option, Some, None}
use mathlib.Core.Path.{◌≡◌, refl, sym, ap, ◌∙◌, subst}
use mathlib.Core.Bool.{Bool, true, false}
use mathlib.Core.List.{List, [], ◌∷◌, ◌++◌}
use Prim.Native.Nat.{ℕ, suc, ◌+◌, ◌≤◌, ◌<◌}
use native.Mathlib.Omega.{arith}
use lib.ListN.{length}
use Rattle.lists.specs.Lists.{choose}
use Rattle.topo.specs.declared.Sharpening.TheVariants.{Full}
use Rattle.run_plain.specs.declared.Verdict.{Verdict}
use Rattle.run_plain.specs.declared.Verdict.TheVariants.{Kept, Over, Halts, Begins, Solves}
use Rattle.run_plain.specs.Formulas.{Steep, record_at}
use Rattle.run_plain.specs.Opening.{Opening, entry_of, case_of, Opens}
use Rattle.run_plain.specs.Plain.{Answer, Part, nothing, solid, round, Row, judged, first_stop, same, sharpest, count_at, Run, plain_start, asked_of, updated, stops_of, onward, checks_of, after, answered}
use Rattle.run_plain.specs.Runs.{begun_by, rounds_begun, times, full_steep, FullFrom}
use Rattle.run_plain.proofs.Formulas.{ready}
use Rattle.run_plain.proofs.Counts.{same_true}
use Rattle.run_plain.proofs.Verdicts.{Told-of, told}
use Rattle.run_plain.proofs.Keeps.{Keeps, Here, full_at, keeps-after, keeps_on, keeps-start}
use Rattle.run_plain.proofs.Runs.{given-kept}

-- 1 for a round at the steepness d, 0 for one at another
abbrev one : Steep → Steep → ℕ
one d b = choose (same d b) 1 0

times_more : (d b : Steep) (l : List Steep) → times d (b ∷ l) ≡ one d b + times d l
unfolding times choose
times_more d b l = go (same d b)
  where
    go : (t : Bool) → choose t (suc (times d l)) (times d l) ≡ choose t 1 0 + times d l
    go true = omega arith
    go false = omega arith

count-more : (d : Steep) (r : Row) (rows : List Row) → count_at d (r ∷ rows) ≡ one d r.steep + count_at d rows
unfolding count_at choose
count-more d r rows = go (same d r.steep)
  where
    go : (t : Bool) → choose t (suc (count_at d rows)) (count_at d rows) ≡ choose t 1 0 + count_at d rows
    go true = omega arith
    go false = omega arith

-- c rounds were begun at d: those with a record, and the one that is asked for
abbrev Begun : Steep → Part → Run → ℕ → Type 0
Begun d nothing r c = c ≤ 20
Begun d solid r c = c ≡ 0
Begun d (round n) r c = c ≡ one d r.steep + count_at d r.rows

few : (d : Steep) (r : Run) (c : ℕ) → Keeps r → sharpest r.given.goal.sharpen d ≡ false → (p : Part) → Here p r → Begun d p r c → c ≤ 20
unfolding choose
few d r c k t nothing h b = b
few d r c k t solid h b = omega arith
few d r c k t (round n) h b = go (same d r.steep) refl b
  where
    go : (z : Bool) → same d r.steep ≡ z → c ≡ choose z 1 0 + count_at d r.rows → c ≤ 20
    go false z e = let l = k.below d t in omega arith
    go true z e =
        let q : d ≡ r.steep = same_true d r.steep z in
        let l : count_at r.steep r.rows < 20 = h.2 (subst (λ (x : Steep). sharpest r.given.goal.sharpen x ≡ false) q t) in
        let l' : count_at d r.rows < 20 = subst (λ (x : Steep). count_at x r.rows < 20) (sym q) l in
        omega arith

plus_none : (c : ℕ) → c ≡ 0 + c
plus_none c = omega arith

-- an answer more: as many more as it begins
begun-onward : (d : Steep) (r : Run) (a : Answer) (c : ℕ) → c ≤ 20 → c ≡ one d r.steep + count_at d r.rows → (v : Option Stop)
    → Begun d (onward (updated r a.energies) v).run.part (onward (updated r a.energies) v).run (times d (begun_by (onward (updated r a.energies) v).out (onward (updated r a.energies) v).run.steep) + c)
unfolding times
begun-onward d r a c l e (Some why) = subst (λ (x : ℕ). x ≤ 20) (plus_none c) l
begun-onward d r a c l e None =
    let h = times_more d (onward (updated r a.energies) None).run.steep [] in
    let q = count-more d (record { steep = r.steep; entry = record_at (case_of r.given) r.steep r.design (asked_of r) a.energies (suc (length r.rows)) }) r.rows in
    omega (arith, h, q, e)

begun-after : (d : Steep) (r : Run) (a : Answer) (c : ℕ) → Keeps r → sharpest r.given.goal.sharpen d ≡ false → Begun d r.part r c → (v : Verdict) → Told-of v r.part (checks_of r a)
    → Begun d (after r a v).run.part (after r a v).run (times d (begun_by (after r a v).out (after r a v).run.steep) + c)
unfolding times count_at
begun-after d r a c k t b (Kept n) u = subst (Begun d r.part r) (plus_none c) b
begun-after d r a c k t b (Over n) u = subst (λ (x : ℕ). x ≤ 20) (plus_none c) (few d r c k t r.part k.here b)
begun-after d r a c k t b Halts u = subst (λ (x : ℕ). x ≤ 20) (plus_none c) (few d r c k t r.part k.here b)
begun-after d r a c k t b Begins u =
    let z : c ≡ 0 = subst (λ (p : Part). Begun d p r c) u.1 b in
    let e : r.rows ≡ [] = (subst (λ (p : Part). Here p r) u.1 k.here).0 in
    let n : count_at d r.rows ≡ 0 = ap (count_at d) e in
    let h = times_more d r.steep [] in
    omega (arith, h, n, z)
begun-after d r a c k t b Solves u =
    begun-onward d r a c (few d r c k t r.part k.here b) (subst (λ (p : Part). Begun d p r c) u.2 b) (first_stop (stops_of (updated r a.energies) a))

begun-on : (d : Steep) (r : Run) (a : Answer) (c : ℕ) → Keeps r → sharpest r.given.goal.sharpen d ≡ false → Begun d r.part r c
    → Begun d (answered r a).run.part (answered r a).run (times d (begun_by (answered r a).out (answered r a).run.steep) + c)
unfolding answered
begun-on d r a c k t b = begun-after d r a c k t b (judged r.part (checks_of r a)) (told r.part (checks_of r a))

times-append : (d : Steep) (l m : List Steep) → times d (l ++ m) ≡ times d l + times d m
unfolding times
times-append d [] m = plus_none (times d m)
times-append d (b ∷ l) m = let h = times-append d l m in omega (arith, h, times_more d b (l ++ m), times_more d b l)

begun-from : (d : Steep) (r : Run) (late : List Answer) (c : ℕ) → Keeps r → sharpest r.given.goal.sharpen d ≡ false → Begun d r.part r c → times d (rounds_begun r late) + c ≤ 20
unfolding rounds_begun times
begun-from d r [] c k t b = subst (λ (x : ℕ). x ≤ 20) (plus_none c) (few d r c k t r.part k.here b)
begun-from d r (a ∷ late) c k t b =
    let q = begun_by (answered r a).out (answered r a).run.steep in
    let t' : sharpest (answered r a).run.given.goal.sharpen d ≡ false = subst (λ (o : Opening). sharpest o.goal.sharpen d ≡ false) (sym (given-kept r a)) t in
    let h = begun-from d (answered r a).run late (times d q + c) (keeps_on r a k) t' (begun-on d r a c k t b) in
    omega (arith, h, times-append d q (rounds_begun (answered r a).run late))

-- of an opened run
pub begun-twenty : (o : Opening) (late : List Answer) → entry_of o ≡ Opens → (d : Steep) → sharpest o.goal.sharpen d ≡ false → times d (rounds_begun (plain_start o) late) ≤ 20
begun-twenty o late e d t = let h = begun-from d (plain_start o) late 0 (keeps-start o (ready o e)) t refl in omega arith

-- ---- full stages
-- the rounds that are still to begin, by the part asked for
abbrev Coming : Part → List Steep → Type 0
Coming nothing l = l ≡ []
Coming solid l = FullFrom 1 l
Coming (round n) l = FullFrom (suc n) l

coming-none : (p : Part) (l : List Steep) → l ≡ [] → Coming p l
unfolding FullFrom
coming-none nothing l e = e
coming-none solid l e = subst (FullFrom 1) (sym e) tt
coming-none (round n) l e = subst (FullFrom (suc n)) (sym e) tt

coming-onward : (r : Run) (a : Answer) (n : ℕ) → Keeps r → r.part ≡ round n → (v : Option Stop) → Keeps (onward (updated r a.energies) v).run → r.given.goal.sharpen ≡ Full → (l : List Steep)
    → Coming (onward (updated r a.energies) v).run.part l
    → Coming r.part (begun_by (onward (updated r a.energies) v).out (onward (updated r a.energies) v).run.steep ++ l)
unfolding FullFrom
coming-onward r a n k p (Some why) k' e l h = coming-none r.part l h
coming-onward r a n k p None k' e l h =
    let q : r.part ≡ round (suc (length r.rows)) = p ∙ ap round (subst (λ (x : Part). Here x r) p k.here).0 in
    let s : (onward (updated r a.energies) None).run.steep ≡ full_steep (suc (suc (length r.rows))) = full_at _ _ _ k'.full k'.here.2 e in
    subst (λ (x : Part). Coming x ((onward (updated r a.energies) None).run.steep ∷ l)) (sym q) (s, h)

coming-after : (r : Run) (a : Answer) → Keeps r → (v : Verdict) → Told-of v r.part (checks_of r a) → r.given.goal.sharpen ≡ Full → (l : List Steep) → Coming (after r a v).run.part l
    → Coming r.part (begun_by (after r a v).out (after r a v).run.steep ++ l)
unfolding FullFrom
coming-after r a k (Kept n) t e l h = h
coming-after r a k (Over n) t e l h = coming-none r.part l h
coming-after r a k Halts t e l h = coming-none r.part l h
coming-after r a k Begins t e l h =
    let u : (r.rows ≡ []) × (sharpest r.given.goal.sharpen r.steep ≡ false → count_at r.steep r.rows < 20) = subst (λ (x : Part). Here x r) t.1 k.here in
    let s : r.steep ≡ full_steep 1 = full_at _ _ _ k.full u.1 e ∙ ap (λ (rows : List Row). full_steep (suc (length rows))) u.0 in
    subst (λ (x : Part). Coming x (r.steep ∷ l)) (sym t.1) (s, h)
coming-after r a k Solves t e l h =
    coming-onward r a t.1 k t.2 (first_stop (stops_of (updated r a.energies) a)) (keeps-after r a k Solves t) e l h

coming-on : (r : Run) (a : Answer) (l : List Steep) → Keeps r → r.given.goal.sharpen ≡ Full → Coming (answered r a).run.part l
    → Coming r.part (begun_by (answered r a).out (answered r a).run.steep ++ l)
unfolding answered
coming-on r a l k e h = coming-after r a k (judged r.part (checks_of r a)) (told r.part (checks_of r a)) e l h

coming-from : (r : Run) (late : List Answer) → Keeps r → r.given.goal.sharpen ≡ Full → Coming r.part (rounds_begun r late)
unfolding rounds_begun
coming-from r [] k e = coming-none r.part [] refl
coming-from r (a ∷ late) k e =
    coming-on r a (rounds_begun (answered r a).run late) k e (coming-from (answered r a).run late (keeps_on r a k) (ap (λ (o : Opening). o.goal.sharpen) (given-kept r a) ∙ e))

pub begun-full : (o : Opening) (late : List Answer) → entry_of o ≡ Opens → o.goal.sharpen ≡ Full → FullFrom 1 (rounds_begun (plain_start o) late)
begun-full o late e f = coming-from (plain_start o) late (keeps-start o (ready o e)) f
