-- What holds of every plain run: its questions, its records and how it ends. By induction on the answers. Assumes nothing.
use Rattle.topo.specs.declared.Stop.{Stop}
use Rattle.std.specs.Prelude.{Option, Some, None}
use mathlib.Core.Path.{◌≡◌, refl, sym, ap, ◌∙◌, subst}
use mathlib.Core.Bool.{false}
use mathlib.Core.List.{List, [], ◌∷◌, ◌++◌}
use Prim.Native.Nat.{ℕ, suc, ◌+◌, ◌≤◌, ◌<◌}
use native.Mathlib.Nat.{add-zero}
use native.Mathlib.Omega.{arith}
use lib.ListN.{length, length-append}
use lib.Dec.{leb}
use borrow.Author.Tests.{leb-false}
use Rattle.topo.specs.declared.Iteration.{Iteration}
use Rattle.topo.specs.declared.Sharpening.{Sharpening}
use Rattle.topo.specs.declared.Sharpening.TheVariants.{Full}
use Rattle.run_plain.specs.declared.Verdict.{Verdict}
use Rattle.run_plain.specs.declared.Verdict.TheVariants.{Kept, Over, Halts, Begins, Solves}
use Rattle.run_plain.specs.Formulas.{Steep, s16, sharpness}
use Rattle.run_plain.specs.Opening.{Opening, entry_of, Opens}
use Rattle.run_plain.specs.Plain.{Answer, Part, nothing, solid, round, Out, Row, Seen, in_order, judged, first_stop, same, sharpest, count_at, Run, plain_start, updated, stops_of, onward, checks_of, after, answered, left_of, plain_from, plain_run}
use Rattle.run_plain.specs.Runs.{solid_in, round_in, solid_asked, rounds_asked, Upto, stop, more, First, All, none, each, full_steep, GoodRecord, Numbered, FullStages, GoodShown, good, Ended, refusal, by_solver, by_stop}
use Rattle.run_plain.specs.Demand.{OpenedRun}
use Rattle.run_plain.proofs.Formulas.{ready}
use Rattle.run_plain.proofs.Counts.{GoesOn, goes_on}
use Rattle.run_plain.proofs.Verdicts.{Told-of, told, first-is, first-only}
use Rattle.run_plain.proofs.Full.{first-last, staged-passed, staged-exactly}
use Rattle.run_plain.proofs.Keeps.{Sound, Here, Keeps, keeps_on, keeps-start}

-- ---- questions
abbrev Rest : Part → ℕ → List ℕ → Type 0
Rest nothing m l = l ≡ []
Rest solid m l = Upto 1 m l
Rest (round n) m l = Upto (suc n) m l

rest-none : (p : Part) (m : ℕ) (l : List ℕ) → l ≡ [] → Rest p m l
rest-none nothing m l e = e
rest-none solid m l e = subst (Upto 1 m) (sym e) stop
rest-none (round n) m l e = subst (Upto (suc n) m) (sym e) stop

rest-onward : (r : Run) (a : Answer) (n : ℕ) → Keeps r → r.part ≡ round n → (v : Option Stop) → first_stop (stops_of (updated r a.energies) a) ≡ v → (l : List ℕ)
    → Rest (onward (updated r a.energies) v).run.part r.given.goal.max_iterations l → Rest r.part r.given.goal.max_iterations (round_in (onward (updated r a.energies) v).out ++ l)
rest-onward r a n k p (Some why) e l h = rest-none r.part r.given.goal.max_iterations l h
rest-onward r a n k p None e l h =
    let t : (n ≡ suc (length r.rows)) × (length r.rows < r.given.goal.max_iterations) × (sharpest r.given.goal.sharpen r.steep ≡ false → count_at r.steep r.rows < 20) = subst (λ (x : Part). Here x r) p k.here in
    let g : GoesOn (stops_of (updated r a.energies) a) = goes_on _ e in
    let b : suc (length r.rows) < r.given.goal.max_iterations = leb-false _ _ g.limit in
    let u : Upto (suc (suc (length r.rows))) r.given.goal.max_iterations (suc (suc (length r.rows)) ∷ l) = more b h in
    let q : r.part ≡ round (suc (length r.rows)) = p ∙ ap round t.0 in
    subst (λ (x : Part). Rest x r.given.goal.max_iterations (suc (suc (length r.rows)) ∷ l)) (sym q) u

rest-after : (r : Run) (a : Answer) → Keeps r → (v : Verdict) → Told-of v r.part (checks_of r a) → (l : List ℕ)
    → Rest (after r a v).run.part r.given.goal.max_iterations l → Rest r.part r.given.goal.max_iterations (round_in (after r a v).out ++ l)
rest-after r a k (Kept n) t l h = h
rest-after r a k (Over n) t l h = rest-none r.part r.given.goal.max_iterations l h
rest-after r a k Halts t l h = rest-none r.part r.given.goal.max_iterations l h
rest-after r a k Begins t l h = subst (λ (x : Part). Rest x r.given.goal.max_iterations (1 ∷ l)) (sym t.1) (more k.rounds h)
rest-after r a k Solves t l h = rest-onward r a t.1 k t.2 (first_stop (stops_of (updated r a.energies) a)) refl l h

given-after : (r : Run) (a : Answer) (v : Verdict) → (after r a v).run.given ≡ r.given
given-after r a (Kept n) = refl
given-after r a (Over n) = refl
given-after r a Halts = refl
given-after r a Begins = refl
given-after r a Solves = by (first_stop (stops_of (updated r a.energies) a))
  where
    by : (v : Option Stop) → (onward (updated r a.energies) v).run.given ≡ r.given
    by (Some why) = refl
    by None = refl

pub given-kept : (r : Run) (a : Answer) → (answered r a).run.given ≡ r.given
unfolding answered
given-kept r a = given-after r a (judged r.part (checks_of r a))

rest-on : (r : Run) (a : Answer) (l : List ℕ) → Keeps r → Rest (answered r a).run.part r.given.goal.max_iterations l → Rest r.part r.given.goal.max_iterations (round_in (answered r a).out ++ l)
unfolding answered
rest-on r a l k h = rest-after r a k (judged r.part (checks_of r a)) (told r.part (checks_of r a)) l h

rounds-from : (r : Run) (late : List Answer) → Keeps r → Rest r.part r.given.goal.max_iterations (rounds_asked (plain_from r late))
unfolding rounds_asked plain_from
rounds-from r [] k = rest-none r.part r.given.goal.max_iterations [] refl
rounds-from r (a ∷ late) k =
    let h : Rest (answered r a).run.part (answered r a).run.given.goal.max_iterations (rounds_asked (plain_from (answered r a).run late)) = rounds-from (answered r a).run late (keeps_on r a k) in
    rest-on r a (rounds_asked (plain_from (answered r a).run late)) k (subst (λ (o : Opening). Rest (answered r a).run.part o.goal.max_iterations (rounds_asked (plain_from (answered r a).run late))) (given-kept r a) h)

solid-after : (r : Run) (a : Answer) (v : Verdict) → solid_in (after r a v).out ≡ 0
solid-after r a (Kept n) = refl
solid-after r a (Over n) = refl
solid-after r a Halts = refl
solid-after r a Begins = refl
solid-after r a Solves = by (first_stop (stops_of (updated r a.energies) a))
  where
    by : (v : Option Stop) → solid_in (onward (updated r a.energies) v).out ≡ 0
    by (Some why) = refl
    by None = refl

solid-on : (r : Run) (a : Answer) → solid_in (answered r a).out ≡ 0
unfolding answered
solid-on r a = solid-after r a (judged r.part (checks_of r a))

solid-from : (r : Run) (rest : List Answer) → solid_asked (plain_from r rest) ≡ 0
unfolding solid_asked plain_from
solid-from r [] = refl
solid-from r (a ∷ rest) = omega (arith, solid-on r a, solid-from (answered r a).run rest)

-- ---- records
all_append : {A : Type 0} (P : A → Type 0) (l m : List A) → All P l → All P m → All P (l ++ m)
all_append P l m none y = y
all_append P l m (each p x) y = each p (all_append P _ m x y)

good-rows : (f : Sharpening) (rows : List Row) → Sound f rows → All (GoodRecord f) (in_order rows)
good-rows f [] s = none
good-rows f (r ∷ rows) s =
    all_append (GoodRecord f) (in_order rows) (r.entry ∷ []) (good-rows f rows s.5)
    (each (s.0, (λ e h. s.3 ∙ ap sharpness (s.1 e (let q : r.entry.number ≡ suc (length rows) = s.2 in omega arith))), λ e. s.3 ∙ ap sharpness (s.4 e ∙ ap full_steep (sym s.2))) none)

numbered_more : (n : ℕ) (l : List Iteration) (e : Iteration) → Numbered n l → e.number ≡ n + length l → Numbered n (l ++ (e ∷ []))
unfolding Numbered
numbered_more n [] e h q = (q ∙ add-zero n, tt)
numbered_more n (x ∷ l) e h q = (h.0, numbered_more (suc n) l e h.1 (omega arith))

long-rows : (rows : List Row) → length (in_order rows) ≡ length rows
long-rows [] = refl
long-rows (r ∷ rows) = let h = length-append (in_order rows) (r.entry ∷ []) in omega (arith, h, long-rows rows)

numbered-rows : (f : Sharpening) (rows : List Row) → Sound f rows → Numbered 1 (in_order rows)
unfolding Numbered
numbered-rows f [] s = tt
numbered-rows f (r ∷ rows) s = numbered_more 1 (in_order rows) r.entry (numbered-rows f rows s.5) (let q : r.entry.number ≡ suc (length rows) = s.2 in omega (arith, long-rows rows))

steep-rows : (f : Sharpening) (rows : List Row) → Sound f rows → All (λ (r : Row). r.entry.sharpness ≡ sharpness r.steep) rows
steep-rows f [] s = none
steep-rows f (r ∷ rows) s = each s.3 (steep-rows f rows s.5)

full-rows : (f : Sharpening) → f ≡ Full → (rows : List Row) → Sound f rows → All (λ (r : Row). r.steep ≡ full_steep r.entry.number) rows
full-rows f e [] s = none
full-rows f e (r ∷ rows) s = each (s.4 e ∙ ap full_steep (sym s.2)) (full-rows f e rows s.5)

first_rows : (rows : List Row) → All (λ (r : Row). r.steep ≡ full_steep r.entry.number) rows → All (λ (r : Row). same r.steep s16 ≡ leb 81 r.entry.number) rows
first_rows rows none = none
first_rows (r ∷ rows) (each e h) = each (ap (λ (b : Steep). same b s16) e ∙ first-last r.entry.number) (first_rows rows h)

full-stages : (r : Run) → Keeps r → r.given.goal.sharpen ≡ Full → FullStages r.rows
full-stages r k e =
    let s = full-rows r.given.goal.sharpen e r.rows k.sound in
    record {
      steeps = s;
      exactly = λ d t n. staged-exactly r.steep r.rows (k.full e) (subst (λ (f : Sharpening). (d : Steep) → sharpest f d ≡ false → count_at d r.rows ≤ 20) e k.below) n d t;
      passed = staged-passed r.steep r.rows k.climbs (k.full e);
      first = first_rows r.rows s;
    }

good_left : (r : Run) → Keeps r → GoodShown r.given (left_of r)
good_left r k =
    good (record { rows = r.rows; are = refl; numbered = numbered-rows r.given.goal.sharpen r.rows k.sound; steeps = steep-rows r.given.goal.sharpen r.rows k.sound; most = k.most; good = good-rows r.given.goal.sharpen r.rows k.sound; twenty = k.below; full = full-stages r k })

good-from : (o : Opening) (r : Run) (rest : List Answer) → r.given ≡ o → Keeps r → All (λ (s : Seen). GoodShown o s.left) (plain_from r rest)
unfolding plain_from
good-from o r [] e k = none
good-from o r (a ∷ rest) e k =
    let g : (answered r a).run.given ≡ o = given-kept r a ∙ e in
    each (subst (λ (x : Opening). GoodShown x (left_of (answered r a).run)) g (good_left (answered r a).run (keeps_on r a k)))
    (good-from o (answered r a).run rest g (keeps_on r a k))

-- ---- of an opened run
pub opened-run : (o : Opening) (rest : List Answer) → entry_of o ≡ Opens → OpenedRun o (plain_run o rest)
unfolding plain_run solid_asked rounds_asked
opened-run o rest e =
    let k : Keeps (plain_start o) = keeps-start o (ready o e) in
    rw e (record { solid = omega (arith, solid-from (plain_start o) rest); rounds = rounds-from (plain_start o) rest k; records = each (good_left (plain_start o) k) (good-from o (plain_start o) rest refl k) })

-- ---- ends
ends-onward : (r : Run) (a : Answer) (v : Option Stop) → judged r.part (checks_of r a) ≡ Solves → First (stops_of (updated r a.energies) a) v
    → (onward (updated r a.energies) v).run.part ≡ nothing → Ended r a (onward (updated r a.energies) v).out
ends-onward r a (Some why) e f p = by_stop e f
ends-onward r a None e f p = absurd (let z : ◌≡◌ {A = ℕ} 0 1 = cc in omega arith)

ends-after : (r : Run) (a : Answer) (v : Verdict) → judged r.part (checks_of r a) ≡ v → (r.part ≡ nothing → ⊥) → (after r a v).run.part ≡ nothing → Ended r a (after r a v).out
ends-after r a (Kept n) e h p = absurd (h p)
ends-after r a (Over n) e h p = refusal e
ends-after r a Halts e h p = by_solver e
ends-after r a Begins e h p = absurd (let z : ◌≡◌ {A = ℕ} 0 1 = cc in omega arith)
ends-after r a Solves e h p = ends-onward r a (first_stop (stops_of (updated r a.energies) a)) e (first-is (stops_of (updated r a.energies) a)) p

-- a run ends only by a refusal that is over, by the solver's stop, or by the first stop that applies
pub ends_by : (r : Run) (a : Answer) → (r.part ≡ nothing → ⊥) → (answered r a).run.part ≡ nothing → Ended r a (answered r a).out
unfolding answered
ends_by r a h p = ends-after r a (judged r.part (checks_of r a)) refl h p

-- and where one of them applies it ends
pub ends_there : (r : Run) (a : Answer) (o : Out) → Ended r a o → ((answered r a).run.part ≡ nothing) × ((answered r a).out ≡ o)
unfolding answered
ends_there r a o (refusal e) = rw e (refl, refl)
ends_there r a o (by_solver e) = rw e (refl, refl)
ends_there r a o (by_stop {why = why} e f) = rw (e, first-only (stops_of (updated r a.energies) a) (Some why) f) (refl, refl)
