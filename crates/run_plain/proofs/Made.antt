-- "makes just the reckonings in its records": as many kept volumes are evaluated as the records tell. Assumes nothing.
use Rattle.topo.specs.declared.Stop.{Stop}
use Rattle.std.specs.Prelude.{Option, Some, None}
use mathlib.Core.Path.{◌≡◌, sym, ap, ◌∙◌}
use mathlib.Core.List.{List, [], ◌∷◌, ◌++◌}
use Prim.Native.Nat.{ℕ, suc, ◌+◌}
use native.Mathlib.Omega.{arith}
use lib.ListN.{length}
use Rattle.topo.specs.declared.Iteration.{Iteration}
use Rattle.update_rates.proofs.Tried.{passes-reckoned}
use Rattle.run_plain.specs.declared.Verdict.{Verdict}
use Rattle.run_plain.specs.declared.Verdict.TheVariants.{Kept, Over, Halts, Begins, Solves}
use Rattle.run_plain.specs.Formulas.{given_at, update_at, record_at}
use Rattle.run_plain.specs.Opening.{Opening, case_of}
use Rattle.run_plain.specs.Plain.{Answer, in_order, judged, first_stop, Run, plain_start, asked_of, updated, stops_of, onward, checks_of, after, answered, run_from}
use Rattle.run_plain.specs.Runs.{made_by, made, recorded_in}

recorded_more : (l : List Iteration) (e : Iteration) → recorded_in (l ++ (e ∷ [])) ≡ recorded_in l + e.passes
unfolding recorded_in
recorded_more [] e = omega arith
recorded_more (x ∷ l) e = omega (arith, recorded_more l e)

abbrev entry : Run → Answer → Iteration
entry r a = record_at (case_of r.given) r.steep r.design (asked_of r) a.energies (suc (length r.rows))

-- a round's record tells what its update evaluates
pub entry-passes : (r : Run) (a : Answer) → length (made_by r a Solves) ≡ (entry r a).passes
unfolding record_at update_at
entry-passes r a = sym (passes-reckoned (given_at (case_of r.given) r.steep r.design (asked_of r) a.energies))

one_more : (r : Run) (a : Answer) (v : Verdict) → recorded_in (in_order (after r a v).run.rows) ≡ recorded_in (in_order r.rows) + length (made_by r a v)
one_more r a (Kept n) = omega arith
one_more r a (Over n) = omega arith
one_more r a Halts = omega arith
one_more r a Begins = omega arith
one_more r a Solves = by (first_stop (stops_of (updated r a.energies) a))
  where
    plus : recorded_in (in_order r.rows ++ (entry r a ∷ [])) ≡ recorded_in (in_order r.rows) + length (made_by r a Solves)
    plus = recorded_more (in_order r.rows) (entry r a) ∙ ap (λ (k : ℕ). recorded_in (in_order r.rows) + k) (sym (entry-passes r a))

    by : (v : Option Stop) → recorded_in (in_order (onward (updated r a.energies) v).run.rows) ≡ recorded_in (in_order r.rows) + length (made_by r a Solves)
    by (Some why) = plus
    by None = plus

one_answer : (r : Run) (a : Answer) → recorded_in (in_order (answered r a).run.rows) ≡ recorded_in (in_order r.rows) + length (made_by r a (judged r.part (checks_of r a)))
unfolding answered
one_answer r a = one_more r a (judged r.part (checks_of r a))

made-from : (r : Run) (more : List Answer) → recorded_in (in_order (run_from r more).rows) ≡ recorded_in (in_order r.rows) + made r more
unfolding run_from made
made-from r [] = omega arith
made-from r (a ∷ more) = omega (arith, one_answer r a, made-from (answered r a).run more)

-- of an opened run
pub made-recorded : (o : Opening) (more : List Answer) → made (plain_start o) more ≡ recorded_in (in_order (run_from (plain_start o) more).rows)
unfolding recorded_in
made-recorded o more = let h = made-from (plain_start o) more in omega (arith, h)
