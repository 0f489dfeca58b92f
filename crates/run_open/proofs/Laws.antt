-- What each way out of an opening comes to, from what its calls leave. Assumes nothing.
use mathlib.Core.Path.{◌≡◌, refl, sym, ap, ◌∙◌, subst}
use mathlib.Core.Bool.{Bool, true, false}
use mathlib.Core.List.{List, [], ◌∷◌, ◌++◌}
use Prim.Native.Nat.{ℕ, zero, suc, ◌+◌, ◌<◌, ◌≤◌}
use native.Mathlib.Numerals.{add-one}
use native.Mathlib.Omega.{arith}
use lib.ListN.{length, drop, get_or, replicate, get_or-append}
use lib.Dec.{eqb}
use lib.Ieee.{Float}
use borrow.Author.Tests.{ltb-false, eqb-true, ne_eqb, not-false}
use Rattle.lists.specs.Lists.{tabulate, choose, zero64, overlay}
use Rattle.lists.proofs.Laws.{neither, choose-false, length-tabulate, get_or-tabulate, tabulate_throughout}
use Rattle.ieee.specs.Basic.{one64}
use Rattle.filter.specs.Filter.{start}
use Rattle.filter.specs.Build.{Lent, Working, outcome, Built}
use Rattle.lent.specs.Lent.{Outcome, zeroed, done, number_of, left, Worked}
use Rattle.refusal.specs.declared.Refusal.{Refusal}
use Rattle.refusal.specs.Refusals.{number_of as number_of_refusal}
use Rattle.refusal.proofs.Numbers.{some_number}
use Rattle.run_plain.specs.declared.State.{State}
use Rattle.run_plain.specs.declared.Reply.TheVariants.{Refused}
use Rattle.run_plain.specs.Lent.{open_short, run_short}
use Rattle.run_plain.specs.Formulas.{ones}
use Rattle.run_plain.specs.Opening.{Opening, elements, starts_of, near_of, coef_of, start_of, table_refusal, first_refusal, lastly, entry_of, Zeroed, Shut, Opens, Kept}
use Rattle.run_plain.specs.Calls.{Core, Asked, ended_of, in_turn, opened_state}
use Rattle.run_plain.proofs.Formulas.{length-start}
use Rattle.run_plain.specs.declared.Returned.{Returned}
use Rattle.run_open_checks.specs.Opens.{opening_in, Left, CoreOpened}
use Rattle.run_open_checks.proofs.Opens.{kept_law, zeroed_law, shut_law, opens_law}
use Rattle.run_open_checks.proofs.Outcome.{entry_kept, entry-zeroed, entry-last, passed, not_short, outcome-is}
use Rattle.run_open_last.specs.Steps.{Lists, Lastly, ShutBy, begun, BegunBy}

-- the lists of a build
abbrev pub lent_of : List ℕ → List ℕ → List Float → Working → Lent
lent_of st ne co w = record { starts = st; near = ne; coef = co; cell = w.cell; order = w.order; first = w.first; sorted = w.sorted; stamp = w.stamp; weight = w.weight; found = w.found; bits = w.bits }

zeroed-is : (n : ℕ) → choose (eqb (suc n) 0) done (zeroed (suc n)) ≡ zeroed (suc n)
zeroed-is n = choose-false _ _ _ (ne_eqb (suc n) 0 (λ e. absurd (omega (arith, e))))

number_is : (t : ℕ) → number_of (choose (eqb t 0) done (zeroed t)) ≡ t
unfolding choose
number_is zero = refl
number_is (suc n) = ap number_of (zeroed-is n)

built-is : choose (eqb 0 0) done (zeroed 0) ≡ done
unfolding choose
built-is = refl

module _ (s : State) (g : Asked) (room : ℕ) (l : Core) (w : Working) where
  abbrev o : Opening
  o = opening_in g room l w

  -- a refusal before the rows
  pub refused_law : (x : Refusal) → in_turn s.phase ≡ true → number_of_refusal x ≡ first_refusal o → CoreOpened s g room l w (record { state = s; reply = Refused x }) l w
  refused_law x t e = kept_law s g room l w x t (go (number_of_refusal x) (some_number x) (sym e))
    where
      go : (k : ℕ) → 0 < k → first_refusal o ≡ k → entry_of o ≡ Kept k
      go zero p q = absurd (omega (arith, p))
      go (suc n) p q = entry_kept o n q

  module _ (turn : in_turn s.phase ≡ true) (none : first_refusal o ≡ 0) (b : ℕ) (st ne : List ℕ) (co : List Float) (w₁ : Working)
      (made : Built g.centroids l.volumes g.goal.radius g.mirrors (lent_of l.starts l.near l.coef w) b (lent_of st ne co w₁)) where
    abbrev came : Outcome
    came = outcome g.centroids l.volumes g.goal.radius g.mirrors (lent_of l.starts l.near l.coef w)

    comes : came ≡ choose (eqb (table_refusal o) 0) done (zeroed (table_refusal o))
    comes = outcome-is o (lent_of l.starts l.near l.coef w) (record { starts = refl; near = refl; coef = refl; work = refl }) none

    b-is : b ≡ table_refusal o
    b-is = made.number ∙ ap number_of comes ∙ number_is (table_refusal o)

    long : length g.centroids ≡ length l.volumes
    long = eqb-true _ _ (not-false _ (passed o none).middles)

    -- a refusal in a row
    zeroes : (n : ℕ) → b ≡ suc n → came ≡ zeroed (suc n)
    zeroes n e = comes ∙ ap (λ (t : ℕ). choose (eqb t 0) done (zeroed t)) (sym b-is ∙ e) ∙ zeroed-is n

    rows-by : (x : Refusal) (n : ℕ) → b ≡ number_of_refusal x → b ≡ suc n → CoreOpened s g room l w (record { state = s; reply = Refused x }) (record { volumes = l.volumes; passive = l.passive; starts = st; near = ne; coef = co; design = l.design; density = l.density; last = l.last }) w₁
    unfolding near_of coef_of
    rows-by x n d e =
        let c = zeroes n e in
        let f = entry-zeroed o n none (sym b-is ∙ e) in
        let h : Left (length l.volumes) w w₁ (Zeroed (number_of_refusal x)) =
        record {
          cell = subst (λ (v : Outcome). Worked v (length g.centroids) (0 ∷ 0 ∷ 0 ∷ []) w.cell w₁.cell) c made.cell;
          order = subst (λ (v : Outcome). Worked v (length g.centroids) 0 w.order w₁.order) c made.order;
          first = subst (λ (v : Outcome). Worked v (length g.centroids + 1) 0 w.first w₁.first) c made.first;
          sorted = subst (λ (v : Outcome). Worked v (length g.centroids) (zero64 ∷ zero64 ∷ zero64 ∷ []) w.sorted w₁.sorted) c made.sorted;
          stamp = subst (λ (v : Outcome). Worked v (length g.centroids) 0 w.stamp w₁.stamp) c made.stamp;
          weight = subst (λ (v : Outcome). Worked v (length g.centroids) zero64 w.weight w₁.weight) c made.weight;
          found = subst (λ (v : Outcome). Worked v (length g.centroids) 0 w.found w₁.found) c made.found;
          bits = subst (λ (v : Outcome). Worked v 1040 0 w.bits w₁.bits) c made.bits;
        } in
        zeroed_law s g room l w x st ne co w₁ turn (f ∙ ap Zeroed (sym e ∙ d))
        (made.starts ∙ ap (λ (v : Outcome). left v (tabulate (start g.centroids g.goal.radius g.mirrors) (length g.centroids + 1)) 0 l.starts) c)
        (made.near ∙ ap (λ (v : Outcome). left v (near_of o) 0 l.near) c)
        (made.coef ∙ ap (λ (v : Outcome). left v (coef_of o) zero64 l.coef) c)
        h

    pub rows_law : (x : Refusal) → b ≡ number_of_refusal x → CoreOpened s g room l w (record { state = s; reply = Refused x }) (record { volumes = l.volumes; passive = l.passive; starts = st; near = ne; coef = co; design = l.design; density = l.density; last = l.last }) w₁
    rows_law x d = go (number_of_refusal x) (some_number x) d
      where
        go : (k : ℕ) → 0 < k → b ≡ k → CoreOpened s g room l w (record { state = s; reply = Refused x }) (record { volumes = l.volumes; passive = l.passive; starts = st; near = ne; coef = co; design = l.design; density = l.density; last = l.last }) w₁
        go zero p e = absurd (omega (arith, p))
        go (suc n) p e = rows-by x n d e

    -- the table is built
    module _ (zero-b : b ≡ 0) where
      all : came ≡ done
      all = comes ∙ ap (λ (t : ℕ). choose (eqb t 0) done (zeroed t)) (sym b-is ∙ zero-b) ∙ built-is

      starts_is : st ≡ overlay (starts_of o) l.starts
      unfolding overlay starts_of
      starts_is = made.starts ∙ ap (λ (v : Outcome). left v (starts_of o) 0 l.starts) all

      near-is : ne ≡ overlay (near_of o) l.near
      unfolding overlay near_of
      near-is = made.near ∙ ap (λ (v : Outcome). left v (near_of o) 0 l.near) all

      coef-is : co ≡ overlay (coef_of o) l.coef
      unfolding overlay coef_of
      coef-is = made.coef ∙ ap (λ (v : Outcome). left v (coef_of o) zero64 l.coef) all

      worked : Left (length g.centroids) w w₁ Opens
      worked =
          let f = subst (λ (v : Outcome). Worked v (length g.centroids + 1) 0 w.first w₁.first) all made.first in
          record {
            cell = subst (λ (v : Outcome). Worked v (length g.centroids) (0 ∷ 0 ∷ 0 ∷ []) w.cell w₁.cell) all made.cell;
            order = subst (λ (v : Outcome). Worked v (length g.centroids) 0 w.order w₁.order) all made.order;
            first = (f.0, subst (λ (k : ℕ). drop k w₁.first ≡ drop k w.first) (add-one (length g.centroids)) f.1);
            sorted = subst (λ (v : Outcome). Worked v (length g.centroids) (zero64 ∷ zero64 ∷ zero64 ∷ []) w.sorted w₁.sorted) all made.sorted;
            stamp = subst (λ (v : Outcome). Worked v (length g.centroids) 0 w.stamp w₁.stamp) all made.stamp;
            weight = subst (λ (v : Outcome). Worked v (length g.centroids) zero64 w.weight w₁.weight) all made.weight;
            found = subst (λ (v : Outcome). Worked v (length g.centroids) 0 w.found w₁.found) all made.found;
            bits = subst (λ (v : Outcome). Worked v 1040 0 w.bits w₁.bits) all made.bits;
          }

      -- in front of the last step: what is not too short
      pub design-fits : length l.passive ≤ length l.design
      unfolding open_short run_short
      design-fits =
          let r = neither (run_short (elements o) g.goal.max_iterations o.lent) _ (passed o none).room in
          let p : length l.volumes ≤ length l.design = ltb-false _ _ (not_short _ _ _ _ (not_short _ _ _ _ r.0).1).0 in
          let m : length l.passive ≡ length l.volumes = eqb-true _ _ (not-false _ (passed o none).marks) in
          omega (arith, p, m)

      pub density-fits : length l.volumes ≤ length l.density
      unfolding open_short run_short
      density-fits =
          let r = neither (run_short (elements o) g.goal.max_iterations o.lent) _ (passed o none).room in
          ltb-false _ _ (not_short _ _ _ _ (not_short _ _ _ _ (not_short _ _ _ _ r.0).1).1).0

      -- where the last row ends
      entries-are : (e : ℕ) → e ≡ get_or st (length l.volumes) 0 → e ≡ length (near_of o)
      unfolding overlay starts_of near_of start
      entries-are e f =
          f ∙ (λ i. get_or (starts_is i) (sym long i) 0)
          ∙ get_or-append (starts_of o) _ 0 (length g.centroids) (omega (arith, length-tabulate (start g.centroids g.goal.radius g.mirrors) (length g.centroids + 1)))
          ∙ get_or-tabulate (start g.centroids g.goal.radius g.mirrors) (length g.centroids + 1) (length g.centroids) 0 (omega arith)

      -- the lists that the last step is lent, and the same with the table
      abbrev lent : Lists
      lent = record { volumes = l.volumes; passive = l.passive; design = l.design; density = l.density; last = l.last }

      abbrev with_table : Lists → Core
      with_table x = record { volumes = x.volumes; passive = x.passive; starts = st; near = ne; coef = co; design = x.design; density = x.density; last = x.last }

      -- the flag is set
      shut : (r : Returned) (x : Lists) (w₂ : Working) → g.flag ≡ true → ShutBy s lent w₁ r x w₂ → CoreOpened s g room l w r (with_table x) w₂
      shut r x w₂ t h =
          let k = worked in
          let f : Left (length l.volumes) w w₂ Shut =
          record {
            cell = h.work.cells ∙ ap (λ (n : ℕ). replicate n (0 ∷ 0 ∷ 0 ∷ [])) k.cell.0;
            order = h.work.orders ∙ ap (λ (n : ℕ). replicate n 0) k.order.0;
            first = h.work.firsts ∙ ap (λ (n : ℕ). replicate n 0) k.first.0;
            sorted = h.work.sorteds ∙ ap (λ (n : ℕ). replicate n (zero64 ∷ zero64 ∷ zero64 ∷ [])) k.sorted.0;
            stamp = h.work.stamps ∙ ap (λ (n : ℕ). replicate n 0) k.stamp.0;
            weight = h.work.weights ∙ ap (λ (n : ℕ). replicate n zero64) k.weight.0;
            found = h.work.founds ∙ ap (λ (n : ℕ). replicate n 0) k.found.0;
            bits = h.work.maps ∙ ap (λ (n : ℕ). replicate n 0) k.bits.0;
          } in
          let e : entry_of o ≡ Shut = entry-last o none (sym b-is ∙ zero-b) ∙ ap (lastly o) t in
          let m = shut_law s g room l w (ended_of s) st ne co w₂ turn e refl starts_is near-is coef-is f in
          subst (λ (z : Lists). CoreOpened s g room l w r (with_table z) w₂) (sym h.lists) (subst (λ (z : Returned). CoreOpened s g room l w z (with_table lent) w₂) (sym h.returned) m)

      -- it is not
      begun_law : (entries : ℕ) → entries ≡ get_or st (length l.volumes) 0 → (r : Returned) (x : Lists) (w₂ : Working) → g.flag ≡ false → BegunBy g.goal entries lent w₁ r x w₂ → CoreOpened s g room l w r (with_table x) w₂
      unfolding overlay ones start_of
      begun_law entries a r x w₂ t h =
          let e : entry_of o ≡ Opens = entry-last o none (sym b-is ∙ zero-b) ∙ ap (lastly o) t in
          let f : Left (length l.volumes) w w₂ Opens = subst (λ (v : Working). Left (length l.volumes) w v Opens) (sym h.work) (subst (λ (k : ℕ). Left k w w₁ Opens) long worked) in
          let d = ap (λ (k : ℕ). start_of o ++ drop k l.design) (sym (length-start o)) in
          let q = (λ i. sym (tabulate_throughout one64 (length l.volumes)) i ++ drop (length l.volumes) l.density) ∙ ap (λ (k : ℕ). ones (length l.volumes) ++ drop k l.density) (sym (length-tabulate (λ _. one64) (length l.volumes))) in
          let n = entries-are entries a in
          let m = opens_law s g room l w (opened_state g.goal (length l.volumes) entries) st ne co (begun g.goal lent).design (begun g.goal lent).density w₂ turn e
          (ap (opened_state g.goal (length l.volumes)) n) starts_is near-is coef-is d q f in
          subst (λ (z : Lists). CoreOpened s g room l w r (with_table z) w₂) (sym h.lists) (subst (λ (z : Returned). CoreOpened s g room l w z (with_table (begun g.goal lent)) w₂) (sym h.returned) m)

      pub last_law : (entries : ℕ) → entries ≡ get_or st (length l.volumes) 0 → (r : Returned) (x : Lists) (w₂ : Working) → Lastly g.flag s g.goal entries lent w₁ r x w₂ → CoreOpened s g room l w r (with_table x) w₂
      last_law entries a r x w₂ h = go g.flag refl h
        where
          go : (t : Bool) → g.flag ≡ t → Lastly t s g.goal entries lent w₁ r x w₂ → CoreOpened s g room l w r (with_table x) w₂
          go true t k = shut r x w₂ t k
          go false t k = begun_law entries a r x w₂ t k
