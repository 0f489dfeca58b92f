-- What each verdict comes to: the definition by the verdict, with what each call gives put into it. Assumes nothing.
use Rattle.std.specs.Prelude.{Option, Some, None}
use mathlib.Core.Path.{◌≡◌, refl, sym, ap, ◌∙◌, subst}
use mathlib.Core.Bool.{false, ◌||◌}
use mathlib.Core.List.{List, [], ◌∷◌}
use Prim.Native.Nat.{ℕ, suc}
use native.Mathlib.Omega.{arith}
use lib.ListN.{length, take, set}
use lib.Seq.{take_all, length-take-le}
use lib.Ieee.{Float}
use borrow.Author.Tests.{eqb-true, not-false}
use Rattle.lists.specs.Lists.{overlay}
use Rattle.lists.proofs.Laws.{neither}
use Rattle.topo.specs.declared.Iteration.{Iteration}
use Rattle.topo.specs.declared.Stop.{Stop}
use Rattle.topo.specs.declared.Stop.TheVariants.{Stopped}
use Rattle.refusal.specs.declared.Refusal.{Refusal}
use Rattle.run_plain.specs.declared.State.{State}
use Rattle.run_plain.specs.declared.Reply.{Reply}
use Rattle.run_plain.specs.declared.Reply.TheVariants.{Refused, Round, Stop as StopReply}
use Rattle.run_plain.specs.declared.Verdict.{Verdict}
use Rattle.run_plain.specs.declared.Verdict.TheVariants.{Kept, Over, Halts, Begins, Solves}
use Rattle.lent.specs.Lent.{Free, short}
use Rattle.lent.proofs.Lent.{not_short}
use Rattle.run_plain.specs.Lent.{answer_work, run_short, answer_short}
use Rattle.run_plain.specs.Formulas.{see}
use Rattle.run_plain.specs.Plain.{judged, first_stop}
use Rattle.run_plain.specs.Runs.{Sane}
use Rattle.run_plain.specs.Calls.{Result, replied, ended_of, Core, Arguments, lists_of, sizes_in, steep_at, part_of, case_from, checks_at, answer_of, answer_by, solved_by, stops_at, recorded_state, onward_state}
use Rattle.run_plain.specs.Held.{Working, lengths_of}
use Rattle.run_plain.proofs.Parts.{take-overlay, length-overlay, enough as enough-lists}
use Rattle.run_plain.proofs.Formulas.{length-update}
use Rattle.run_plain.proofs.Verdicts.{SaneIf}
use Rattle.run_verdict.proofs.Fits.{sane}
use Rattle.run_answer.specs.declared.Step.{Step}
use Rattle.run_answer.specs.Answers.{noted, verdict_in, worked, CoreAnswered}
use Rattle.run_answer.specs.Steps.{Asks, Enough, case_in, asked, Asked, entry_in, design_in, Solved, Begun, Followed}

-- ---- lists that suffice
work-enough : (s : State) (l : Core) (room : ℕ) (w : Working) → answer_short s.setting.elements s.setting.entries s.setting.max_iterations (sizes_in (lengths_of w) l room) ≡ false → short (lengths_of w) (answer_work s.setting.elements) ≡ false
unfolding answer_short
work-enough s l room w e = (neither (run_short s.setting.elements s.setting.max_iterations (sizes_in (lengths_of w) l room) || short (length l.volumes ∷ length l.passive ∷ length l.near ∷ length l.coef ∷ []) (s.setting.elements ∷ s.setting.elements ∷ s.setting.entries ∷ s.setting.entries ∷ [])) _ e).1

enough-at : (s : State) (a : Arguments) (room : ℕ) (l : Core) (w : Working) → Sane (checks_at s a (sizes_in (lengths_of w) l room)) → Enough s a.energies l w
unfolding checks_at
enough-at s a room l w t =
    let n = enough-lists _ _ _ _ t.0 in
    let f = not_short _ _ _ _ (work-enough s l room w t.0) in
    let g = not_short _ _ _ _ f.1 in
    let h = not_short _ _ _ _ g.1 in
    let i = not_short _ _ _ _ h.1 in
    record {
      energies = eqb-true _ _ (not-false _ t.2);
      asks = record { volumes = n.volumes; passive = n.passive; starts = n.room.starts; near = n.near; coef = n.coef; design = n.room.design; density = n.room.density; spare = g.0 };
      last = n.room.last;
      free = f.0;
      spare = h.0;
      dc = i.0;
      dv = (not_short _ _ _ _ i.1).0;
    }

-- the updated design has one place an element
updated-long : (s : State) (u : List Float) (l : Core) (w : Working) → Enough s u l w → length (design_in s u l) ≡ s.setting.elements
updated-long s u l w n = length-update _ _ _ _ _ ∙ length-take-le s.setting.elements l.design n.asks.design

-- after a round, which keeps the lengths, and in the state that follows
pub asks-later : (s : State) (u : List Float) (l o : Core) (w w' : Working) (r : Iteration) (next : State) → Enough s u l w → Solved s u l w r o w' → next ≡ onward_state s r → Asks next o w'.slope
asks-later s u l o w w' r next n d e =
    let long : length (overlay (design_in s u l) l.design) ≡ length l.design = let e = updated-long s u l w n in let b = n.asks.design in length-overlay _ _ (omega arith) in
    let q = n.asks in
    let k = d.work.slope.0 in
    subst (λ (x : State). Asks x o w'.slope) (sym e)
    (subst (λ (x : Core). Asks (onward_state s r) x w'.slope) (sym d.lists)
    (record { volumes = q.volumes; passive = q.passive; starts = q.starts; near = q.near; coef = q.coef; design = (let b = q.design in omega arith); density = q.density; spare = (let b = q.spare in omega arith) }))

again : (n : ℕ) (a b c : List Float) → Free n a b → Free n b c → Free n a c
again n a b c f g = (g.0 ∙ f.0, g.1 ∙ f.1)

module _ (s : State) (a : Arguments) (room : ℕ) (l : Core) (w : Working) (v : Verdict) (e : v ≡ verdict_in s a room l w) where
  -- an answer by its verdict
  by-verdict : (x : Verdict) (h : List Iteration) → v ≡ x → length h ≡ room → answer_of s a (lengths_of w) (lists_of l h) ≡ answer_by s a (lists_of l h) x
  unfolding answer_of
  by-verdict x h p q = (λ i. answer_by s a (lists_of l h) (judged (part_of s) (checks_at s a (sizes_in (lengths_of w) l (q i))))) ∙ ap (answer_by s a (lists_of l h)) (sym e ∙ p)

  worked-by : (w' : Working) (x : Verdict) → v ≡ x → worked s.setting.elements w w' x → worked s.setting.elements w w' (verdict_in s a room l w)
  worked-by w' x p t = subst (worked s.setting.elements w w') (sym p ∙ e) t

  -- where no record is made
  plainly : (x : Verdict) (r : Step) (st : State) (re : Reply) (o o' : Core) (w' : Working) → v ≡ x → (r.returned.state ≡ st) × (r.returned.reply ≡ re) × (r.entry ≡ None) → o ≡ o'
      → ((h : List Iteration) → ◌≡◌ {A = Result} (record { state = st; reply = replied re; lists = lists_of o' h }) (answer_by s a (lists_of l h) x)) → worked s.setting.elements w w' x → CoreAnswered s a room l w r o w'
  plainly x r st re o o' w' p q b f t =
      record {
        same = λ h k. (λ i. record { state = q.0 i; reply = replied (q.1 i); lists = lists_of (b i) (noted h s.progress.rounds (q.2 i)) }) ∙ f h ∙ sym (by-verdict x h p k);
        work = worked-by w' x p t;
      }

  pub kept_law : (n : Refusal) (r : Step) → v ≡ Kept n → (r.returned.state ≡ s) × (r.returned.reply ≡ Refused n) × (r.entry ≡ None) → CoreAnswered s a room l w r l w
  kept_law n r p q = plainly (Kept n) r s (Refused n) l l w p q refl (λ h. refl) refl

  pub over_law : (n : Refusal) (r : Step) (st : State) → v ≡ Over n → st ≡ ended_of s → (r.returned.state ≡ st) × (r.returned.reply ≡ Refused n) × (r.entry ≡ None) → CoreAnswered s a room l w r l w
  over_law n r st p c q = plainly (Over n) r (ended_of s) (Refused n) l l w p (q.0 ∙ c, q.1, q.2) refl (λ h. refl) refl

  pub halts_law : (r : Step) (st : State) → v ≡ Halts → st ≡ ended_of s → (r.returned.state ≡ st) × (r.returned.reply ≡ StopReply Stopped) × (r.entry ≡ None) → CoreAnswered s a room l w r l w
  halts_law r st p c q = plainly Halts r (ended_of s) (StopReply Stopped) l l w p (q.0 ∙ c, q.1, q.2) refl (λ h. refl) refl

  sane-at : (x : Verdict) → v ≡ x → SaneIf x (checks_at s a (sizes_in (lengths_of w) l room))
  sane-at x p = sane s a (sizes_in (lengths_of w) l room) v e x p

  pub begins-enough : v ≡ Begins → Enough s a.energies l w
  begins-enough p = enough-at s a room l w (sane-at Begins p)

  pub solves-enough : v ≡ Solves → Enough s a.energies l w
  solves-enough p = enough-at s a room l w (sane-at Solves p)

  pub begins_law : (r : Step) (o : Core) (w' : Working) → v ≡ Begins → Begun s a.energies l w r o w' → CoreAnswered s a room l w r o w'
  unfolding case_from
  begins_law r o w' p b = plainly Begins r _ (Round 1) o _ w' p (b.state, b.reply, b.entry) b.lists (λ h. refl) b.work

  pub solves_law : (r : Step) (o : Core) (w' : Working) → v ≡ Solves → Followed s a l w r o w' → CoreAnswered s a room l w r o w'
  solves_law r o w' p f = record { same = λ h k. f.same h ∙ sym (by-verdict Solves h p k); work = worked-by w' Solves p f.work }

-- ---- a round solved
module _ (s : State) (a : Arguments) (l : Core) (w : Working) where
  -- the stops are tried on the record
  by_course : (entry : Iteration) (t x : Option Stop) (h : List Iteration) → entry ≡ entry_in s a.energies l → t ≡ first_stop (stops_at s a.heard entry) → t ≡ x → answer_by s a (lists_of l h) Solves ≡ solved_by s a (lists_of l h) x
  unfolding case_from
  by_course entry t x h e g d = ap (solved_by s a (lists_of l h)) (ap (λ (y : Iteration). first_stop (stops_at s a.heard y)) (sym e) ∙ sym g ∙ d)

  pub stop_law : (st : State) (entry : Iteration) (t : Option Stop) (why : Stop) (o : Core) (w' : Working) → Solved s a.energies l w entry o w'
      → t ≡ first_stop (stops_at s a.heard entry) → t ≡ Some why → st ≡ recorded_state s entry
      → Followed s a l w (record { returned = record { state = st; reply = StopReply why }; entry = Some entry }) o w'
  unfolding case_from
  stop_law st entry t why o w' d g f c =
      let c' = c ∙ ap (recorded_state s) d.entry in
      record {
        same = λ h. (λ i. record { state = c' i; reply = replied (StopReply why); lists = lists_of (d.lists i) (set h s.progress.rounds (d.entry i)) }) ∙ sym (by_course entry t (Some why) h d.entry g f);
        work = d.work;
      }

  -- what is asked for of the updated design
  updated-whole : Enough s a.energies l w → take s.setting.elements (overlay (design_in s a.energies l) l.design) ≡ design_in s a.energies l
  updated-whole n =
      let u = updated-long s a.energies l w n in
      take-overlay s.setting.elements (design_in s a.energies l) l.design (omega arith) ∙ take_all s.setting.elements (design_in s a.energies l) (omega arith)

  pub onward_law : (st : State) (entry : Iteration) (t : Option Stop) (n : ℕ) (o o' : Core) (w' : Working) (slope : List Float) → Enough s a.energies l w → Solved s a.energies l w entry o w'
      → t ≡ first_stop (stops_at s a.heard entry) → t ≡ None → st ≡ onward_state s entry → Asked st o w'.slope o' slope → n ≡ suc (suc s.progress.rounds)
      → Followed s a l w (record { returned = record { state = st; reply = Round n }; entry = Some entry }) o' (record { free = w'.free; slope = slope; spare = w'.spare; dc = w'.dc; dv = w'.dv })
  unfolding case_from
  onward_law st entry t n o o' w' slope z d g f c q en =
      let c' = c ∙ ap (onward_state s) d.entry in
      let x : take s.setting.elements (overlay (design_in s a.energies l) l.design) ≡ design_in s a.energies l = updated-whole z in
      let lists = q.lists ∙ (λ i. asked (c' i) (d.lists i)) in
      record {
        same = λ h. (λ i. record { state = c' i; reply = replied (Round (en i)); lists = lists_of (lists i) (set h s.progress.rounds (d.entry i)) })
            ∙ (λ i. record {
              state = onward_state s (entry_in s a.energies l);
              reply = replied (Round (suc (suc s.progress.rounds)));
              lists = lists_of (record {
                volumes = l.volumes;
                passive = l.passive;
                starts = l.starts;
                near = l.near;
                coef = l.coef;
                design = overlay (design_in s a.energies l) l.design;
                density = overlay (see (case_in s l) (steep_at (onward_state s (entry_in s a.energies l)).progress.stage) (x i)) l.density;
                last = overlay (take s.setting.elements l.density) l.last;
              }) (set h s.progress.rounds (entry_in s a.energies l));
            })
            ∙ sym (by_course entry t None h d.entry g f);
        work = record { free = d.work.free; slope = again s.setting.elements w.slope w'.slope slope d.work.slope (subst (λ (y : State). Free y.setting.elements w'.slope slope) c q.spare); spare = d.work.spare; dc = d.work.dc; dv = d.work.dv };
      }
