-- Demand 3, of the calls: what they show is what the plain run shows, and so what holds of every plain run holds of them. Assumes nothing.
use mathlib.Core.Path.{◌≡◌, refl, sym, ap, ◌∙◌, subst}
use mathlib.Core.Bool.{true}
use mathlib.Core.List.{List}
use Prim.Native.Nat.{ℕ}
use Rattle.lists.specs.Lists.{choose}
use Rattle.run_plain.specs.declared.State.{State}
use Rattle.run_plain.specs.Lent.{Sizes, answer_short}
use Rattle.run_plain.specs.declared.Checks.{Checks}
use Rattle.run_plain.specs.Plain.{Part, nothing, solid, round, judged}
use Rattle.run_plain.specs.Runs.{recorded_in}
use Rattle.run_plain.specs.Calls.{Lists, Arguments, sizes_of, part_of, checks_at, answer_by, answer_of, Asked, World, Call, NoRun}
use Rattle.run_plain.specs.Demand.{OpenedRun, AnyPart, Demand}
use Rattle.run_plain.proofs.Whole.{whole, opened-stands, refused-stands}
use Rattle.run_plain.proofs.Runs.{opened-run}
use Rattle.run_plain.proofs.Begun.{begun-twenty, begun-full}
use Rattle.run_plain.proofs.Made.{made-recorded}
use Rattle.run_plain.proofs.Ends.{opened-ends}

pub demand : (w : World) (k : Sizes) (g : Asked) (more : List Call) → NoRun w.state → Demand w k g more
demand w k g more h =
    let e = whole w k g more h in
    record {
      same = e;
      opened = λ z. subst (OpenedRun _) (sym e) (opened-run _ _ z);
      stands = opened-stands w k g more h;
      twenty = λ z. begun-twenty _ _ z;
      full = λ z. begun-full _ _ z;
      made = λ z. made-recorded _ _ ∙ ap recorded_in (sym (opened-stands w k g more h z).records);
      ends = λ z c. opened-ends w k g more c h z;
      refused = refused-stands w k g more h;
    }

-- ---- a list lent too short
module _ (s : State) (a : Arguments) (l l' : Lists) where
  -- both are refused with 20, or both with 14
  short-keeps : (p : Part) (c c' : Checks) → c.short ≡ true → c'.short ≡ true
      → ((answer_by s a l' (judged p c')).reply ≡ (answer_by s a l (judged p c)).reply) × ((answer_by s a l' (judged p c')).state ≡ s) × ((answer_by s a l' (judged p c')).lists ≡ l')
  unfolding judged choose
  short-keeps nothing c c' e e' = (refl, refl, refl)
  short-keeps solid c c' e e' = rw (e, e') (refl, refl, refl)
  short-keeps (round n) c c' e e' = rw (e, e') (refl, refl, refl)

  pub any_part : (work : List ℕ) → sizes_of work l' ≡ sizes_of work l → answer_short s.setting.elements s.setting.entries s.setting.max_iterations (sizes_of work l) ≡ true → AnyPart s a work l l'
  unfolding answer_of checks_at
  any_part work e h =
      let h' = subst (λ (k : Sizes). answer_short s.setting.elements s.setting.entries s.setting.max_iterations k ≡ true) (sym e) h in
      let t = short-keeps (part_of s) (checks_at s a (sizes_of work l)) (checks_at s a (sizes_of work l')) h h' in
      record { reply = t.0; state = t.1; lists = t.2 }
