-- What each way out of an opening comes to: the definition by what the opening comes to, with what each call leaves put into it. Assumes nothing.
use mathlib.Core.Path.{◌≡◌, refl, sym, ap, ◌∙◌, subst}
use mathlib.Core.Bool.{true, false}
use mathlib.Core.List.{List}
use Prim.Native.Nat.{ℕ}
use lib.ListN.{length, replicate}
use lib.Ieee.{Float}
use Rattle.lists.specs.Lists.{zero64, overlay}
use Rattle.lists.proofs.Laws.{choose-true, choose-false}
use Rattle.refusal.specs.declared.Refusal.{Refusal}
use Rattle.refusal.specs.declared.Refusal.TheVariants.{OutOfTurn, Stopped}
use Rattle.refusal.specs.Refusals.{number_of}
use Rattle.topo.specs.declared.Iteration.{Iteration}
use Rattle.run_plain.specs.declared.State.{State}
use Rattle.run_plain.specs.declared.Reply.TheVariants.{Refused, Solid}
use Rattle.run_plain.specs.Formulas.{ones}
use Rattle.run_plain.specs.Opening.{starts_of, near_of, coef_of, start_of, entry_of, Entry, Kept, Zeroed, Shut, Opens}
use Rattle.filter.specs.Build.{Working, work_lengths}
use Rattle.run_plain.specs.Calls.{Core, Asked, refuses, asks_solid, ended_of, lists_of, in_turn, zeroed_lists, opened_state, open_by, open_of}
use Rattle.run_open_checks.specs.Opens.{opening_in, entry_in, Left, CoreOpened}

module _ (s : State) (g : Asked) (room : ℕ) (l : Core) (w : Working) where
  -- as lent
  kept-work : (n k : ℕ) → Left n w w (Kept k)
  kept-work n k = record { cell = refl; order = refl; first = refl; sorted = refl; stamp = refl; weight = refl; found = refl; bits = refl }

  pub turn_law : in_turn s.phase ≡ false → CoreOpened s g room l w (record { state = s; reply = Refused OutOfTurn }) l w
  unfolding open_of
  turn_law e =
      record {
        same = λ h q. sym (choose-false _ _ _ e);
        work = subst (Left (length l.volumes) w w) (sym (choose-false _ _ _ e)) (kept-work (length l.volumes) 20);
      }

  module _ (turn : in_turn s.phase ≡ true) (v : Entry) (e : entry_of (opening_in g room l w) ≡ v) where
    -- an opening by what it comes to
    by-entry : (h : List Iteration) → length h ≡ room → open_of s g (work_lengths w) (lists_of l h) ≡ open_by s (opening_in g room l w) (lists_of l h) v
    unfolding open_of
    by-entry h q =
        choose-true _ _ _ turn
        ∙ (λ i. open_by s (opening_in g (q i) l w) (lists_of l h) (entry_of (opening_in g (q i) l w)))
        ∙ ap (open_by s (opening_in g room l w) (lists_of l h)) e

    left_by : (w' : Working) → Left (length l.volumes) w w' v → Left (length l.volumes) w w' (entry_in s g room l w)
    left_by w' t = subst (Left (length l.volumes) w w') (sym (choose-true _ _ _ turn ∙ e)) t

  pub kept_law : (x : Refusal) → in_turn s.phase ≡ true → entry_of (opening_in g room l w) ≡ Kept (number_of x) → CoreOpened s g room l w (record { state = s; reply = Refused x }) l w
  kept_law x t e = record { same = λ h q. sym (by-entry t (Kept (number_of x)) e h q); work = left_by t (Kept (number_of x)) e w (kept-work (length l.volumes) (number_of x)) }

  pub zeroed_law : (x : Refusal) (starts near : List ℕ) (coef : List Float) (w' : Working) → in_turn s.phase ≡ true → entry_of (opening_in g room l w) ≡ Zeroed (number_of x)
      → starts ≡ replicate (length l.starts) 0 → near ≡ replicate (length l.near) 0 → coef ≡ replicate (length l.coef) zero64 → Left (length l.volumes) w w' (Zeroed (number_of x))
      → CoreOpened s g room l w (record { state = s; reply = Refused x }) (record { volumes = l.volumes; passive = l.passive; starts = starts; near = near; coef = coef; design = l.design; density = l.density; last = l.last }) w'
  unfolding zeroed_lists
  zeroed_law x starts near coef w' t e es en ec f =
      record {
        same = λ h q. (λ i. record { state = s; reply = refuses (number_of x); lists = record { volumes = l.volumes; passive = l.passive; starts = es i; near = en i; coef = ec i; design = l.design; density = l.density; last = l.last; history = h } }) ∙ sym (by-entry t (Zeroed (number_of x)) e h q);
        work = left_by t (Zeroed (number_of x)) e w' f;
      }

  pub shut_law : (st : State) (starts near : List ℕ) (coef : List Float) (w' : Working) → in_turn s.phase ≡ true → entry_of (opening_in g room l w) ≡ Shut → st ≡ ended_of s
      → starts ≡ overlay (starts_of (opening_in g room l w)) l.starts → near ≡ overlay (near_of (opening_in g room l w)) l.near → coef ≡ overlay (coef_of (opening_in g room l w)) l.coef
      → Left (length l.volumes) w w' Shut
      → CoreOpened s g room l w (record { state = st; reply = Refused Stopped }) (record { volumes = l.volumes; passive = l.passive; starts = starts; near = near; coef = coef; design = l.design; density = l.density; last = l.last }) w'
  shut_law st starts near coef w' t e c es en ec f =
      record {
        same = λ h q. (λ i. record { state = c i; reply = refuses 15; lists = record { volumes = l.volumes; passive = l.passive; starts = es i; near = en i; coef = ec i; design = l.design; density = l.density; last = l.last; history = h } }) ∙ sym (by-entry t Shut e h q);
        work = left_by t Shut e w' f;
      }

  pub opens_law : (st : State) (starts near : List ℕ) (coef design density : List Float) (w' : Working) → in_turn s.phase ≡ true → entry_of (opening_in g room l w) ≡ Opens → st ≡ opened_state g.goal (length l.volumes) (length (near_of (opening_in g room l w)))
      → starts ≡ overlay (starts_of (opening_in g room l w)) l.starts → near ≡ overlay (near_of (opening_in g room l w)) l.near → coef ≡ overlay (coef_of (opening_in g room l w)) l.coef
      → design ≡ overlay (start_of (opening_in g room l w)) l.design → density ≡ overlay (ones (length l.volumes)) l.density
      → Left (length l.volumes) w w' Opens
      → CoreOpened s g room l w (record { state = st; reply = Solid }) (record { volumes = l.volumes; passive = l.passive; starts = starts; near = near; coef = coef; design = design; density = density; last = l.last }) w'
  opens_law st starts near coef design density w' t e c es en ec ed eq f =
      record {
        same = λ h q. (λ i. record { state = c i; reply = asks_solid; lists = record { volumes = l.volumes; passive = l.passive; starts = es i; near = en i; coef = ec i; design = ed i; density = eq i; last = l.last; history = h } }) ∙ sym (by-entry t Opens e h q);
        work = left_by t Opens e w' f;
      }
