-- No call shortens a list, so lists lent whole come back whole. Assumes nothing.
use Rattle.std.specs.Prelude.{Option, Some, None}
use mathlib.Core.Path.{◌≡◌, refl, ap, ◌∙◌}
use mathlib.Core.Bool.{Bool, true, false}
use mathlib.Core.List.{List, [], ◌∷◌, ◌++◌, append-nil}
use Prim.Native.Nat.{ℕ, zero, suc, ◌+◌, ◌≤◌}
use native.Mathlib.Omega.{arith}
use native.Mathlib.Nat.{le_refl}
use lib.ListN.{length, drop, set, replicate, length-set, length-append, length-replicate}
use lib.Seq.{take-length}
use Rattle.lists.specs.Lists.{choose, zero64, overlay}
use Rattle.run_plain.specs.declared.State.{State}
use Rattle.run_plain.specs.declared.Verdict.{Verdict}
use Rattle.run_plain.specs.declared.Verdict.TheVariants.{Kept, Over, Halts, Begins, Solves}
use Rattle.topo.specs.declared.Stop.{Stop}
use Rattle.run_plain.specs.Opening.{Opening, Entry, Kept as KeptOut, Zeroed, Shut, Opens, entry_of}
use Rattle.run_plain.specs.Plain.{judged, first_stop}
use Rattle.run_plain.specs.Calls.{Lists, Arguments, sizes_of, part_of, checks_at, answer_by, answer_of, solved_by, stops_at, record_in, Asked, opening_of, open_by, open_of, in_turn, keeps, zeroed_lists, lend, give_back}

-- each list at least as long as before
pub record Grown (l l' : Lists) : Type 0 where
  pub volumes : length l.volumes ≤ length l'.volumes
  pub passive : length l.passive ≤ length l'.passive
  pub starts : length l.starts ≤ length l'.starts
  pub near : length l.near ≤ length l'.near
  pub coef : length l.coef ≤ length l'.coef
  pub design : length l.design ≤ length l'.design
  pub density : length l.density ≤ length l'.density
  pub last : length l.last ≤ length l'.last
  pub history : length l.history ≤ length l'.history

same : (l : Lists) → Grown l l
same l = record { volumes = le_refl _; passive = le_refl _; starts = le_refl _; near = le_refl _; coef = le_refl _; design = le_refl _; density = le_refl _; last = le_refl _; history = le_refl _ }

drop-long : {A : Type 0} (n : ℕ) (l : List A) → length l ≤ n + length (drop n l)
drop-long zero l = omega arith
drop-long (suc n) [] = omega arith
drop-long (suc n) (x ∷ l) =
    let h : length l ≤ n + length (drop n l) = drop-long n l in
    omega arith

over : {A : Type 0} (new l : List A) → length l ≤ length (overlay new l)
unfolding overlay
over new l =
    let e : length (new ++ drop (length new) l) ≡ length new + length (drop (length new) l) = length-append new _ in
    let h : length l ≤ length new + length (drop (length new) l) = drop-long (length new) l in
    omega arith

put : {A : Type 0} (l : List A) (i : ℕ) (a : A) → length l ≤ length (set l i a)
put l i a =
    let e : length (set l i a) ≡ length l = length-set l i a in
    omega arith

wiped : {A : Type 0} (z : A) (l : List A) → length l ≤ length (replicate (length l) z)
wiped z l =
    let e : length (replicate (length l) z) ≡ length l = length-replicate (length l) z in
    omega arith

-- ---- an answer
solved-grows : (s : State) (a : Arguments) (l : Lists) (c : Option Stop) → Grown l (solved_by s a l c).lists
solved-grows s a l (Some why) =
    record { volumes = le_refl _; passive = le_refl _; starts = le_refl _; near = le_refl _; coef = le_refl _; design = over _ l.design; density = le_refl _; last = over _ l.last; history = put l.history s.progress.rounds (record_in s a l) }
solved-grows s a l None =
    record { volumes = le_refl _; passive = le_refl _; starts = le_refl _; near = le_refl _; coef = le_refl _; design = over _ l.design; density = over _ l.density; last = over _ l.last; history = put l.history s.progress.rounds (record_in s a l) }

by-grows : (s : State) (a : Arguments) (l : Lists) (v : Verdict) → Grown l (answer_by s a l v).lists
by-grows s a l (Kept n) = same l
by-grows s a l (Over n) = same l
by-grows s a l Halts = same l
by-grows s a l Begins = record { volumes = le_refl _; passive = le_refl _; starts = le_refl _; near = le_refl _; coef = le_refl _; design = le_refl _; density = over _ l.density; last = le_refl _; history = le_refl _ }
by-grows s a l Solves = solved-grows s a l (first_stop (stops_at s a.heard (record_in s a l)))

pub answer-grows : (s : State) (a : Arguments) (work : List ℕ) (l : Lists) → Grown l (answer_of s a work l).lists
unfolding answer_of
answer-grows s a work l = by-grows s a l (judged (part_of s) (checks_at s a (sizes_of work l)))

-- ---- an opening
entry-grows : (s : State) (o : Opening) (l : Lists) (v : Entry) → Grown l (open_by s o l v).lists
unfolding zeroed_lists
entry-grows s o l (KeptOut n) = same l
entry-grows s o l (Zeroed n) = record { volumes = le_refl _; passive = le_refl _; starts = wiped 0 l.starts; near = wiped 0 l.near; coef = wiped zero64 l.coef; design = le_refl _; density = le_refl _; last = le_refl _; history = le_refl _ }
entry-grows s o l Shut = record { volumes = le_refl _; passive = le_refl _; starts = over _ l.starts; near = over _ l.near; coef = over _ l.coef; design = le_refl _; density = le_refl _; last = le_refl _; history = le_refl _ }
entry-grows s o l Opens = record { volumes = le_refl _; passive = le_refl _; starts = over _ l.starts; near = over _ l.near; coef = over _ l.coef; design = over _ l.design; density = over _ l.density; last = le_refl _; history = le_refl _ }

pub open-grows : (s : State) (g : Asked) (work : List ℕ) (l : Lists) → Grown l (open_of s g work l).lists
unfolding open_of choose
open-grows s g work l = go (in_turn s.phase)
  where
    go : (t : Bool) → Grown l (choose t (open_by s (opening_of g work l) l (entry_of (opening_of g work l))) (keeps s 20 l)).lists
    go true = entry-grows s (opening_of g work l) l (entry_of (opening_of g work l))
    go false = same l

-- ---- lent whole, and given back
pub lent-whole : (work : List ℕ) (l : Lists) → lend (sizes_of work l) l ≡ l
lent-whole work l i =
    record { volumes = take-length l.volumes i; passive = take-length l.passive i; starts = take-length l.starts i; near = take-length l.near i; coef = take-length l.coef i; design = take-length l.design i; density = take-length l.density i; last = take-length l.last i; history = take-length l.history i }

dropped : {A : Type 0} (n : ℕ) (l : List A) → length l ≤ n → drop n l ≡ []
dropped zero [] h = refl
dropped zero (x ∷ l) h = absurd (omega arith)
dropped (suc n) [] h = refl
dropped (suc n) (x ∷ l) h = dropped n l (omega arith)

covers : {A : Type 0} (new l : List A) → length l ≤ length new → overlay new l ≡ new
unfolding overlay
covers new l h = ap (λ (t : List _). new ++ t) (dropped (length new) l h) ∙ append-nil new

pub back_whole : (p l : Lists) → Grown l p → give_back p l ≡ p
back_whole p l g i =
    record { volumes = covers p.volumes l.volumes g.volumes i; passive = covers p.passive l.passive g.passive i; starts = covers p.starts l.starts g.starts i; near = covers p.near l.near g.near i; coef = covers p.coef l.coef g.coef i; design = covers p.design l.design g.design i; density = covers p.density l.density g.density i; last = covers p.last l.last g.last i; history = covers p.history l.history g.history i }
