-- Laws of answers one after the other, and of an opening. Assumes nothing.
use mathlib.Core.Path.{◌≡◌, refl, sym, ap, ◌∙◌}
use mathlib.Core.Bool.{Bool, true, false}
use mathlib.Core.List.{List}
use Prim.Native.Nat.{ℕ, zero, suc}
use lib.Ieee.{Float}
use Rattle.lists.proofs.Laws.{choose-true, choose-false}
use Rattle.lists.specs.Lists.{choose}
use Rattle.run_plain.specs.Opening.{Opening, Entry, Kept as KeptOut, Zeroed, Shut, Opens, entry_of}
use Rattle.run_plain.specs.Calls.{Lists, Result, answer_of, Asked, opening_of, zeroed_lists, open_by, in_turn, open_of, keeps}
use Rattle.run_plain.specs.declared.State.{State}
use Rattle.run_plain.specs.declared.Returned.{Returned}
use Rattle.shape_job.specs.Held.{result_in}
use Rattle.topo.specs.declared.Iteration.{Iteration}
use Rattle.shape_job.specs.Job.{answer_to, asks, answers_from}

pub answers-none : (weights : List Float) (n : ℕ) (work : List ℕ) (k : ℕ) (r : Result) → k ≡ 0 → r ≡ answers_from weights n work k r
unfolding answers_from
answers-none weights n work k r e = ap (λ (j : ℕ). answers_from weights n work j r) (sym e)

-- no part is asked for
pub answers-over : (weights : List Float) (n : ℕ) (work : List ℕ) (k : ℕ) (r : Result) → asks r.reply ≡ false → r ≡ answers_from weights n work k r
unfolding answers_from
answers-over weights n work zero r e = refl
answers-over weights n work (suc k) r e = sym (choose-false _ _ _ e)

-- one more answer, by lists of the same lengths
pub answers-more : (weights : List Float) (n n' : ℕ) (work work' : List ℕ) (k j : ℕ) (r next : Result) → n ≡ n' → work ≡ work' → asks r.reply ≡ true → k ≡ suc j
    → next ≡ answer_of r.state (answer_to weights n r.lists.density) work r.lists → answers_from weights n' work' j next ≡ answers_from weights n' work' k r
unfolding answers_from
answers-more weights n n' work work' k j r next en ew t h e =
    ap (answers_from weights n' work' j) e
    ∙ (λ i. answers_from weights n' work' j (answer_of r.state (answer_to weights (en i) r.lists.density) (ew i) r.lists))
    ∙ sym (choose-true _ _ _ t)
    ∙ ap (λ (m : ℕ). answers_from weights n' work' m r) (sym h)

-- ---- an opening leaves the last record's densities as they are
open-by-last : (s : State) (o : Opening) (l : Lists) (v : Entry) → (open_by s o l v).lists.last ≡ l.last
unfolding zeroed_lists
open-by-last s o l (KeptOut n) = refl
open-by-last s o l (Zeroed n) = refl
open-by-last s o l Shut = refl
open-by-last s o l Opens = refl

pub open-last : (s : State) (g : Asked) (work : List ℕ) (l : Lists) → (open_of s g work l).lists.last ≡ l.last
unfolding open_of choose
open-last s g work l = go (in_turn s.phase)
  where
    go : (t : Bool) → (choose t (open_by s (opening_of g work l) l (entry_of (opening_of g work l))) (keeps s 20 l)).lists.last ≡ l.last
    go true = open-by-last s (opening_of g work l) l (entry_of (opening_of g work l))
    go false = refl

-- the same lists, of a design and densities that are the same
pub with-fields : (r : Returned) (v : List Float) (p : List Bool) (s n : List ℕ) (c : List Float) {d d' q q' l l' : List Float} (h : List Iteration) → d ≡ d' → q ≡ q' → l ≡ l'
    → result_in r (record { volumes = v; passive = p; starts = s; near = n; coef = c; design = d; density = q; last = l; history = h }) ≡ result_in r (record { volumes = v; passive = p; starts = s; near = n; coef = c; design = d'; density = q'; last = l'; history = h })
with-fields r v p s n c h d q l i = result_in r (record { volumes = v; passive = p; starts = s; near = n; coef = c; design = d i; density = q i; last = l i; history = h })
