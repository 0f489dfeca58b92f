-- What `read_strip` is, case by case, in the words of `check_strip`'s answer. Assumes nothing.
use borrow.Author.Tests.{ltb-false}
use mathlib.Core.Path.{◌≡◌, sym, ap, ◌∙◌}
use mathlib.Core.Bool.{Bool, true, false, ◌||◌}
use mathlib.Core.List.{List}
use Prim.Native.Nat.{ℕ, ◌+◌, ◌≤◌}
use lib.Dec.{ltb}
use lib.ListN.{length}
use Rattle.lists.proofs.Laws.{choose-true, choose-false, neither}
use Rattle.lists.specs.Lists.{overwrite}
use Rattle.strip.proofs.Accepted.{check-refused, check-read, counts}
use Rattle.std.specs.Prelude.{Ok, Err}
use Rattle.refusal.specs.declared.Refusal.{Refusal}
use Rattle.refusal.specs.declared.Refusal.TheVariants.{ListTooShort}
use Rattle.strip.specs.declared.Job.{Job}
use Rattle.strip.specs.Strip.{number_at, flag_at, point_at, plane_at, mirror_at, element_at, job_of, check_strip, Lists, lent, short, filled, reading, read_strip}

module _ (bytes : List ℕ) where
  pub malformed : (l : Lists) (why : Refusal) → check_strip bytes ≡ Err why → reading (Err why) l ≡ read_strip bytes l
  unfolding read_strip
  malformed l why e =
      ap (λ (w : Refusal). reading (Err w) l) (check-refused bytes why e).1 ∙ sym (choose-false _ _ _ (check-refused bytes why e).0)

  pub too_short : (l : Lists) (job : Job) → check_strip bytes ≡ Ok job → short l job.elements job.mirrors ≡ true → reading (Err ListTooShort) l ≡ read_strip bytes l
  unfolding read_strip
  too_short l job e s =
      sym (choose-true _ _ _ (check-read bytes job e).0 ∙ choose-true _ _ _ (rw ((counts bytes job e).0, (counts bytes job e).1) at s))

  pub all_read : (l : Lists) (job : Job) → check_strip bytes ≡ Ok job → short l job.elements job.mirrors ≡ false
      → reading (Ok job) (filled bytes job.elements job.mirrors l) ≡ read_strip bytes l
  unfolding read_strip job_of
  all_read l job e s =
      ap (λ (j : Job). reading (Ok j) (filled bytes j.elements j.mirrors l)) (check-read bytes job e).1
      ∙ sym (choose-true _ _ _ (check-read bytes job e).0 ∙ choose-false _ _ _ (rw ((counts bytes job e).0, (counts bytes job e).1) at s))

-- lists that are not too short
pub roomy : (l : Lists) (n k : ℕ) → short l n k ≡ false
    → (n ≤ length l.volumes) × (n ≤ length l.centroids) × (n ≤ length l.weights) × (n ≤ length l.passive) × (k ≤ length l.mirrors)
unfolding short
roomy l n k e =
    let v : Bool = ltb (length l.volumes) n in
    let c : Bool = ltb (length l.centroids) n in
    let w : Bool = ltb (length l.weights) n in
    let p : Bool = ltb (length l.passive) n in
    let four : ((v || c || w || p) ≡ false) × (ltb (length l.mirrors) k ≡ false) = neither (v || c || w || p) _ e in
    let three : ((v || c || w) ≡ false) × (p ≡ false) = neither (v || c || w) p four.0 in
    let two : ((v || c) ≡ false) × (w ≡ false) = neither (v || c) w three.0 in
    let one : (v ≡ false) × (c ≡ false) = neither v c two.0 in
    (ltb-false _ n one.0, ltb-false _ n one.1, ltb-false _ n two.1, ltb-false _ n three.1, ltb-false _ k four.1)

-- the lists, one by one
pub all-filled : (bytes : List ℕ) (n k : ℕ) (l : Lists) {v : List ℕ} {c : List (List ℕ)} {w : List ℕ} {p : List Bool} {m : List (List ℕ)}
    → v ≡ overwrite (λ e. number_at bytes (element_at k e)) n l.volumes
    → c ≡ overwrite (λ e. point_at bytes (element_at k e + 3)) n l.centroids
    → w ≡ overwrite (λ e. number_at bytes (element_at k e + 12)) n l.weights
    → p ≡ overwrite (λ e. flag_at bytes (element_at k e + 15)) n l.passive
    → m ≡ overwrite (λ i. plane_at bytes (mirror_at i)) k l.mirrors
    → lent v c w p m ≡ filled bytes n k l
unfolding filled
all-filled bytes n k l v c w p m = λ i. lent (v i) (c i) (w i) (p i) (m i)
