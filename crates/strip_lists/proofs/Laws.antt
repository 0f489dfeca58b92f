-- What a strip's reading tells, and what follows of the lists of floats. Assumes nothing.
use mathlib.Core.Path.{◌≡◌, refl, sym, ap, ◌∙◌}
use mathlib.Core.Bool.{Bool, true, false, not, ◌&&◌}
use mathlib.Core.List.{List, []}
use Prim.Native.Nat.{ℕ, ◌+◌, ◌≤◌}
use native.Mathlib.Omega.{arith}
use lib.ListN.{length, get_or}
use lib.Ieee.{of_bits, binary64}
use borrow.Author.Tests.{ltb-false}
use Rattle.lists.specs.Lists.{choose, overwrite}
use Rattle.lists.proofs.Laws.{overwrite-same, length-overwrite, get_or-overwrite-below, neither}
use Rattle.strip.specs.declared.Job.{Job}
use Rattle.std.specs.Prelude.{Result, Ok, Err}
use Rattle.refusal.specs.declared.Refusal.{Refusal}
use Rattle.refusal.specs.declared.Refusal.TheVariants.{StripMalformed, ListTooShort}
use Rattle.strip.specs.Strip.{Lists as Patterns, Reading, reading, read_strip, accepted, short, filled, job_of, word_at, elements_of, mirrors_of, element_at, mirror_at, number_at, point_at, plane_at, flag_at}
use Rattle.strip_floats.specs.Floats.{float_at, point_of, plane_of}
use Rattle.strip_lists.specs.Loaded.{Lists, too_short, filled as filled_floats, Loaded}

-- it was read
record Was (bytes : List ℕ) (p p' : Patterns) (j : Job) : Type 0 where
  pub well : accepted bytes ≡ true
  pub long : short p (elements_of bytes) (mirrors_of bytes) ≡ false
  pub job : j ≡ job_of (word_at bytes)
  pub lists : p' ≡ filled bytes (elements_of bytes) (mirrors_of bytes) p

abbrev by : List ℕ → Patterns → Bool → Bool → Reading
by bytes p t u = choose t (choose u (reading (Err ListTooShort) p) (reading (Ok (job_of (word_at bytes))) (filled bytes (elements_of bytes) (mirrors_of bytes) p))) (reading (Err StripMalformed) p)

was_read : (bytes : List ℕ) (p p' : Patterns) (job : Job) → reading (Ok job) p' ≡ read_strip bytes p → Was bytes p p' job
unfolding read_strip choose
was_read bytes p p' job e = go (accepted bytes) (short p (elements_of bytes) (mirrors_of bytes)) refl refl e
  where
    go : (t u : Bool) → accepted bytes ≡ t → short p (elements_of bytes) (mirrors_of bytes) ≡ u → reading (Ok job) p' ≡ by bytes p t u → Was bytes p p' job
    go true false h k f =
        let f' : ◌≡◌ {A = Result Job Refusal} (Ok job) (Ok (job_of (word_at bytes))) = ap (λ (x : Reading). x.answer) f in
        let g : job ≡ job_of (word_at bytes) = cc in
        record { well = h; long = k; job = g; lists = ap (λ (x : Reading). x.lists) f }
    go true true h k f =
        let f' : ◌≡◌ {A = Result Job Refusal} (Ok job) (Err ListTooShort) = ap (λ (x : Reading). x.answer) f in
        cc
    go false u h k f =
        let f' : ◌≡◌ {A = Result Job Refusal} (Ok job) (Err StripMalformed) = ap (λ (x : Reading). x.answer) f in
        cc

-- it was not
not-read : (bytes : List ℕ) (p p' : Patterns) (why : Refusal) → reading (Err why) p' ≡ read_strip bytes p
    → (accepted bytes && not (short p (elements_of bytes) (mirrors_of bytes))) ≡ false
unfolding read_strip choose
not-read bytes p p' why e = go (accepted bytes) (short p (elements_of bytes) (mirrors_of bytes)) e
  where
    go : (t u : Bool) → reading (Err why) p' ≡ by bytes p t u → (t && not u) ≡ false
    go true false f =
        let f' : ◌≡◌ {A = Result Job Refusal} (Err why) (Ok (job_of (word_at bytes))) = ap (λ (x : Reading). x.answer) f in
        cc
    go true true f = refl
    go false u f = refl

-- how long the lists of patterns are
record Longs (p : Patterns) (n k : ℕ) : Type 0 where
  pub volumes : n ≤ length p.volumes
  pub centroids : n ≤ length p.centroids
  pub weights : n ≤ length p.weights
  pub mirrors : k ≤ length p.mirrors

longs : (p : Patterns) (n k : ℕ) → short p n k ≡ false → Longs p n k
unfolding short
longs p n k h =
    let a = neither _ _ h in
    let b = neither _ _ a.0 in
    let c = neither _ _ b.0 in
    let d = neither _ _ c.0 in
    record { volumes = ltb-false _ _ d.0; centroids = ltb-false _ _ d.1; weights = ltb-false _ _ c.1; mirrors = ltb-false _ _ a.1 }

-- and those of floats
record Roomy (l : Lists) (n k : ℕ) : Type 0 where
  pub volumes : n ≤ length l.volumes
  pub centroids : n ≤ length l.centroids
  pub weights : n ≤ length l.weights
  pub mirrors : k ≤ length l.mirrors

roomy : (l : Lists) (n k : ℕ) → too_short l n k ≡ false → Roomy l n k
unfolding too_short
roomy l n k h =
    let a = neither _ _ h in
    let b = neither _ _ a.0 in
    let c = neither _ _ b.0 in
    record { volumes = ltb-false _ _ c.0; centroids = ltb-false _ _ c.1; weights = ltb-false _ _ b.1; mirrors = ltb-false _ _ a.1 }

-- what is read back is what was written
through : {A B : Type 0} (g : A → B) (f : ℕ → A) (n : ℕ) (l : List A) (d : A) (to : List B) → n ≤ length l
    → overwrite (λ i. g (get_or (overwrite f n l) i d)) n to ≡ overwrite (λ i. g (f i)) n to
through g f n l d to h = overwrite-same _ _ n to (λ k q. ap g (get_or-overwrite-below f n l k d q (omega arith)))

-- ---- the three ways
no_read : (bytes : List ℕ) (p : Patterns) (l l' : Lists) → (accepted bytes && not (short p (elements_of bytes) (mirrors_of bytes))) ≡ false → Loaded bytes p l false l'
no_read bytes p l l' h = record { said = go (accepted bytes) (not (short p (elements_of bytes) (mirrors_of bytes))) (not (too_short l (elements_of bytes) (mirrors_of bytes))) h; lists = λ e. never e }
  where
    go : (t u v : Bool) → (t && u) ≡ false → false ≡ (t && u && v)
    go true true v h = let z : ◌≡◌ {A = ℕ} 0 1 = cc in absurd (omega arith)
    go true false v h = refl
    go false u v h = refl

    never : {X : Type 0} → ◌≡◌ {A = Bool} false true → X
    never e = let z : ◌≡◌ {A = ℕ} 0 1 = cc in absurd (omega arith)

no_room : (bytes : List ℕ) (p : Patterns) (l l' : Lists) → too_short l (elements_of bytes) (mirrors_of bytes) ≡ true → Loaded bytes p l false l'
no_room bytes p l l' h = record { said = go (accepted bytes) (not (short p (elements_of bytes) (mirrors_of bytes))) (too_short l (elements_of bytes) (mirrors_of bytes)) h; lists = λ e. never e }
  where
    go : (t u v : Bool) → v ≡ true → false ≡ (t && u && not v)
    go true true true h = refl
    go true true false h = let z : ◌≡◌ {A = ℕ} 0 1 = cc in absurd (omega arith)
    go true false v h = refl
    go false u v h = refl

    never : {X : Type 0} → ◌≡◌ {A = Bool} false true → X
    never e = let z : ◌≡◌ {A = ℕ} 0 1 = cc in absurd (omega arith)

loaded : (bytes : List ℕ) (p p' : Patterns) (l l' : Lists) (job : Job) → Was bytes p p' job → too_short l (elements_of bytes) (mirrors_of bytes) ≡ false
    → l'.volumes ≡ overwrite (float_at p'.volumes) (elements_of bytes) l.volumes
    → l'.centroids ≡ overwrite (λ i. point_of (get_or p'.centroids i [])) (elements_of bytes) l.centroids
    → l'.weights ≡ overwrite (float_at p'.weights) (elements_of bytes) l.weights
    → l'.passive ≡ p'.passive → l.passive ≡ p.passive
    → l'.mirrors ≡ overwrite (λ i. plane_of (get_or p'.mirrors i [])) (mirrors_of bytes) l.mirrors
    → Loaded bytes p l true l'
unfolding filled filled_floats
loaded bytes p p' l l' job w h ev ec ew ep eq em =
    let n = elements_of bytes in
    let k = mirrors_of bytes in
    let long : Longs p n k = longs p n k w.long in
    let fv = ap (λ (x : Patterns). overwrite (float_at x.volumes) n l.volumes) w.lists ∙ through (of_bits binary64) (λ e. number_at bytes (element_at k e)) n p.volumes 0 l.volumes long.volumes in
    let fc = ap (λ (x : Patterns). overwrite (λ i. point_of (get_or x.centroids i [])) n l.centroids) w.lists ∙ through point_of (λ e. point_at bytes (element_at k e + 3)) n p.centroids [] l.centroids long.centroids in
    let fw = ap (λ (x : Patterns). overwrite (float_at x.weights) n l.weights) w.lists ∙ through (of_bits binary64) (λ e. number_at bytes (element_at k e + 12)) n p.weights 0 l.weights long.weights in
    let fp = ap (λ (x : Patterns). x.passive) w.lists ∙ ap (overwrite (λ e. flag_at bytes (element_at k e + 15)) n) (sym eq) in
    let fm = ap (λ (x : Patterns). overwrite (λ i. plane_of (get_or x.mirrors i [])) k l.mirrors) w.lists ∙ through plane_of (λ i. plane_at bytes (mirror_at i)) k p.mirrors [] l.mirrors long.mirrors in
    record {
      said = sym ((λ i. w.well i && not (w.long i) && not (h i)));
      lists = λ e. λ i. record { volumes = (ev ∙ fv) i; centroids = (ec ∙ fc) i; weights = (ew ∙ fw) i; passive = (ep ∙ fp) i; mirrors = (em ∙ fm) i };
    }

-- ---- as the program goes
module _ (bytes : List ℕ) (p p' : Patterns) (l l' : Lists) where
  pub refused : (why : Refusal) → reading (Err why) p' ≡ read_strip bytes p → Loaded bytes p l false l'
  refused why e = no_read bytes p l l' (not-read bytes p p' why e)

  module _ (job : Job) (e : reading (Ok job) p' ≡ read_strip bytes p) where
    was : Was bytes p p' job
    was = was_read bytes p p' job e

    elements-is : job.elements ≡ elements_of bytes
    unfolding job_of
    elements-is = ap (λ (j : Job). j.elements) was.job

    mirrors-is : job.mirrors ≡ mirrors_of bytes
    unfolding job_of
    mirrors-is = ap (λ (j : Job). j.mirrors) was.job

    short-is : too_short l job.elements job.mirrors ≡ too_short l (elements_of bytes) (mirrors_of bytes)
    short-is = λ i. too_short l (elements-is i) (mirrors-is i)

    pub too_few : too_short l job.elements job.mirrors ≡ true → Loaded bytes p l false l'
    too_few h = no_room bytes p l l' (sym short-is ∙ h)

    -- every list has places enough
    pub record Ready : Type 0 where
      pub volumes : (job.elements ≤ length p'.volumes) × (job.elements ≤ length l.volumes)
      pub centroids : (job.elements ≤ length p'.centroids) × (job.elements ≤ length l.centroids)
      pub weights : (job.elements ≤ length p'.weights) × (job.elements ≤ length l.weights)
      pub mirrors : (job.mirrors ≤ length p'.mirrors) × (job.mirrors ≤ length l.mirrors)

    pub ready : too_short l job.elements job.mirrors ≡ false → Ready
    unfolding filled
    ready h =
        let r : Roomy l job.elements job.mirrors = roomy l job.elements job.mirrors h in
        let long : Longs p (elements_of bytes) (mirrors_of bytes) = longs p _ _ was.long in
        record {
          volumes = (omega (arith, elements-is, long.volumes, ap (λ (x : Patterns). length x.volumes) was.lists ∙ length-overwrite _ _ _), r.volumes);
          centroids = (omega (arith, elements-is, long.centroids, ap (λ (x : Patterns). length x.centroids) was.lists ∙ length-overwrite _ _ _), r.centroids);
          weights = (omega (arith, elements-is, long.weights, ap (λ (x : Patterns). length x.weights) was.lists ∙ length-overwrite _ _ _), r.weights);
          mirrors = (omega (arith, mirrors-is, long.mirrors, ap (λ (x : Patterns). length x.mirrors) was.lists ∙ length-overwrite _ _ _), r.mirrors);
        }

    pub done : too_short l job.elements job.mirrors ≡ false
        → l'.volumes ≡ overwrite (float_at p'.volumes) job.elements l.volumes
        → l'.centroids ≡ overwrite (λ i. point_of (get_or p'.centroids i [])) job.elements l.centroids
        → l'.weights ≡ overwrite (float_at p'.weights) job.elements l.weights
        → l'.passive ≡ p'.passive → l.passive ≡ p.passive
        → l'.mirrors ≡ overwrite (λ i. plane_of (get_or p'.mirrors i [])) job.mirrors l.mirrors
        → Loaded bytes p l true l'
    done h v c w q r m =
        loaded bytes p p' l l' job was (sym short-is ∙ h)
        (v ∙ ap (λ (j : ℕ). overwrite (float_at p'.volumes) j l.volumes) elements-is)
        (c ∙ ap (λ (j : ℕ). overwrite (λ i. point_of (get_or p'.centroids i [])) j l.centroids) elements-is)
        (w ∙ ap (λ (j : ℕ). overwrite (float_at p'.weights) j l.weights) elements-is)
        q r
        (m ∙ ap (λ (j : ℕ). overwrite (λ i. plane_of (get_or p'.mirrors i [])) j l.mirrors) mirrors-is)
