-- Lists that are lent in part, written at the front, and given back: each by the laws of `take` and `drop`. Assumes nothing.
use mathlib.Core.Path.{◌≡◌, refl, ap, ◌∙◌}
use mathlib.Core.Bool.{false, ◌||◌}
use mathlib.Core.List.{List, [], ◌∷◌, ◌++◌}
use Prim.Native.Nat.{ℕ, zero, suc, ◌≤◌, ◌<◌, min}
use native.Mathlib.Omega.{arith}
use lib.ListN.{length, take, drop, set, length-append, length-take, length-drop, length-set, take-append-drop}
use lib.Seq.{take-take, take-append-le, take_all, take-suc-set}
use Rattle.lists.specs.Lists.{overlay}
use Rattle.lists.proofs.Laws.{neither}
use Rattle.run_plain.specs.Lent.{Sizes, run_short, open_short, answer_short}
use Rattle.lent.specs.Lent.{short}
use Rattle.lent.proofs.Lent.{not_short}

module _ {A : Type 0} where
  pub take_part : (n k : ℕ) (l : List A) → n ≤ length (take k l) → take n (take k l) ≡ take n l
  take_part n k l h =
      let e : length (take k l) ≡ min k (length l) = length-take k l in
      take-take n k l (omega arith)

  pub length-overlay : (p l : List A) → length p ≤ length l → length (overlay p l) ≡ length l
  unfolding overlay
  length-overlay p l h = rw (length-append, length-drop) (omega arith)

  pub take-overlay : (n : ℕ) (p l : List A) → n ≤ length p → take n (overlay p l) ≡ take n p
  unfolding overlay
  take-overlay n p l h = take-append-le n p (drop (length p) l) h

  drop-part : (k : ℕ) (l : List A) → drop (length (take k l)) l ≡ drop k l
  drop-part zero l = refl
  drop-part (suc k) [] = refl
  drop-part (suc k) (x ∷ l) = drop-part k l

  -- a part that is given back as it was lent
  pub overlay-part : (k : ℕ) (l : List A) → overlay (take k l) l ≡ l
  unfolding overlay
  overlay-part k l = rw (drop-part k l) (take-append-drop k l)

  part-short : (k : ℕ) (l : List A) → length (take k l) ≤ length l
  part-short k l =
      let e : length (take k l) ≡ min k (length l) = length-take k l in
      omega arith

  -- a part whose first places are written, and that is given back
  pub record Renewed (n k : ℕ) (new new' l : List A) : Type 0 where
    pub part : take n (overlay new (take k l)) ≡ new'
    pub whole : take n (overlay (overlay new (take k l)) l) ≡ new'
    pub long : length (overlay (overlay new (take k l)) l) ≡ length l

  pub renewed : (n k : ℕ) (new new' l : List A) → new ≡ new' → length new' ≡ n → n ≤ length (take k l) → Renewed n k new new' l
  renewed n k new new' l e h b =
      let le : length new ≡ n = ap length e ∙ h in
      let q : length (overlay new (take k l)) ≡ length (take k l) = length-overlay new (take k l) (omega arith) in
      let s : length (take k l) ≤ length l = part-short k l in
      let f : take n new ≡ new = take_all n new (omega arith) in
      let p : take n (overlay new (take k l)) ≡ new = take-overlay n new (take k l) (omega arith) ∙ f in
      record {
        part = p ∙ e;
        whole = take-overlay n (overlay new (take k l)) l (omega arith) ∙ p ∙ e;
        long = length-overlay (overlay new (take k l)) l (omega arith);
      }

  -- a part in which one place more is written
  pub record Added (n k : ℕ) (x : A) (l : List A) : Type 0 where
    pub whole : take (suc n) (overlay (set (take k l) n x) l) ≡ take n l ++ (x ∷ [])
    pub long : length (overlay (set (take k l) n x) l) ≡ length l

  pub added : (n k : ℕ) (x : A) (l : List A) → n < length (take k l) → Added n k x l
  added n k x l b =
      let q : length (set (take k l) n x) ≡ length (take k l) = length-set (take k l) n x in
      let s : length (take k l) ≤ length l = part-short k l in
      let t : take n (take k l) ≡ take n l = take_part n k l (omega arith) in
      record {
        whole = take-overlay (suc n) (set (take k l) n x) l (omega arith) ∙ take-suc-set (take k l) n x b ∙ ap (λ (m : List A). m ++ (x ∷ [])) t;
        long = length-overlay (set (take k l) n x) l (omega arith);
      }

  -- a part of the same length, given back
  pub length_back : (k : ℕ) (p l : List A) → length p ≡ length (take k l) → length (overlay p l) ≡ length l
  length_back k p l e =
      let s : length (take k l) ≤ length l = part-short k l in
      length-overlay p l (omega arith)

-- ---- lists that are long enough
pub record Room (elements rounds : ℕ) (k : Sizes) : Type 0 where
  pub starts : suc elements ≤ k.starts
  pub design : elements ≤ k.design
  pub density : elements ≤ k.density
  pub last : elements ≤ k.last
  pub history : rounds ≤ k.history

pub record Enough (elements entries rounds : ℕ) (k : Sizes) : Type 0 where
  pub volumes : elements ≤ k.volumes
  pub passive : elements ≤ k.passive
  pub near : entries ≤ k.near
  pub coef : entries ≤ k.coef
  pub room : Room elements rounds k

roomy : (elements rounds : ℕ) (k : Sizes) → run_short elements rounds k ≡ false → Room elements rounds k
unfolding run_short
roomy elements rounds k e =
    let s = not_short _ _ _ _ e in
    let d = not_short _ _ _ _ s.1 in
    let q = not_short _ _ _ _ d.1 in
    let l = not_short _ _ _ _ q.1 in
    record { starts = s.0; design = d.0; density = q.0; last = l.0; history = (not_short _ _ _ _ l.1).0 }

pub open-room : (elements rounds : ℕ) (k : Sizes) → open_short elements rounds k ≡ false → Room elements rounds k
unfolding open_short
open-room elements rounds k e = roomy elements rounds k (neither _ _ e).0

pub enough : (elements entries rounds : ℕ) (k : Sizes) → answer_short elements entries rounds k ≡ false → Enough elements entries rounds k
unfolding answer_short
enough elements entries rounds k e =
    let p = neither (run_short elements rounds k || short (k.volumes ∷ k.passive ∷ k.near ∷ k.coef ∷ []) (elements ∷ elements ∷ entries ∷ entries ∷ [])) _ e in
    let q = neither (run_short elements rounds k) _ p.0 in
    let v = not_short _ _ _ _ q.1 in
    let m = not_short _ _ _ _ v.1 in
    let n = not_short _ _ _ _ m.1 in
    record { volumes = v.0; passive = m.0; near = n.0; coef = (not_short _ _ _ _ n.1).0; room = roomy elements rounds k q.0 }
