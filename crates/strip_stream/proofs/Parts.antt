-- A reader that is fed a strip in parts answers as `check_strip` does for all of it: what it holds behind the last byte (`Streamed`) decides both
-- answers alike. Assumes nothing.
use borrow.Author.Tests.{eq-eqb, eqb-true}
use mathlib.Core.Path.{◌≡◌, refl, sym, ap, ◌∙◌}
use mathlib.Core.Bool.{Bool, true, false, ◌&&◌}
use mathlib.Core.List.{List, [], ◌∷◌, ◌++◌, flatten}
use Prim.Native.Nat.{ℕ, zero, suc, ◌+◌, ◌*◌, ◌≤◌, ◌<◌}
use native.Mathlib.Numerals.{add-one}
use native.Mathlib.Omega.{arith}
use lib.Dec.{eqb}
use lib.ListN.{length, get_or, drop}
use lib.Seq.{drop-cons, drop-length}
use Rattle.lists.proofs.Laws.{choose-true, choose-false, any-not, both}
use Rattle.strip.proofs.Accepted.{accepted-length, accepted-places}
use Rattle.std.specs.Prelude.{Result, Ok, Err}
use Rattle.refusal.specs.declared.Refusal.{Refusal}
use Rattle.strip_stream.specs.declared.Reader.{Reader}
use Rattle.strip_stream.specs.Stream.{begun, head_word, after, fed, fed_parts, finished}
use Rattle.strip.specs.Strip.{payload_of, word_at, words_of, elements_of, mirrors_of, job_of, misplaced, accepted, check_strip}
use Rattle.strip_stream.proofs.Streamed.{Good, Bad, Behind, at_first, one_more}

-- the next byte of what is left
pub fed_next : (r : Result Reader Refusal) (bytes : List ℕ) (i : ℕ) → i < length bytes → fed (after r (get_or bytes i 0)) (drop (i + 1) bytes) ≡ fed r (drop i bytes)
unfolding fed
fed_next r bytes i h = rw (add-one, drop-cons bytes i 0 h)

pub fed_all : (r : Result Reader Refusal) (bytes : List ℕ) → fed r (drop (length bytes) bytes) ≡ r
unfolding fed
fed_all r bytes = rw (drop-length bytes)

pub fed_refused : (why : Refusal) (bytes : List ℕ) → fed (Err why) bytes ≡ Err why
unfolding fed
fed_refused why [] = refl
fed_refused why (b ∷ bytes) = fed_refused why bytes

-- two parts, one after the other
pub fed-append : (r : Result Reader Refusal) (a b : List ℕ) → fed r (a ++ b) ≡ fed (fed r a) b
unfolding fed
fed-append r [] b = refl
fed-append r (x ∷ a) b = fed-append (after r x) a b

-- what is behind the last byte
behind-rest : (bytes : List ℕ) (n i : ℕ) (r : Result Reader Refusal) → i + n ≡ length bytes → Behind bytes i r → Behind bytes (length bytes) (fed r (drop i bytes))
behind-rest bytes zero i r e b =
    let h : i ≡ length bytes = omega arith in
    rw (h, fed_all r bytes) (rw h at b)
behind-rest bytes (suc n) i r e b =
    rw (← (fed_next r bytes i (omega arith))) (behind-rest bytes n (i + 1) (after r (get_or bytes i 0)) (omega arith) (one_more bytes i r b))

behind-all : (bytes : List ℕ) → Behind bytes (length bytes) (fed (Ok begun) bytes)
behind-all bytes = behind-rest bytes (length bytes) 0 (Ok begun) (omega arith) (at_first bytes)

-- ---- both answers
bad-answer : (bytes : List ℕ) (why : Refusal) → Bad bytes (length bytes) why → finished (Err why) ≡ check_strip bytes
unfolding finished check_strip
bad-answer bytes why b = rw b.malformed (sym (choose-false _ _ _ (go (accepted bytes) refl)))
  where
    go : (t : Bool) → accepted bytes ≡ t → t ≡ false
    go false e = refl
    go true e =
        let l : length bytes ≡ 4 * words_of (elements_of bytes) (mirrors_of bytes) = accepted-length bytes e in
        let h : b.place < words_of (elements_of bytes) (mirrors_of bytes) = omega (arith, b.reached) in
        let z : ◌≡◌ {A = ℕ} 0 1 = cc (any-not (misplaced bytes) _ (accepted-places bytes e) b.place h, b.wrong) in
        absurd (omega arith)

module _ (bytes : List ℕ) (r : Reader) (g : Good bytes (length bytes) r) where
  -- once word 9 is read, the head is the strip's
  same-words : 10 ≤ r.words → words_of (payload_of (head_word r 0)) (payload_of (head_word r 9)) ≡ words_of (elements_of bytes) (mirrors_of bytes)
  same-words h = rw (g.heads 0 (omega arith) (omega arith), g.heads 9 (omega arith) (omega arith))

  same-job : 10 ≤ r.words → job_of (head_word r) ≡ job_of (word_at bytes)
  unfolding job_of
  same-job h =
      let at : (j : ℕ) → j < 10 → head_word r j ≡ word_at bytes j = λ j l. g.heads j (omega arith) l in
      rw (at 0 (omega arith), at 1 (omega arith), at 2 (omega arith), at 3 (omega arith), at 4 (omega arith), at 5 (omega arith), at 6 (omega arith), at 7 (omega arith), at 8 (omega arith), at 9 (omega arith))

  -- the reader's test, and the strip's
  complete : Bool
  complete = eqb r.held 0 && eqb r.words (words_of (payload_of (head_word r 0)) (payload_of (head_word r 9)))

  ended : complete ≡ true → (r.held ≡ 0) × (r.words ≡ words_of (payload_of (head_word r 0)) (payload_of (head_word r 9)))
  unfolding complete
  ended e =
      let h : (eqb r.held 0 ≡ true) × (eqb r.words (words_of (payload_of (head_word r 0)) (payload_of (head_word r 9))) ≡ true) = both (eqb r.held 0) _ e in
      (eqb-true r.held 0 h.0, eqb-true r.words _ h.1)

  then-accepted : complete ≡ true → accepted bytes ≡ true
  unfolding accepted
  then-accepted e =
      let h : r.held ≡ 0 = (ended e).0 in
      let w : r.words ≡ words_of (payload_of (head_word r 0)) (payload_of (head_word r 9)) = (ended e).1 in
      let s : r.words ≡ words_of (elements_of bytes) (mirrors_of bytes) = w ∙ same-words (omega arith) in
      let l : length bytes ≡ 4 * r.words = omega (arith, g.count) in
      rw (eq-eqb _ _ (l ∙ ap (λ (n : ℕ). 4 * n) s), ← s, g.placed)

  else-refused : complete ≡ false → accepted bytes ≡ false
  unfolding complete
  else-refused e = go (accepted bytes) refl
    where
      go : (t : Bool) → accepted bytes ≡ t → t ≡ false
      go false q = refl
      go true q =
          let l : length bytes ≡ 4 * words_of (elements_of bytes) (mirrors_of bytes) = accepted-length bytes q in
          let h : r.held ≡ 0 = omega (arith, g.count, g.small) in
          let m : r.words ≡ words_of (elements_of bytes) (mirrors_of bytes) = omega (arith, g.count) in
          let w : r.words ≡ words_of (payload_of (head_word r 0)) (payload_of (head_word r 9)) = m ∙ sym (same-words (omega arith)) in
          let c : complete ≡ true = rw (eq-eqb _ _ h, eq-eqb _ _ w) in
          let z : ◌≡◌ {A = ℕ} 0 1 = cc in absurd (omega arith)

  good-answer : finished (Ok r) ≡ check_strip bytes
  unfolding finished check_strip complete
  good-answer = go complete refl
    where
      go : (t : Bool) → complete ≡ t → finished (Ok r) ≡ check_strip bytes
      go true e = choose-true _ _ _ e ∙ ap Ok (same-job (omega (arith, (ended e).1))) ∙ sym (choose-true _ _ _ (then-accepted e))
      go false e = choose-false _ _ _ e ∙ sym (choose-false _ _ _ (else-refused e))

pub answered : (bytes : List ℕ) (x : Result Reader Refusal) → Behind bytes (length bytes) x → finished x ≡ check_strip bytes
answered bytes (Ok r) g = good-answer bytes r g
answered bytes (Err why) b = bad-answer bytes why b

-- a strip in one part
pub whole : (bytes : List ℕ) → finished (fed (Ok begun) bytes) ≡ check_strip bytes
whole bytes = answered bytes (fed (Ok begun) bytes) (behind-all bytes)

-- a strip in parts, however it is cut
fed-parts : (r : Result Reader Refusal) (parts : List (List ℕ)) → fed_parts r parts ≡ fed r (flatten parts)
unfolding fed_parts fed flatten
fed-parts r [] = refl
fed-parts r (a ∷ parts) = fed-parts (fed r a) parts ∙ sym (fed-append r a (flatten parts))

pub in_parts : (parts : List (List ℕ)) → finished (fed_parts (Ok begun) parts) ≡ check_strip (flatten parts)
in_parts parts = ap finished (fed-parts (Ok begun) parts) ∙ whole (flatten parts)
