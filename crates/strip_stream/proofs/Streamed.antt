-- What a reader holds behind the first i bytes of a strip, by the places of words: either every whole word stood at its place, or one did not.
-- A byte keeps this, so it holds behind the last byte, where the reader answers as `check_strip` does. Assumes nothing.
use borrow.Author.Tests.{ltb-true, ltb-false, not-true, not-false}
use mathlib.Core.Path.{◌≡◌, refl, sym, ap, ◌∙◌, subst}
use mathlib.Core.Bool.{Bool, true, false}
use mathlib.Core.List.{List}
use mathlib.Core.Logic.{⊎_elim}
use Rattle.std.specs.Prelude.{Result, Ok, Err}
use Rattle.refusal.specs.declared.Refusal.{Refusal}
use Rattle.refusal.specs.declared.Refusal.TheVariants.{StripMalformed}
use Prim.Native.Nat.{ℕ, ◌+◌, ◌*◌, ◌≤◌, ◌<◌, ◌^◌}
use native.Mathlib.Nat.{eq-or-lt_of_le}
use native.Mathlib.Omega.{arith}
use lib.Dec.{ltb}
use lib.ListN.{length, get_or, set, length-set}
use lib.Seq.{get_or-set_same, get_or-set_other}
use Rattle.lists.proofs.Laws.{choose-true, choose-false, any_none, any-more}
use Rattle.lists.specs.Lists.{choose, any_to}
use Rattle.strip_stream.specs.declared.Reader.{Reader}
use Rattle.strip_stream.specs.Stream.{begun, head_word, held_byte, held_more, good_word, may_follow, taken, stepped, after}
use Rattle.strip.specs.Strip.{payload_of, little_endian, word_at, place_at, elements_of, mirrors_of, misplaced}
use Rattle.strip.proofs.Places.{early, within}

-- a word that may follow is no further than the end, so counting it does not overflow
pub counted : (r : Reader) (w : ℕ) → may_follow r w ≡ true → r.words < 2 ^ 40
counted r w e = omega (arith, within (payload_of (head_word r 0)) (payload_of (head_word r 9)) r.words w e)

pub record Good (bytes : List ℕ) (i : ℕ) (r : Reader) : Type 0 where
  pub count : i ≡ 4 * r.words + r.held
  pub small : r.held ≤ 3
  pub placed : any_to (misplaced bytes) r.words ≡ false
  pub last : (j : ℕ) → j + 1 ≡ i → 1 ≤ r.held → held_byte r 2 ≡ get_or bytes j 0
  pub second : (j : ℕ) → j + 2 ≡ i → 2 ≤ r.held → held_byte r 1 ≡ get_or bytes j 0
  pub third : (j : ℕ) → j + 3 ≡ i → 3 ≤ r.held → held_byte r 0 ≡ get_or bytes j 0
  pub room : length r.head ≡ 10
  pub heads : (j : ℕ) → j < r.words → j < 10 → head_word r j ≡ word_at bytes j

pub record Bad (bytes : List ℕ) (i : ℕ) (why : Refusal) : Type 0 where
  pub malformed : why ≡ StripMalformed
  pub place : ℕ
  pub wrong : misplaced bytes place ≡ true
  pub reached : 4 * place + 4 ≤ i

abbrev pub Behind : List ℕ → ℕ → Result Reader Refusal → Type 0
Behind bytes i (Ok r) = Good bytes i r
Behind bytes i (Err why) = Bad bytes i why

pub at_first : (bytes : List ℕ) → Behind bytes 0 (Ok begun)
at_first bytes =
    record {
      count = refl;
      small = omega arith;
      placed = any_none (misplaced bytes);
      last = λ j e h. absurd (omega arith);
      second = λ j e h. absurd (omega arith);
      third = λ j e h. absurd (omega arith);
      room = refl;
      heads = λ j h l. absurd (omega arith);
    }

module _ (bytes : List ℕ) (i : ℕ) (r : Reader) (g : Good bytes i r) where
  -- a byte of a word that is not whole yet
  one-held : r.held < 3 → Good bytes (i + 1) (held_more r (get_or bytes i 0))
  one-held h =
      record {
        count = omega arith;
        small = omega arith;
        placed = g.placed;
        last = λ j e l. ap (λ (k : ℕ). get_or bytes k 0) (omega arith);
        second = λ j e l. g.last j (omega arith) (omega arith);
        third = λ j e l. g.second j (omega arith) (omega arith);
        room = g.room;
        heads = g.heads;
      }

  -- the word that the next byte makes whole
  whole_word : r.held ≡ 3 → little_endian (held_byte r 0) (held_byte r 1) (held_byte r 2) (get_or bytes i 0) ≡ word_at bytes r.words
  unfolding word_at
  whole_word h =
      let e : i ≡ 4 * r.words + 3 = omega arith in
      cc (g.third (4 * r.words) (omega arith) (omega arith), g.second (4 * r.words + 1) (omega arith) (omega arith), g.last (4 * r.words + 2) (omega arith) (omega arith))

  -- its place is the strip's
  same_place : place_at (payload_of (head_word r 0)) (payload_of (head_word r 9)) r.words ≡ place_at (elements_of bytes) (mirrors_of bytes) r.words
  same_place = go (ltb r.words 10) refl
    where
      go : (t : Bool) → ltb r.words 10 ≡ t → place_at (payload_of (head_word r 0)) (payload_of (head_word r 9)) r.words ≡ place_at (elements_of bytes) (mirrors_of bytes) r.words
      go true e = early _ _ _ _ r.words (ltb-true r.words 10 e)
      go false e =
          let l : 10 ≤ r.words = ltb-false r.words 10 e in
          rw (g.heads 0 (omega arith) (omega arith), g.heads 9 (omega arith) (omega arith))

  -- a word that stands at its place
  room_after : (w : ℕ) (t : Bool) → length (choose t (set r.head r.words w) r.head) ≡ 10
  unfolding choose
  room_after w true = length-set r.head r.words w ∙ g.room
  room_after w false = g.room

  heads-after : (w : ℕ) (t : Bool) → ltb r.words 10 ≡ t → w ≡ word_at bytes r.words
      → (j : ℕ) → j < r.words + 1 → j < 10 → get_or (choose t (set r.head r.words w) r.head) j 0 ≡ word_at bytes j
  unfolding choose
  heads-after w true e v j h l =
      ⊎_elim
      (λ (q : j ≡ r.words). rw q (get_or-set_same r.head r.words w 0 (omega (arith, ltb-true r.words 10 e)) ∙ v))
      (λ b. get_or-set_other r.head r.words j w 0 (λ q. omega arith) ∙ g.heads j b l)
      (eq-or-lt_of_le (omega arith))
  heads-after w false e v j h l =
      let b : 10 ≤ r.words = ltb-false r.words 10 e in g.heads j (omega arith) l

  one-good : r.held ≡ 3 → (w : ℕ) → w ≡ word_at bytes r.words → misplaced bytes r.words ≡ false → Good bytes (i + 1) (good_word r w)
  one-good h w e t =
      record {
        count = omega arith;
        small = omega arith;
        placed = any-more (misplaced bytes) r.words g.placed t;
        last = λ j e l. absurd (omega arith);
        second = λ j e l. absurd (omega arith);
        third = λ j e l. absurd (omega arith);
        room = room_after w (ltb r.words 10);
        heads = heads-after w (ltb r.words 10) refl e;
      }

  one-bad : r.held ≡ 3 → misplaced bytes r.words ≡ true → Bad bytes (i + 1) StripMalformed
  one-bad h t = record { malformed = refl; place = r.words; wrong = t; reached = omega arith }

  -- a whole word, whichever it is
  one_word : (w : ℕ) → r.held ≡ 3 → w ≡ word_at bytes r.words → Behind bytes (i + 1) (taken r w)
  unfolding taken misplaced
  one_word w h e = go (misplaced bytes r.words) refl
    where
      go : (t : Bool) → misplaced bytes r.words ≡ t → Behind bytes (i + 1) (taken r w)
      go false q =
          let stood : may_follow r w ≡ true = rw (same_place, e) (not-false _ q) in
          subst (λ (x : Result Reader Refusal). Behind bytes (i + 1) x) (sym (choose-true _ _ _ stood)) (one-good h w e q)
      go true q =
          let strayed : may_follow r w ≡ false = rw (same_place, e) (not-true _ q) in
          subst (λ (x : Result Reader Refusal). Behind bytes (i + 1) x) (sym (choose-false _ _ _ strayed)) (one-bad h q)

  -- the next byte
  next : Behind bytes (i + 1) (stepped r (get_or bytes i 0))
  unfolding stepped choose
  next = go (ltb r.held 3) refl
    where
      w : ℕ
      w = little_endian (held_byte r 0) (held_byte r 1) (held_byte r 2) (get_or bytes i 0)

      go : (t : Bool) → ltb r.held 3 ≡ t → Behind bytes (i + 1) (choose t (Ok (held_more r (get_or bytes i 0))) (taken r w))
      go true e = one-held (ltb-true r.held 3 e)
      go false e =
          let h : r.held ≡ 3 = omega (arith, ltb-false r.held 3 e) in one_word w h (whole_word h)

pub one_more : (bytes : List ℕ) (i : ℕ) (x : Result Reader Refusal) → Behind bytes i x → Behind bytes (i + 1) (after x (get_or bytes i 0))
one_more bytes i (Ok r) g = next bytes i r g
one_more bytes i (Err why) b = record { malformed = b.malformed; place = b.place; wrong = b.wrong; reached = omega (arith, b.reached) }
