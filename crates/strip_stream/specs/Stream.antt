-- How a reader goes from part to part, for every value of its state. `proofs/Parts.antt` has the law that what it answers, however the bytes are
-- cut into parts, is `check_strip` of them all. Definitions only.
use Rattle.std.specs.Prelude.{ℕ, ◌+◌, Bool, ◌&&◌, List, [], ◌∷◌, Result, Ok, Err, eqb, ltb, get_or, set, replicate}
use Rattle.lists.specs.Lists.{choose}
use Rattle.refusal.specs.declared.Refusal.{Refusal}
use Rattle.refusal.specs.declared.Refusal.TheVariants.{StripMalformed}
use Rattle.strip_stream.specs.declared.Reader.{Reader}
use Rattle.strip.specs.declared.Job.{Job}
use Rattle.strip.specs.Strip.{payload_of, place_at, stands, little_endian, job_of, words_of}

-- nothing is read
abbrev pub begun : Reader
begun = record { words = 0; held = 0; bytes = replicate 3 0; head = replicate 10 0 }

-- a word of the head
abbrev pub head_word : Reader → ℕ → ℕ
head_word r j = get_or r.head j 0

-- one of the last three bytes, the oldest first
abbrev pub held_byte : Reader → ℕ → ℕ
held_byte r j = get_or r.bytes j 0

-- one byte more of a word that is not whole yet
abbrev pub held_more : Reader → ℕ → Reader
held_more r b = record { words = r.words; held = r.held + 1; bytes = held_byte r 1 ∷ held_byte r 2 ∷ b ∷ []; head = r.head }

-- one word more, that stands at its place; words 0 to 9 are kept
abbrev pub good_word : Reader → ℕ → Reader
good_word r w =
    record {
      words = r.words + 1;
      held = 0;
      bytes = replicate 3 0;
      head = choose (ltb r.words 10) (set r.head r.words w) r.head;
    }

-- whether w may stand as the next word
abbrev pub may_follow : Reader → ℕ → Bool
may_follow r w = stands (place_at (payload_of (head_word r 0)) (payload_of (head_word r 9)) r.words) r.words w

-- what a step leaves of its reader, and what it answers
abbrev pub left : Result (Unit {0}) Refusal → Reader → Result Reader Refusal
left (Ok done) r = Ok r
left (Err why) r = Err why

unfoldable pub taken : Reader → ℕ → Result Reader Refusal
taken r w = choose (may_follow r w) (Ok (good_word r w)) (Err StripMalformed)

-- one byte more
unfoldable pub stepped : Reader → ℕ → Result Reader Refusal
stepped r b =
    choose (ltb r.held 3) (Ok (held_more r b)) (taken r (little_endian (held_byte r 0) (held_byte r 1) (held_byte r 2) b))

-- and a reader that met a word out of its place stays refused
abbrev pub after : Result Reader Refusal → ℕ → Result Reader Refusal
after (Ok r) b = stepped r b
after (Err why) b = Err why

-- a part more
unfoldable pub fed : Result Reader Refusal → List ℕ → Result Reader Refusal
fed x [] = x
fed x (b ∷ bytes) = fed (after x b) bytes

-- parts one after the other
unfoldable pub fed_parts : Result Reader Refusal → List (List ℕ) → Result Reader Refusal
fed_parts x [] = x
fed_parts x (bytes ∷ parts) = fed_parts (fed x bytes) parts

-- nothing more comes
unfoldable pub finished : Result Reader Refusal → Result Job Refusal
finished (Ok r) =
    choose (eqb r.held 0 && eqb r.words (words_of (payload_of (head_word r 0)) (payload_of (head_word r 9))))
    (Ok (job_of (head_word r)))
    (Err StripMalformed)
finished (Err why) = Err why
