-- Document 01, "The job strip and its program": what a strip is, and what is read from it, by the place of each word. Definitions only.
use Rattle.std.specs.Prelude.{Result, Ok, Err, ◌≡◌, ◌⊎◌, ◌<◌, ℕ, ◌+◌, ◌-◌, ◌*◌, ◌/◌, ◌%◌, ◌^◌, Bool, false, not, ◌&&◌, ◌||◌, List, [], ◌∷◌, eqb, ltb, length, get_or}
use Rattle.lists.specs.Lists.{choose, any_to, overwrite}
use Rattle.refusal.specs.declared.Refusal.{Refusal}
use Rattle.refusal.specs.declared.Refusal.TheVariants.{StripMalformed, ListTooShort}
use Rattle.strip.specs.declared.words.Kind.{Kind}
use Rattle.strip.specs.declared.words.Kind.TheVariants.{Start as AStart, Top as ATop, Next as ANext, Last as ALast, Flag as AFlag, Count as ACount, End as AnEnd}
use Rattle.strip.specs.declared.words.Place.{Place}
use Rattle.strip.specs.declared.words.Place.TheVariants.{Start, Top, Next, Last, Flag, Choice, Count, Planes, End, Nothing}
use Rattle.strip.specs.declared.Job.{Job}

-- ---- words

-- "Words are 32 bits, little-endian"
unfoldable pub little_endian : ℕ → ℕ → ℕ → ℕ → ℕ
little_endian a b c d = a + 0x100 * b + 0x1_0000 * c + 0x100_0000 * d

-- word p of the bytes, from 0; a byte past the end reads as 0
unfoldable pub word_at : List ℕ → ℕ → ℕ
word_at bytes p =
    little_endian (get_or bytes (4 * p) 0) (get_or bytes (4 * p + 1) 0) (get_or bytes (4 * p + 2) 0) (get_or bytes (4 * p + 3) 0)

-- "the top four bits are the kind, the low 28 the payload"
abbrev pub kind_of : ℕ → ℕ
kind_of w = w / 2 ^ 28

abbrev pub payload_of : ℕ → ℕ
payload_of w = w % 2 ^ 28

-- "Kind 1: start [..] 2, 3, 4 in a row: one f64's [..] 5: flag [..] 6: count. 7: end"
abbrev pub kind_number : Kind → ℕ
kind_number AStart = 1
kind_number ATop = 2
kind_number ANext = 3
kind_number ALast = 4
kind_number AFlag = 5
kind_number ACount = 6
kind_number AnEnd = 7

-- the kind of a number, and none of 0 and of numbers above 7
abbrev pub Numbers : Result Kind Refusal → ℕ → Type 0
Numbers (Ok kind) number = number ≡ kind_number kind
Numbers (Err why) number = (number ≡ 0) ⊎ (7 < number)

-- "one f64's top 8, next 28, last 28 bits": the 64 bits as they stand, whatever number or not-a-number they are
unfoldable pub number_of : ℕ → ℕ → ℕ → ℕ
number_of top next last = top % 2 ^ 8 * 2 ^ 56 + payload_of next * 2 ^ 28 + payload_of last

-- ---- the place of each word, in a strip of so many elements and planes

-- "2, 3, 4 in a row": the words of numbers in a row
unfoldable pub part_at : ℕ → Place
part_at j = choose (eqb (j % 3) 0) Top (choose (eqb (j % 3) 1) Next Last)

-- "start; share, radius; sharpen flag; rounds; planes": words 0 to 9
unfoldable pub head_at : ℕ → Place
head_at p = choose (eqb p 0) Start (choose (ltb p 7) (part_at (p - 1)) (choose (eqb p 7) Choice (choose (eqb p 8) Count Planes)))

-- "per element volume, x, y, z, weight, held flag": 16 words
unfoldable pub field_at : ℕ → Place
field_at j = choose (eqb j 15) Flag (part_at j)

-- the first word of plane i, "each point then normal": 18 words
abbrev pub mirror_at : ℕ → ℕ
mirror_at i = 10 + 18 * i

-- the first word of element e, behind the planes
abbrev pub element_at : ℕ → ℕ → ℕ
element_at mirrors e = mirror_at mirrors + 16 * e

-- the order of the words, the end behind the last element
unfoldable pub place_at : ℕ → ℕ → ℕ → Place
place_at elements mirrors p =
    choose (ltb p 10) (head_at p)
    (choose (ltb p (mirror_at mirrors)) (part_at (p - 10))
    (choose (ltb p (element_at mirrors elements)) (field_at ((p - mirror_at mirrors) % 16))
    (choose (eqb p (element_at mirrors elements)) End Nothing)))

-- whether w may stand as word p at a place: "Kind 1: start, element count. 2, 3, 4 in a row: one f64's top 8, next 28, last 28 bits, unused bits
-- zero. 5: flag, 0 or 1. 6: count. 7: end, number of words before it; nothing follows." "planes (0 to 3)". 02: "A third sharpening choice, strip flag value 2 (held flags stay 0 or
-- 1)"
unfoldable pub stands : Place → ℕ → ℕ → Bool
stands Start p w = eqb (kind_of w) 1
stands Top p w = eqb (kind_of w) 2 && ltb (payload_of w) (2 ^ 8)
stands Next p w = eqb (kind_of w) 3
stands Last p w = eqb (kind_of w) 4
stands Flag p w = eqb (kind_of w) 5 && ltb (payload_of w) 2
stands Choice p w = eqb (kind_of w) 5 && ltb (payload_of w) 3
stands Count p w = eqb (kind_of w) 6
stands Planes p w = eqb (kind_of w) 6 && ltb (payload_of w) 4
stands End p w = eqb (kind_of w) 7 && eqb (payload_of w) p
stands Nothing p w = false

-- ---- what is read

abbrev pub elements_of : List ℕ → ℕ
elements_of bytes = payload_of (word_at bytes 0)

abbrev pub mirrors_of : List ℕ → ℕ
mirrors_of bytes = payload_of (word_at bytes 9)

-- the number whose first word is word p
unfoldable pub number_at : List ℕ → ℕ → ℕ
number_at bytes p = number_of (word_at bytes p) (word_at bytes (p + 1)) (word_at bytes (p + 2))

-- a flag that is set
abbrev pub flag_at : List ℕ → ℕ → Bool
flag_at bytes p = eqb (payload_of (word_at bytes p)) 1

-- the job that the ten words from word 0 on say
unfoldable pub job_of : (ℕ → ℕ) → Job
job_of word =
    record {
      elements = payload_of (word 0);
      fraction = number_of (word 1) (word 2) (word 3);
      radius = number_of (word 4) (word 5) (word 6);
      sharpen = payload_of (word 7);
      max_iterations = payload_of (word 8);
      mirrors = payload_of (word 9);
    }

-- the number of words that the counts ask for
abbrev pub words_of : ℕ → ℕ → ℕ
words_of elements mirrors = element_at mirrors elements + 1

-- whether word p does not stand at its place
unfoldable pub misplaced : List ℕ → ℕ → Bool
misplaced bytes p = not (stands (place_at (elements_of bytes) (mirrors_of bytes) p) p (word_at bytes p))

-- a strip that is not malformed: as many bytes as its counts ask for, and each word at its place
unfoldable pub accepted : List ℕ → Bool
accepted bytes =
    eqb (length bytes) (4 * words_of (elements_of bytes) (mirrors_of bytes))
    && not (any_to (misplaced bytes) (words_of (elements_of bytes) (mirrors_of bytes)))

-- 22, kept: "job strip malformed"; or the job
unfoldable pub check_strip : List ℕ → Result Job Refusal
check_strip bytes = choose (accepted bytes) (Ok (job_of (word_at bytes))) (Err StripMalformed)

-- the lists that a job is read into: one place an element, and one a plane
pub record Lists : Type 0 where
  pub volumes : List ℕ
  pub centroids : List (List ℕ)
  pub weights : List ℕ
  pub passive : List Bool
  pub mirrors : List (List ℕ)

abbrev pub lent : List ℕ → List (List ℕ) → List ℕ → List Bool → List (List ℕ) → Lists
lent volumes centroids weights passive mirrors =
    record { volumes = volumes; centroids = centroids; weights = weights; passive = passive; mirrors = mirrors }

-- 14: "a lent list shorter than needed"
unfoldable pub short : Lists → ℕ → ℕ → Bool
short l n k =
    ltb (length l.volumes) n || ltb (length l.centroids) n || ltb (length l.weights) n || ltb (length l.passive) n
    || ltb (length l.mirrors) k

-- numbers one after the other, the first at word p: "x, y, z", and of a plane "point then normal"
unfoldable pub point_at : List ℕ → ℕ → List ℕ
point_at bytes p = number_at bytes p ∷ number_at bytes (p + 3) ∷ number_at bytes (p + 6) ∷ []

unfoldable pub plane_at : List ℕ → ℕ → List ℕ
plane_at bytes p =
    number_at bytes p ∷ number_at bytes (p + 3) ∷ number_at bytes (p + 6)
    ∷ number_at bytes (p + 9) ∷ number_at bytes (p + 12) ∷ number_at bytes (p + 15) ∷ []

-- "per element volume, x, y, z, weight, held flag"; "A call that isn't refused leaves places past those needed as they were lent."
unfoldable pub filled : List ℕ → ℕ → ℕ → Lists → Lists
filled bytes n k l =
    record {
      volumes = overwrite (λ e. number_at bytes (element_at k e)) n l.volumes;
      centroids = overwrite (λ e. point_at bytes (element_at k e + 3)) n l.centroids;
      weights = overwrite (λ e. number_at bytes (element_at k e + 12)) n l.weights;
      passive = overwrite (λ e. flag_at bytes (element_at k e + 15)) n l.passive;
      mirrors = overwrite (λ i. plane_at bytes (mirror_at i)) k l.mirrors;
    }

-- what a reading answers, and what the lists then hold
pub record Reading : Type 0 where
  pub answer : Result Job Refusal
  pub lists : Lists

abbrev pub reading : Result Job Refusal → Lists → Reading
reading answer l = record { answer = answer; lists = l }

-- the reading of a strip: "22, kept" goes before "14, kept"
unfoldable pub read_strip : List ℕ → Lists → Reading
read_strip bytes l =
    choose (accepted bytes)
    (choose (short l (elements_of bytes) (mirrors_of bytes)) (reading (Err ListTooShort) l)
    (reading (Ok (job_of (word_at bytes))) (filled bytes (elements_of bytes) (mirrors_of bytes) l)))
    (reading (Err StripMalformed) l)
