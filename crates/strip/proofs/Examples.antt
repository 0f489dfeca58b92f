-- 01's example of a job as a strip: two elements, unsharpened, one round, share 0.75, radius 1, no planes. It is read, and refused with one byte
-- changed, added or left out. antt computes each. Assumes nothing.
use mathlib.Core.Path.{◌≡◌, refl}
use mathlib.Core.List.{List, [], ◌∷◌, ◌++◌}
use Prim.Native.Nat.{ℕ}
use lib.ListN.{set, take}
use Rattle.lists.specs.Lists.{choose, any_to}
use Rattle.std.specs.Prelude.{Ok, Err}
use Rattle.refusal.specs.declared.Refusal.TheVariants.{StripMalformed}
use Rattle.strip.specs.Strip as Strip

pub example : List ℕ
example =
    2 ∷ 0 ∷ 0 ∷ 16 ∷
    63 ∷ 0 ∷ 0 ∷ 32 ∷ 0 ∷ 0 ∷ 128 ∷ 62 ∷ 0 ∷ 0 ∷ 0 ∷ 64 ∷
    63 ∷ 0 ∷ 0 ∷ 32 ∷ 0 ∷ 0 ∷ 0 ∷ 63 ∷ 0 ∷ 0 ∷ 0 ∷ 64 ∷
    0 ∷ 0 ∷ 0 ∷ 80 ∷ 1 ∷ 0 ∷ 0 ∷ 96 ∷ 0 ∷ 0 ∷ 0 ∷ 96 ∷
    63 ∷ 0 ∷ 0 ∷ 32 ∷ 0 ∷ 0 ∷ 0 ∷ 63 ∷ 0 ∷ 0 ∷ 0 ∷ 64 ∷
    0 ∷ 0 ∷ 0 ∷ 32 ∷ 0 ∷ 0 ∷ 0 ∷ 48 ∷ 0 ∷ 0 ∷ 0 ∷ 64 ∷ 0 ∷ 0 ∷ 0 ∷ 32 ∷ 0 ∷ 0 ∷ 0 ∷ 48 ∷ 0 ∷ 0 ∷ 0 ∷ 64 ∷ 0 ∷ 0 ∷ 0 ∷ 32 ∷ 0 ∷ 0 ∷ 0 ∷ 48 ∷ 0 ∷ 0 ∷ 0 ∷ 64 ∷
    63 ∷ 0 ∷ 0 ∷ 32 ∷ 0 ∷ 0 ∷ 0 ∷ 63 ∷ 0 ∷ 0 ∷ 0 ∷ 64 ∷
    1 ∷ 0 ∷ 0 ∷ 80 ∷
    63 ∷ 0 ∷ 0 ∷ 32 ∷ 0 ∷ 0 ∷ 0 ∷ 63 ∷ 0 ∷ 0 ∷ 0 ∷ 64 ∷
    64 ∷ 0 ∷ 0 ∷ 32 ∷ 0 ∷ 0 ∷ 64 ∷ 50 ∷ 0 ∷ 0 ∷ 0 ∷ 64 ∷ 0 ∷ 0 ∷ 0 ∷ 32 ∷ 0 ∷ 0 ∷ 0 ∷ 48 ∷ 0 ∷ 0 ∷ 0 ∷ 64 ∷ 0 ∷ 0 ∷ 0 ∷ 32 ∷ 0 ∷ 0 ∷ 0 ∷ 48 ∷ 0 ∷ 0 ∷ 0 ∷ 64 ∷
    0 ∷ 0 ∷ 0 ∷ 32 ∷ 0 ∷ 0 ∷ 0 ∷ 48 ∷ 0 ∷ 0 ∷ 0 ∷ 64 ∷
    0 ∷ 0 ∷ 0 ∷ 80 ∷
    42 ∷ 0 ∷ 0 ∷ 112 ∷
    []

pub is_read : Strip.check_strip example ≡ Ok record { elements = 2; fraction = 0x3fe8_0000_0000_0000; radius = 0x3ff0_0000_0000_0000; sharpen = 0; max_iterations = 1; mirrors = 0 }
unfolding example Strip.check_strip Strip.accepted Strip.misplaced Strip.place_at Strip.head_at Strip.field_at Strip.part_at Strip.stands Strip.word_at Strip.little_endian Strip.job_of Strip.number_of choose any_to
is_read = refl

-- a not-a-number keeps its bits
payload-kept : Strip.check_strip (set (set (set example 4 0x7f) 11 0x3f) 12 1) ≡ Ok record { elements = 2; fraction = 0x7ff8_0000_0000_0001; radius = 0x3ff0_0000_0000_0000; sharpen = 0; max_iterations = 1; mirrors = 0 }
unfolding example Strip.check_strip Strip.accepted Strip.misplaced Strip.place_at Strip.head_at Strip.field_at Strip.part_at Strip.stands Strip.word_at Strip.little_endian Strip.job_of Strip.number_of choose any_to
payload-kept = refl

-- nothing at all
no_bytes : Strip.check_strip [] ≡ Err StripMalformed
unfolding example Strip.check_strip Strip.accepted Strip.misplaced Strip.place_at Strip.head_at Strip.field_at Strip.part_at Strip.stands Strip.word_at Strip.little_endian Strip.job_of Strip.number_of choose any_to
no_bytes = refl

-- a byte after the end
byte-after : Strip.check_strip (example ++ (0 ∷ [])) ≡ Err StripMalformed
unfolding example Strip.check_strip Strip.accepted Strip.misplaced Strip.place_at Strip.head_at Strip.field_at Strip.part_at Strip.stands Strip.word_at Strip.little_endian Strip.job_of Strip.number_of choose any_to
byte-after = refl

-- a byte less
byte_missing : Strip.check_strip (take 171 example) ≡ Err StripMalformed
unfolding example Strip.check_strip Strip.accepted Strip.misplaced Strip.place_at Strip.head_at Strip.field_at Strip.part_at Strip.stands Strip.word_at Strip.little_endian Strip.job_of Strip.number_of choose any_to
byte_missing = refl

-- word 0 of kind 2
other_kind : Strip.check_strip (set example 3 0x20) ≡ Err StripMalformed
unfolding example Strip.check_strip Strip.accepted Strip.misplaced Strip.place_at Strip.head_at Strip.field_at Strip.part_at Strip.stands Strip.word_at Strip.little_endian Strip.job_of Strip.number_of choose any_to
other_kind = refl

-- an unused bit of the share
unused-bit : Strip.check_strip (set example 5 1) ≡ Err StripMalformed
unfolding example Strip.check_strip Strip.accepted Strip.misplaced Strip.place_at Strip.head_at Strip.field_at Strip.part_at Strip.stands Strip.word_at Strip.little_endian Strip.job_of Strip.number_of choose any_to
unused-bit = refl

-- the sharpen flag 2 is the third choice, 3 is none
choice-two : Strip.check_strip (set example 28 2) ≡ Ok record { elements = 2; fraction = 0x3fe8_0000_0000_0000; radius = 0x3ff0_0000_0000_0000; sharpen = 2; max_iterations = 1; mirrors = 0 }
unfolding example Strip.check_strip Strip.accepted Strip.misplaced Strip.place_at Strip.head_at Strip.field_at Strip.part_at Strip.stands Strip.word_at Strip.little_endian Strip.job_of Strip.number_of choose any_to
choice-two = refl

choice-three : Strip.check_strip (set example 28 3) ≡ Err StripMalformed
unfolding example Strip.check_strip Strip.accepted Strip.misplaced Strip.place_at Strip.head_at Strip.field_at Strip.part_at Strip.stands Strip.word_at Strip.little_endian Strip.job_of Strip.number_of choose any_to
choice-three = refl

-- the first element's held flag 2
held_two : Strip.check_strip (set example 100 2) ≡ Err StripMalformed
unfolding example Strip.check_strip Strip.accepted Strip.misplaced Strip.place_at Strip.head_at Strip.field_at Strip.part_at Strip.stands Strip.word_at Strip.little_endian Strip.job_of Strip.number_of choose any_to
held_two = refl

-- four planes
four-planes : Strip.check_strip (set example 36 4) ≡ Err StripMalformed
unfolding example Strip.check_strip Strip.accepted Strip.misplaced Strip.place_at Strip.head_at Strip.field_at Strip.part_at Strip.stands Strip.word_at Strip.little_endian Strip.job_of Strip.number_of choose any_to
four-planes = refl

-- an end word that counts itself
end-counts-itself : Strip.check_strip (set example 168 43) ≡ Err StripMalformed
unfolding example Strip.check_strip Strip.accepted Strip.misplaced Strip.place_at Strip.head_at Strip.field_at Strip.part_at Strip.stands Strip.word_at Strip.little_endian Strip.job_of Strip.number_of choose any_to
end-counts-itself = refl
