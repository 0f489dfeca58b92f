-- 01, "What a refusal hands back": what a call leaves in the lists that it is lent. Definitions only.
use Rattle.std.specs.Prelude.{◌≡◌, Bool, false, ◌||◌, List, [], ◌∷◌, ℕ, zero, suc, length, drop, replicate, ltb}
use Rattle.lists.specs.Lists.{overlay}

-- "Kept": "all lists as before". "Zeroed": zero throughout. Both by 01's number. Or the call is not refused
pub data Outcome : Type 0 where
  kept : ℕ → Outcome
  zeroed : ℕ → Outcome
  done : Outcome

-- "Answers carry the number alone", here 0 where nothing is refused
abbrev pub number_of : Outcome → ℕ
number_of (kept k) = k
number_of (zeroed k) = k
number_of done = 0

-- z throughout, to the list's end
abbrev pub zeros : {A : Type 0} → A → List A → List A
zeros z l = replicate (length l) z

-- what stands in a list that the call fills from the front: "A call that isn't refused leaves places past those needed as they were lent."; z is the list's zero
abbrev pub left : {A : Type 0} → Outcome → List A → A → List A → List A
left (kept k) new z l = l
left (zeroed k) new z l = zeros z l
left done new z l = overlay new l

-- a list to work in, of which n places are needed: these are free
abbrev pub Free : {A : Type 0} → ℕ → List A → List A → Type 0
Free n l l' = (length l' ≡ length l) × (drop n l' ≡ drop n l)

-- what stands in such a list
abbrev pub Worked : {A : Type 0} → Outcome → ℕ → A → List A → List A → Type 0
Worked (kept k) n z l l' = l' ≡ l
Worked (zeroed k) n z l l' = l' ≡ zeros z l
Worked done n z l l' = Free n l l'

-- a where a call is not refused, its number being 0, and b where it is
unfoldable pub unless : {A : Type 0} → ℕ → A → A → A
unless zero a b = a
unless (suc k) a b = b

-- the same of a call that zeroes nothing, by its number
abbrev pub left_by : {A : Type 0} → ℕ → List A → List A → List A
left_by r new l = unless r (overlay new l) l

unfoldable pub WorkedBy : {A : Type 0} → ℕ → ℕ → List A → List A → Type 0
WorkedBy zero n l l' = Free n l l'
WorkedBy (suc k) n l l' = l' ≡ l

-- 14: one of the lengths is below what is needed there
unfoldable pub short : List ℕ → List ℕ → Bool
short (k ∷ lengths) (n ∷ needed) = ltb k n || short lengths needed
short [] needed = false
short (k ∷ lengths) [] = false
