-- A list of 14,000 places holds the whole text of any run of at most 64 records and 256 elements. Assumes nothing.
use mathlib.Core.Path.{◌≡◌, refl, ap, ◌∙◌}
use mathlib.Core.Bool.{Bool, true, false}
use mathlib.Core.List.{List, [], ◌∷◌, ◌++◌}
use Prim.Native.Nat.{ℕ, zero, suc, ◌+◌, ◌*◌, ◌/◌, ◌%◌, ◌^◌, ◌≤◌, ◌<◌, min}
use native.Mathlib.Nat.{pow-suc, mul-suc, zero-add}
use native.Mathlib.Omega.{arith}
use lib.Dec.{ltb}
use lib.ListN.{length, drop, set, length-append}
use lib.Seq.{sets, sets-eq}
use lib.Ieee.{Float}
use borrow.Author.Tests.{ltb-true, ltb-false}
use Rattle.topo.specs.declared.Iteration.{Iteration}
use Rattle.topo.specs.declared.Stop.{Stop}
use Rattle.topo.specs.declared.Stop.TheVariants.{Settled, LevelledOff, Limit, Budget, Stopped}
use Rattle.shape_report.specs.Report.{ascii, digit, hex, decimal, lines_from, solid_line, round_line, stop_line, element_line, ran, refused, text_of}
use Rattle.shape_report.specs.Steps.{laid, Wrote}
use Rattle.shape_report.proofs.Laws.{decimal-small, decimal-more}

-- ---- numbers
length-hex : (k n : ℕ) → length (hex k n) ≡ k
unfolding hex
length-hex zero n = refl
length-hex (suc k) n =
    let e : length (hex k (n / 16) ++ (digit (n % 16) ∷ [])) ≡ length (hex k (n / 16)) + 1 = length-append (hex k (n / 16)) _ in
    let f : length (hex k (n / 16)) ≡ k = length-hex k (n / 16) in
    omega arith

-- a number below 10^k has at most k digits
one-digit : (n : ℕ) → n < 10 → length (decimal n) ≡ 1
one-digit n h = ap length (decimal-small n h)

length-decimal : (k n : ℕ) → n < 10 ^ suc k → length (decimal n) ≤ suc k
length-decimal zero n h =
    let e : length (decimal n) ≡ 1 = one-digit n h in
    omega arith
length-decimal (suc k) n h =
    let w : 10 ^ suc (suc k) ≡ 10 ^ suc k * 10 = pow-suc 10 (suc k) in
    go (ltb n 10) refl (length-decimal k (n / 10) (omega arith))
  where
    go : (t : Bool) → ltb n 10 ≡ t → length (decimal (n / 10)) ≤ suc k → length (decimal n) ≤ suc (suc k)
    go true e f =
        let l : length (decimal n) ≡ 1 = one-digit n (ltb-true n 10 e) in
        omega arith
    go false e f =
        let l : length (decimal n) ≡ length (decimal (n / 10)) + 1 = ap length (decimal-more n (ltb-false n 10 e)) ∙ length-append (decimal (n / 10)) _ in
        omega arith

word : (n : ℕ) → n < 2 ^ 64 → length (decimal n) ≤ 20
word n h = length-decimal 19 n (omega arith)

-- ---- lines
-- a line is no longer than m at each place of a list, the first numbered k
abbrev Short : {A : Type 0} → (ℕ → A → List ℕ) → ℕ → ℕ → List A → Type 0
Short line m k [] = Unit {0}
Short line m k (x ∷ l) = (length (line k x) ≤ m) × Short line m (suc k) l

length-lines : {A : Type 0} (line : ℕ → A → List ℕ) (m k : ℕ) (l : List A) → Short line m k l → length (lines_from line k l) ≤ m * length l
unfolding lines_from
length-lines line m k [] h = omega arith
length-lines line m k (x ∷ l) h =
    let e : length (line k x ++ lines_from line (suc k) l) ≡ length (line k x) + length (lines_from line (suc k) l) = length-append (line k x) _ in
    let f : length (lines_from line (suc k) l) ≤ m * length l = length-lines line m (suc k) l h.1 in
    let g : m * suc (length l) ≡ m * length l + m = mul-suc m (length l) in
    omega arith

-- what a record of 64-bit numbers is
abbrev pub Words : List Iteration → Type 0
Words [] = Unit {0}
Words (r ∷ l) = (r.number < 2 ^ 64) × (r.passes < 2 ^ 64) × Words l

length-round : (r : Iteration) → r.number < 2 ^ 64 → r.passes < 2 ^ 64 → length (round_line r) ≤ 133
unfolding round_line ascii
length-round r h g =
    let a = word r.number h in
    let b = word r.passes g in
    simp (length-append, length-hex) (omega arith)

rounds-short : (k : ℕ) (l : List Iteration) → Words l → Short (λ j r. round_line r) 133 k l
rounds-short k [] h = tt
rounds-short k (r ∷ l) h = (length-round r h.0 h.1, rounds-short (suc k) l h.2)

length_element : (e : ℕ) (x : Float) → e < 1000 → length (element_line e x) ≤ 21
unfolding element_line ascii
length_element e x h =
    let a : length (decimal e) ≤ 3 = length-decimal 2 e h in
    simp (length-append, length-hex) (omega arith)

elements-short : (k : ℕ) (l : List Float) → k + length l ≤ 1000 → Short element_line 21 k l
elements-short k [] h = tt
elements-short k (x ∷ l) h = (length_element k x (omega arith), elements-short (suc k) l (omega arith))

length-stop : (why : Stop) → length (stop_line why) ≤ 17
unfolding stop_line ascii
length-stop Settled = omega arith
length-stop LevelledOff = omega arith
length-stop Limit = omega arith
length-stop Budget = omega arith
length-stop Stopped = omega arith

-- ---- a run
pub length-ran : (solid : Float) (records : List Iteration) (why : Stop) (density : List Float) → Words records → length records ≤ 64 → length density ≤ 256
    → length (text_of (ran solid records why density)) ≤ 14000
unfolding text_of solid_line ascii
length-ran solid records why density w h g =
    let a : length (lines_from (λ j r. round_line r) 1 records) ≤ 133 * length records = length-lines _ 133 1 records (rounds-short 1 records w) in
    let b : length (lines_from element_line 1 density) ≤ 21 * length density = length-lines element_line 21 1 density (elements-short 1 density (omega arith)) in
    let c = length-stop why in
    simp (length-append, length-hex) (omega arith)

pub length-refused : (n : ℕ) → n < 2 ^ 64 → length (text_of (refused n)) ≤ 14000
unfolding text_of ascii
length-refused n h =
    let a = word n h in
    simp (length-append) (omega arith)

laid_sets : (text : List ℕ) (at : ℕ) (l : List ℕ) → laid text at l ≡ sets l at text
unfolding laid
laid_sets [] at l = refl
laid_sets (b ∷ text) at l = laid_sets text (suc at) (set l at b)

-- a text that fits is written whole, and the rest of the list is as it was
pub whole : {text a b : List ℕ} {n : ℕ} → length text ≤ length a → Wrote text 0 a b n → (b ≡ text ++ drop (length text) a) × (n ≡ length text)
whole {text} {a} {b} {n} h u =
    let e : n ≡ min (0 + length text) (length a) = u.end in
    (u.list ∙ laid_sets text 0 a ∙ sets-eq text a 0 (omega arith) ∙ ap (λ (k : ℕ). text ++ drop k a) (zero-add (length text)), omega arith)
