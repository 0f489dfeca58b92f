-- Document 01, "The job strip and its program": what `shape` prints of a run, as bytes. Definitions only.
use Rattle.std.specs.Prelude.{ℕ, zero, suc, ◌+◌, ◌/◌, ◌%◌, List, [], ◌∷◌, ◌++◌, ltb, Float}
use Prim.Native.Char.{code}
use Prim.Native.String.{String, [] as no_text, ◌∷◌ as ◌then◌}
use Rattle.std.specs.Float.Ieee.{to_bits}
use Rattle.std.specs.Float.{binary64}
use Rattle.lists.specs.Lists.{choose}
use Rattle.topo.specs.declared.Iteration.{Iteration}
use Rattle.topo.specs.declared.Stop.{Stop}
use Rattle.topo.specs.declared.Stop.TheVariants.{Settled, LevelledOff, Limit, Budget, Stopped}

-- a text's codes, one byte each in ASCII
unfoldable pub ascii : String → List ℕ
ascii no_text = []
ascii (c then s) = code c ∷ ascii s

-- ---- numbers
-- a digit's code: 0 to 9, then A to F
abbrev pub digit : ℕ → ℕ
digit d = choose (ltb d 10) (48 + d) (55 + d)

-- the last k hexadecimal digits of n
unfoldable pub hex : ℕ → ℕ → List ℕ
hex zero n = []
hex (suc k) n = hex k (n / 16) ++ (digit (n % 16) ∷ [])

-- "f64 bits, 16 hexadecimal digits"; `to_bits` writes every NaN as 7FF8000000000000
abbrev pub bits_of : Float → List ℕ
bits_of x = hex 16 (to_bits binary64 x)

-- decimal, with no zeros in front; more turns than the number has digits change nothing
unfoldable pub decimal_in : ℕ → ℕ → List ℕ
decimal_in zero n = []
decimal_in (suc turns) n = choose (ltb n 10) (digit n ∷ []) (decimal_in turns (n / 10) ++ (digit (n % 10) ∷ []))

unfoldable pub decimal : ℕ → List ℕ
decimal n = decimal_in (suc n) n

-- ---- lines
-- lines one after the other, the first numbered k
unfoldable pub lines_from : {A : Type 0} → (ℕ → A → List ℕ) → ℕ → List A → List ℕ
lines_from line k [] = []
lines_from line k (x ∷ l) = line k x ++ lines_from line (suc k) l

-- "solid work"
unfoldable pub solid_line : Float → List ℕ
solid_line work = ascii "solid " ++ (bits_of work ++ ascii "\n")

-- a space, and a number's bits
abbrev pub next_bits : Float → List ℕ
next_bits x = ascii " " ++ bits_of x

-- "round with work, share, change, steepness, grey (f64 bits, 16 hexadecimal digits), reckonings (decimal)"
unfoldable pub round_line : Iteration → List ℕ
round_line r =
    ascii "round " ++ (decimal r.number
    ++ (next_bits r.compliance ++ (next_bits r.fraction ++ (next_bits r.change ++ (next_bits r.sharpness ++ (next_bits r.grey
    ++ (ascii " " ++ (decimal r.passes ++ ascii "\n"))))))))

-- "stop"
abbrev pub stop_name : Stop → String
stop_name Settled = "Settled"
stop_name LevelledOff = "LevelledOff"
stop_name Limit = "Limit"
stop_name Budget = "Budget"
stop_name Stopped = "Stopped"

unfoldable pub stop_line : Stop → List ℕ
stop_line why = ascii "stop " ++ (ascii (stop_name why) ++ ascii "\n")

-- "element (from 1) and density bits"
unfoldable pub element_line : ℕ → Float → List ℕ
element_line e density = decimal e ++ (next_bits density ++ ascii "\n")

-- ---- a whole run
-- how a run ended: refused, or with the solid part's work, its records, its stop and the densities of the last record's round
pub data Outcome : Type 0 where
  refused : ℕ → Outcome
  ran : Float → List Iteration → Stop → List Float → Outcome

-- what is printed of it: "A refusal prints `refused N` and no other line."
unfoldable pub text_of : Outcome → List ℕ
text_of (refused n) = ascii "refused " ++ (decimal n ++ ascii "\n")
text_of (ran solid records why density) =
    solid_line solid ++ (lines_from (λ k r. round_line r) 1 records ++ (stop_line why ++ lines_from element_line 1 density))
