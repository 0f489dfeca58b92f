-- Document 01, "The job strip and its program": an opening and the solver's answers, by the definitions that the contracts of `open` and `answer`
-- cite. Definitions only.
use Rattle.std.specs.Prelude.{Bool, true, false, List, ℕ, zero, suc, Float}
use Rattle.lists.specs.Lists.{choose}
use Rattle.run_plain.specs.declared.Said.TheVariants.{Gave}
use Rattle.run_plain.specs.Calls.{Lists, Arguments, Result, Replied, refuses, asks_solid, asks_round, ends, answer_of, Asked, open_of, fresh}
use Rattle.shape_solver.specs.Energies.{energies_of}

-- "solves by energy = weight/(2·modulus(level, 1)), never stopping or running out of time": the answer to densities asked for, n elements
abbrev pub answer_to : List Float → ℕ → List Float → Arguments
answer_to weights n density = record { heard = record { said = Gave; flag = false; elapsed = 0; allowed = 1 }; energies = energies_of weights density n }

-- whether a part is asked for
abbrev pub asks : Replied → Bool
asks (refuses n) = false
asks asks_solid = true
asks (asks_round n) = true
asks (ends why) = false

-- at most k answers, one after the other as long as a part is asked for; `work` has the lengths of the working lists
unfoldable pub answers_from : List Float → ℕ → List ℕ → ℕ → Result → Result
answers_from weights n work zero r = r
answers_from weights n work (suc k) r =
    choose (asks r.reply) (answers_from weights n work k (answer_of r.state (answer_to weights n r.lists.density) work r.lists)) r

-- a job: the opening on a fresh state, and the answers to the solid part and at most 64 rounds
unfoldable pub job_of : List Float → ℕ → List ℕ → List ℕ → Asked → Lists → Result
job_of weights n open_work work g l = answers_from weights n work 65 (open_of fresh g open_work l)
