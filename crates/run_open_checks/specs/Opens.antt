-- What the core of an opening returns and leaves, read as what `run_plain`'s contract of an opening states. Definitions only.
use Rattle.std.specs.Prelude.{◌≡◌, List, [], ◌∷◌, ℕ, suc, length}
use Rattle.lists.specs.Lists.{choose, zero64}
use Rattle.topo.specs.declared.Iteration.{Iteration}
use Rattle.lent.specs.Lent.{Outcome, kept, zeroed, done, Worked}
use Rattle.filter.specs.Build.{words, Working, work_lengths}
use Rattle.run_plain.specs.declared.State.{State}
use Rattle.run_plain.specs.Opening.{Opening, entry_of, Entry, Kept, Zeroed, Shut, Opens}
use Rattle.run_plain.specs.Calls.{Core, Asked, Result, replied, lists_of, sizes_in, open_of, in_turn}
use Rattle.run_plain.specs.declared.Returned.{Returned}

-- the opening, the history having room for so many records
abbrev pub opening_in : Asked → ℕ → Core → Working → Opening
opening_in g room l w =
    record {
      volumes = l.volumes;
      centroids = g.centroids;
      passive = l.passive;
      mirrors = g.mirrors;
      goal = g.goal;
      flag = g.flag;
      lent = sizes_in (work_lengths w) l room;
    }

-- what it comes to: 20 where it is out of turn
abbrev pub entry_in : State → Asked → ℕ → Core → Working → Entry
entry_in s g room l w = choose (in_turn s.phase) (entry_of (opening_in g room l w)) (Kept 20)

-- "Last it looks at the flag: 15 then leaves the finished filter in its lists and the working lists zero."
abbrev pub outcome_of : Entry → Outcome
outcome_of (Kept k) = kept k
outcome_of (Zeroed k) = zeroed k
outcome_of Shut = zeroed 15
outcome_of Opens = done

-- what is left in each working list
pub record Left (n : ℕ) (w w' : Working) (v : Entry) : Type 0 where
  pub cell : Worked (outcome_of v) n (0 ∷ 0 ∷ 0 ∷ []) w.cell w'.cell
  pub order : Worked (outcome_of v) n 0 w.order w'.order
  pub first : Worked (outcome_of v) (suc n) 0 w.first w'.first
  pub sorted : Worked (outcome_of v) n (zero64 ∷ zero64 ∷ zero64 ∷ []) w.sorted w'.sorted
  pub stamp : Worked (outcome_of v) n 0 w.stamp w'.stamp
  pub weight : Worked (outcome_of v) n zero64 w.weight w'.weight
  pub found : Worked (outcome_of v) n 0 w.found w'.found
  pub bits : Worked (outcome_of v) words 0 w.bits w'.bits

-- for every history of `room` records, which an opening leaves as it is: what the core returns and leaves is what an opening does
pub record CoreOpened (s : State) (g : Asked) (room : ℕ) (l : Core) (w : Working) (r : Returned) (o : Core) (w' : Working) : Type 0 where
  pub same : (h : List Iteration) → length h ≡ room → ◌≡◌ {A = Result} (record { state = r.state; reply = replied r.reply; lists = lists_of o h }) (open_of s g (work_lengths w) (lists_of l h))
  pub work : Left (length l.volumes) w w' (entry_in s g room l w)
