-- What is said of every plain run: the questions that it puts, its records, its stops. Definitions only.
use Rattle.std.specs.Prelude.{◌≡◌, true, false, ◌&&◌, List, [], ◌∷◌, ◌++◌, ℕ, suc, ◌+◌, ◌-◌, ◌/◌, ◌≤◌, ◌<◌, length, leb, Float, Option, Some, None}
use Rattle.lists.specs.Lists.{choose}
use Rattle.refusal.specs.declared.Refusal.{Refusal as Turned}
use Rattle.refusal.specs.declared.Refusal.TheVariants as Refusal
use Rattle.refusal.specs.Refusals.{number_of}
use Rattle.topo.specs.declared.Iteration.{Iteration}
use Rattle.topo.specs.declared.Sharpening.{Sharpening}
use Rattle.topo.specs.declared.Sharpening.TheVariants.{Full}
use Rattle.topo.specs.declared.Stop.{Stop}
use Rattle.topo.specs.declared.Stop.TheVariants.{Settled, LevelledOff, Limit, Budget, Stopped}
use Rattle.topo.specs.Stages.{sharpens}
use Rattle.update_rates.specs.Tried.{reckonings}
use Rattle.run_plain.specs.declared.Said.TheVariants.{Gave, Failed, Halted}
use Rattle.run_plain.specs.declared.Verdict.{Verdict}
use Rattle.run_plain.specs.declared.Verdict.TheVariants.{Kept, Over, Halts, Begins, Solves}
use Rattle.run_plain.specs.Formulas.{Steep, s16, sharpness, given_at}
use Rattle.run_plain.specs.Opening.{Opening, case_of}
use Rattle.run_plain.specs.declared.Checks.{Checks}
use Rattle.run_plain.specs.Plain.{Part, nothing, solid, round, Out, refused, asks, stops, Row, Shown, shown, Seen, Stops, in_order, stage_of, same, sharpest, count_at, Run, Answer, judged, checks_of, stops_of, updated, asked_of, answered}
use Rattle.run_plain.specs.Calls.{steep_at}

-- ---- questions
abbrev pub solid_in : Out → ℕ
solid_in (refused n) = 0
solid_in (asks nothing q) = 0
solid_in (asks solid q) = 1
solid_in (asks (round n) q) = 0
solid_in (stops why q) = 0

abbrev pub round_in : Out → List ℕ
round_in (refused n) = []
round_in (asks nothing q) = []
round_in (asks solid q) = []
round_in (asks (round n) q) = n ∷ []
round_in (stops why q) = []

-- how often the solid part is asked for, and the rounds asked for, in order
unfoldable pub solid_asked : List Seen → ℕ
solid_asked [] = 0
solid_asked (s ∷ more) = solid_in s.out + solid_asked more

unfoldable pub rounds_asked : List Seen → List ℕ
rounds_asked [] = []
rounds_asked (s ∷ more) = round_in s.out ++ rounds_asked more

-- n, n + 1 and so on, none left out, none twice, up to m at most
pub data Upto : ℕ → ℕ → List ℕ → Type 0 where
  stop : {n m : ℕ} → Upto n m []
  more : {n m : ℕ} {l : List ℕ} → n ≤ m → Upto (suc n) m l → Upto n m (n ∷ l)

-- ---- the first stop that applies, those before it not
pub data First (t : Stops) : Option Stop → Type 0 where
  settled : t.sharp ≡ true → t.small ≡ true → First t (Some Settled)
  levelled : (t.sharp && t.small) ≡ false → t.sharp ≡ true → t.levelled ≡ true → First t (Some LevelledOff)
  limit : (t.sharp && t.small) ≡ false → (t.sharp && t.levelled) ≡ false → t.limit ≡ true → First t (Some Limit)
  budget : (t.sharp && t.small) ≡ false → (t.sharp && t.levelled) ≡ false → t.limit ≡ false → t.budget ≡ true → First t (Some Budget)
  stopped : (t.sharp && t.small) ≡ false → (t.sharp && t.levelled) ≡ false → t.limit ≡ false → t.budget ≡ false → t.flag ≡ true → First t (Some Stopped)
  goes_on : (t.sharp && t.small) ≡ false → (t.sharp && t.levelled) ≡ false → t.limit ≡ false → t.budget ≡ false → t.flag ≡ false → First t None

-- ---- the records
pub data All {A : Type 0} (P : A → Type 0) : List A → Type 0 where
  none : All P []
  each : {a : A} {l : List A} → P a → All P l → All P (a ∷ l)

-- 02, "Full stages": "moves on from each steepness below 16 after exactly 20 rounds, however small the change": the steepness of round n
unfoldable pub full_steep : ℕ → Steep
full_steep n = steep_at ((n - 1) / 20)

-- "at most 200 volume reckonings a round"; if sharpened, "its round 81 is at 16", and so is each after it; with full stages the steepness goes by the number alone
abbrev pub GoodRecord : Sharpening → Iteration → Type 0
GoodRecord sharpen e =
    (e.passes ≤ 200) × (sharpens sharpen ≡ true → 81 ≤ e.number → e.sharpness ≡ sharpness s16) × (sharpen ≡ Full → e.sharpness ≡ sharpness (full_steep e.number))

-- record k has the number k: the first of the list has n, and each one more than the one before
unfoldable pub Numbered : ℕ → List Iteration → Type 0
Numbered n [] = Unit {0}
Numbered n (e ∷ l) = (e.number ≡ n) × Numbered (suc n) l

-- the records with full stages. "Where the early 80 rounds are allowed and nothing ends the run sooner, the promise of at most 20 becomes exactly 20": at each steepness below 16 once
-- 80 records stand, and before that at each that has a later one; "and round 81, if it is reached, is the first at 16"
pub record FullStages (rows : List Row) : Type 0 where
  pub steeps : All (λ (r : Row). r.steep ≡ full_steep r.entry.number) rows
  pub exactly : (d : Steep) → same d s16 ≡ false → 80 ≤ length rows → count_at d rows ≡ 20
  pub passed : (d b : Steep) → stage_of d < stage_of b → 0 < count_at b rows → count_at d rows ≡ 20
  pub first : All (λ (r : Row). same r.steep s16 ≡ leb 81 r.entry.number) rows

-- the records that an opened run shows: numbered from 1, no more than the rounds allowed, each good, and, if sharpened, "at most 20 rounds at each steepness below 16"
pub record GoodRecords (o : Opening) (l : List Iteration) : Type 0 where
  pub rows : List Row
  pub are : l ≡ in_order rows
  pub numbered : Numbered 1 l
  pub steeps : All (λ (r : Row). r.entry.sharpness ≡ sharpness r.steep) rows
  pub most : length rows ≤ o.goal.max_iterations
  pub good : All (GoodRecord o.goal.sharpen) l
  pub twenty : (d : Steep) → sharpest o.goal.sharpen d ≡ false → count_at d rows ≤ 20
  pub full : o.goal.sharpen ≡ Full → FullStages rows

pub data GoodShown (o : Opening) : Shown → Type 0 where
  good : {l : List Iteration} {x : List Float} → GoodRecords o l → GoodShown o (shown l x)

-- ---- ends
-- how an answer ends a run: a refusal that is over, the solver's stop, or the first stop that applies after an update
pub data Ended (r : Run) (a : Answer) : Out → Type 0 where
  refusal : {n : Turned} → judged r.part (checks_of r a) ≡ Over n → Ended r a (refused (number_of n))
  by_solver : judged r.part (checks_of r a) ≡ Halts → Ended r a (stops Stopped r.last)
  by_stop : {why : Stop} → judged r.part (checks_of r a) ≡ Solves → First (stops_of (updated r a.energies) a) (Some why) → Ended r a (stops why (asked_of r))

-- ---- refusals of an answer
-- the solver gave energies, one an element, each finite, to lists that suffice
abbrev pub Sane : Checks → Type 0
Sane c = (c.short ≡ false) × (c.said ≡ Gave) × (c.count ≡ false) × (c.bad ≡ false)

-- what an answer comes to, "given exactly if": 20, 14, then 15 or 18 as the solver said, 16, 17, 19, 15 by the flag
pub data Judge (c : Checks) : Part → Verdict → Type 0 where
  out_of_turn : Judge c nothing (Kept Refusal.OutOfTurn)
  short_solid : c.short ≡ true → Judge c solid (Kept Refusal.ListTooShort)
  short_round : {n : ℕ} → c.short ≡ true → Judge c (round n) (Kept Refusal.ListTooShort)
  halted_solid : c.short ≡ false → c.said ≡ Halted → Judge c solid (Over Refusal.Stopped)
  halted_first : {n : ℕ} → c.short ≡ false → c.said ≡ Halted → c.stands ≡ false → Judge c (round n) (Over Refusal.Stopped)
  halted_later : {n : ℕ} → c.short ≡ false → c.said ≡ Halted → c.stands ≡ true → Judge c (round n) Halts
  failed_solid : c.short ≡ false → c.said ≡ Failed → Judge c solid (Over Refusal.SolverFailed)
  failed_round : {n : ℕ} → c.short ≡ false → c.said ≡ Failed → Judge c (round n) (Over Refusal.SolverFailed)
  count_solid : c.short ≡ false → c.said ≡ Gave → c.count ≡ true → Judge c solid (Over Refusal.EnergiesDiffer)
  count_round : {n : ℕ} → c.short ≡ false → c.said ≡ Gave → c.count ≡ true → Judge c (round n) (Over Refusal.EnergiesDiffer)
  bad_solid : c.short ≡ false → c.said ≡ Gave → c.count ≡ false → c.bad ≡ true → Judge c solid (Over Refusal.EnergyNotFinite)
  bad_round : {n : ℕ} → c.short ≡ false → c.said ≡ Gave → c.count ≡ false → c.bad ≡ true → Judge c (round n) (Over Refusal.EnergyNotFinite)
  idle_solid : Sane c → c.idle ≡ true → Judge c solid (Over Refusal.NoWork)
  flag_solid : Sane c → c.idle ≡ false → c.flag ≡ true → Judge c solid (Over Refusal.Stopped)
  begun : Sane c → c.idle ≡ false → c.flag ≡ false → Judge c solid Begins
  solved : {n : ℕ} → Sane c → Judge c (round n) Solves

-- ---- rounds begun: "A round begins when its question goes out."
abbrev pub begun_by : Out → Steep → List Steep
begun_by (refused n) b = []
begun_by (asks nothing q) b = []
begun_by (asks solid q) b = []
begun_by (asks (round n) q) b = b ∷ []
begun_by (stops why q) b = []

-- the steepness of each round that answers begin, in order
unfoldable pub rounds_begun : Run → List Answer → List Steep
rounds_begun r [] = []
rounds_begun r (a ∷ late) = begun_by (answered r a).out (answered r a).run.steep ++ rounds_begun (answered r a).run late

-- how often a steepness is among them
unfoldable pub times : Steep → List Steep → ℕ
times d [] = 0
times d (b ∷ l) = choose (same d b) (suc (times d l)) (times d l)

-- with full stages each is at the steepness of its number, the first of the list being round n
unfoldable pub FullFrom : ℕ → List Steep → Type 0
FullFrom n [] = Unit {0}
FullFrom n (b ∷ l) = (b ≡ full_steep n) × FullFrom (suc n) l

-- ---- reckonings
-- "each kept volume that the plain run's update evaluates is one reckoning made": those of an answer, and of a list of answers
abbrev pub made_by : Run → Answer → Verdict → List Float
made_by r a (Kept n) = []
made_by r a (Over n) = []
made_by r a Halts = []
made_by r a Begins = []
made_by r a Solves = reckonings (given_at (case_of r.given) r.steep r.design (asked_of r) a.energies)

unfoldable pub made : Run → List Answer → ℕ
made r [] = 0
made r (a ∷ late) = length (made_by r a (judged r.part (checks_of r a))) + made (answered r a).run late

-- those in records
unfoldable pub recorded_in : List Iteration → ℕ
recorded_in [] = 0
recorded_in (e ∷ l) = e.passes + recorded_in l
