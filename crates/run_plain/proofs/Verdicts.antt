-- What an answer comes to and which stop applies, each in 01's order and no other: by cases on the tests. Assumes nothing.
use Rattle.topo.specs.declared.Stop.{Stop}
use Rattle.std.specs.Prelude.{Option, Some, None}
use mathlib.Core.Path.{◌≡◌, refl}
use mathlib.Core.Bool.{Bool, true, false, ◌&&◌}
use Prim.Native.Nat.{ℕ}
use Rattle.lists.specs.Lists.{choose}
use Rattle.lists.proofs.Laws.{both}
use Rattle.topo.specs.declared.Stop.TheVariants.{Settled, LevelledOff, Limit, Budget, Stopped}
use Rattle.run_plain.specs.declared.Said.{Said}
use Rattle.run_plain.specs.declared.Said.TheVariants.{Gave, Failed, Halted}
use Rattle.refusal.specs.declared.Refusal.TheVariants as Refusal
use Rattle.run_plain.specs.declared.Verdict.{Verdict}
use Rattle.run_plain.specs.declared.Verdict.TheVariants.{Kept, Over, Halts, Begins, Solves}
use Rattle.run_plain.specs.declared.Checks.{Checks}
use Rattle.run_plain.specs.Plain.{Part, nothing, solid, round, solid_said, round_said, judged, Stops, first_stop}
use Rattle.run_plain.specs.Runs.{First, settled, levelled, limit, budget, stopped, goes_on, Sane, Judge, out_of_turn, short_solid, short_round, halted_solid, halted_first, halted_later, failed_solid, failed_round, count_solid, count_round, bad_solid, bad_round, idle_solid, flag_solid, begun, solved}

-- ---- the first stop
pub first-is : (t : Stops) → First t (first_stop t)
unfolding first_stop choose
first-is t = go (t.sharp && t.small) refl (t.sharp && t.levelled) refl t.limit refl t.budget refl t.flag refl
  where
    go : (a : Bool) → (t.sharp && t.small) ≡ a → (b : Bool) → (t.sharp && t.levelled) ≡ b → (c : Bool) → t.limit ≡ c → (d : Bool) → t.budget ≡ d → (f : Bool) → t.flag ≡ f
        → First t (choose a (Some Settled) (choose b (Some LevelledOff) (choose c (Some Limit) (choose d (Some Budget) (choose f (Some Stopped) None)))))
    go true ea b eb c ec d ed f ef = let p = both _ _ ea in settled p.0 p.1
    go false ea true eb c ec d ed f ef = let p = both _ _ eb in levelled ea p.0 p.1
    go false ea false eb true ec d ed f ef = limit ea eb ec
    go false ea false eb false ec true ed f ef = budget ea eb ec ed
    go false ea false eb false ec false ed true ef = stopped ea eb ec ed ef
    go false ea false eb false ec false ed false ef = goes_on ea eb ec ed ef

-- and no other
pub first-only : (t : Stops) (v : Option Stop) → First t v → first_stop t ≡ v
unfolding first_stop choose
first-only t v (settled a b) = rw (a, b)
first-only t v (levelled a b c) = rw a (rw (b, c))
first-only t v (limit a b c) = rw (a, b, c)
first-only t v (budget a b c d) = rw (a, b, c, d)
first-only t v (stopped a b c d e) = rw (a, b, c, d, e)
first-only t v (goes_on a b c d e) = rw (a, b, c, d, e)

-- ---- what a verdict says of the checks
abbrev pub Told-of : Verdict → Part → Checks → Type 0
Told-of (Kept n) p c = Unit {0}
Told-of (Over n) p c = Unit {0}
Told-of Halts p c = (c.short ≡ false) × (c.stands ≡ true)
Told-of Begins p c = (c.short ≡ false) × (p ≡ solid)
Told-of Solves p c = (c.short ≡ false) × (n : ℕ) × (p ≡ round n)

told-solid : (a b d e : Bool) (c : Checks) → c.short ≡ false → Told-of (choose a (Over Refusal.EnergiesDiffer) (choose b (Over Refusal.EnergyNotFinite) (choose d (Over Refusal.NoWork) (choose e (Over Refusal.Stopped) Begins)))) solid c
unfolding choose
told-solid true b d e c h = tt
told-solid false true d e c h = tt
told-solid false false true e c h = tt
told-solid false false false true c h = tt
told-solid false false false false c h = (h, refl)

told-round : (n : ℕ) (a b : Bool) (c : Checks) → c.short ≡ false → Told-of (choose a (Over Refusal.EnergiesDiffer) (choose b (Over Refusal.EnergyNotFinite) Solves)) (round n) c
unfolding choose
told-round n true b c h = tt
told-round n false true c h = tt
told-round n false false c h = (h, n, refl)

told_halt : (n : ℕ) (a : Bool) (c : Checks) → c.short ≡ false → c.stands ≡ a → Told-of (choose a Halts (Over Refusal.Stopped)) (round n) c
unfolding choose
told_halt n true c h e = (h, e)
told_halt n false c h e = tt

told-said : (n : ℕ) (said : Said) (c : Checks) → c.short ≡ false → Told-of (round_said said c) (round n) c
told-said n Halted c h = told_halt n c.stands c h refl
told-said n Failed c h = tt
told-said n Gave c h = told-round n _ _ c h

told-first : (said : Said) (c : Checks) → c.short ≡ false → Told-of (solid_said said c) solid c
told-first Halted c h = tt
told-first Failed c h = tt
told-first Gave c h = told-solid _ _ _ _ c h

told-short : (p : Part) (t : Bool) (v : Verdict) (c : Checks) → c.short ≡ t → (c.short ≡ false → Told-of v p c) → Told-of (choose t (Kept Refusal.ListTooShort) v) p c
unfolding choose
told-short p true v c e f = tt
told-short p false v c e f = f e

pub told : (p : Part) (c : Checks) → Told-of (judged p c) p c
unfolding judged
told nothing c = tt
told solid c = told-short solid c.short _ c refl (told-first c.said c)
told (round n) c = told-short (round n) c.short _ c refl (told-said n c.said c)

-- ---- the refusals of an answer
judge_gave : (c : Checks) → c.said ≡ Gave → c.short ≡ false → (n b i f : Bool) → c.count ≡ n → c.bad ≡ b → c.idle ≡ i → c.flag ≡ f
    → Judge c solid (choose n (Over Refusal.EnergiesDiffer) (choose b (Over Refusal.EnergyNotFinite) (choose i (Over Refusal.NoWork) (choose f (Over Refusal.Stopped) Begins))))
unfolding choose
judge_gave c e s true b i f en eb ei ef = count_solid s e en
judge_gave c e s false true i f en eb ei ef = bad_solid s e en eb
judge_gave c e s false false true f en eb ei ef = idle_solid (s, e, en, eb) ei
judge_gave c e s false false false true en eb ei ef = flag_solid (s, e, en, eb) ei ef
judge_gave c e s false false false false en eb ei ef = begun (s, e, en, eb) ei ef

judge-solid : (c : Checks) (said : Said) → c.said ≡ said → c.short ≡ false → Judge c solid (solid_said said c)
judge-solid c Halted e s = halted_solid s e
judge-solid c Failed e s = failed_solid s e
judge-solid c Gave e s = judge_gave c e s c.count c.bad c.idle c.flag refl refl refl refl

judge-given : (c : Checks) (m : ℕ) → c.said ≡ Gave → c.short ≡ false → (n b : Bool) → c.count ≡ n → c.bad ≡ b → Judge c (round m) (choose n (Over Refusal.EnergiesDiffer) (choose b (Over Refusal.EnergyNotFinite) Solves))
unfolding choose
judge-given c m e s true b en eb = count_round s e en
judge-given c m e s false true en eb = bad_round s e en eb
judge-given c m e s false false en eb = solved (s, e, en, eb)

judge_halted : (c : Checks) (m : ℕ) → c.said ≡ Halted → c.short ≡ false → (t : Bool) → c.stands ≡ t → Judge c (round m) (choose t Halts (Over Refusal.Stopped))
unfolding choose
judge_halted c m e s true t = halted_later s e t
judge_halted c m e s false t = halted_first s e t

judge-round : (c : Checks) (m : ℕ) (said : Said) → c.said ≡ said → c.short ≡ false → Judge c (round m) (round_said said c)
judge-round c m Halted e s = judge_halted c m e s c.stands refl
judge-round c m Failed e s = failed_round s e
judge-round c m Gave e s = judge-given c m e s c.count c.bad refl refl

short-solid : (c : Checks) (t : Bool) → c.short ≡ t → Judge c solid (choose t (Kept Refusal.ListTooShort) (solid_said c.said c))
unfolding choose
short-solid c true e = short_solid e
short-solid c false e = judge-solid c c.said refl e

short-round : (c : Checks) (m : ℕ) (t : Bool) → c.short ≡ t → Judge c (round m) (choose t (Kept Refusal.ListTooShort) (round_said c.said c))
unfolding choose
short-round c m true e = short_round e
short-round c m false e = judge-round c m c.said refl e

pub judge-is : (p : Part) (c : Checks) → Judge c p (judged p c)
unfolding judged
judge-is nothing c = out_of_turn
judge-is solid c = short-solid c c.short refl
judge-is (round m) c = short-round c m c.short refl

-- a verdict that goes on has sane checks
abbrev pub SaneIf : Verdict → Checks → Type 0
SaneIf (Kept n) c = Unit {0}
SaneIf (Over n) c = Unit {0}
SaneIf Halts c = Unit {0}
SaneIf Begins c = Sane c
SaneIf Solves c = Sane c

sane-by : (c : Checks) (p : Part) (v : Verdict) → Judge c p v → SaneIf v c
sane-by c p v out_of_turn = tt
sane-by c p v (short_solid s) = tt
sane-by c p v (short_round s) = tt
sane-by c p v (halted_solid s e) = tt
sane-by c p v (halted_first s e t) = tt
sane-by c p v (halted_later s e t) = tt
sane-by c p v (failed_solid s e) = tt
sane-by c p v (failed_round s e) = tt
sane-by c p v (count_solid s e n) = tt
sane-by c p v (count_round s e n) = tt
sane-by c p v (bad_solid s e n b) = tt
sane-by c p v (bad_round s e n b) = tt
sane-by c p v (idle_solid s i) = tt
sane-by c p v (flag_solid s i f) = tt
sane-by c p v (begun s i f) = s
sane-by c p v (solved s) = s

pub sane_if : (p : Part) (c : Checks) → SaneIf (judged p c) c
sane_if p c = sane-by c p (judged p c) (judge-is p c)

-- and no other: "given exactly if"
pub judge-only : (p : Part) (c : Checks) (v : Verdict) → Judge c p v → judged p c ≡ v
unfolding judged choose
judge-only p c v out_of_turn = refl
judge-only p c v (short_solid s) = rw s
judge-only p c v (short_round s) = rw s
judge-only p c v (halted_solid s e) = rw (s, e)
judge-only p c v (halted_first s e t) = rw (s, e, t)
judge-only p c v (halted_later s e t) = rw (s, e, t)
judge-only p c v (failed_solid s e) = rw (s, e)
judge-only p c v (failed_round s e) = rw (s, e)
judge-only p c v (count_solid s e n) = rw (s, e, n)
judge-only p c v (count_round s e n) = rw (s, e, n)
judge-only p c v (bad_solid s e n b) = rw (s, e, n, b)
judge-only p c v (bad_round s e n b) = rw (s, e, n, b)
judge-only p c v (idle_solid s i) = rw (s.0, s.1, s.2, s.3, i)
judge-only p c v (flag_solid s i f) = rw (s.0, s.1, s.2, s.3, i, f)
judge-only p c v (begun s i f) = rw (s.0, s.1, s.2, s.3, i, f)
judge-only p c v (solved s) = rw (s.0, s.1, s.2, s.3)
