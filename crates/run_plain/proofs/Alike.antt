-- A call and a step of the plain run that stand alike: what they read is the same, so their parts, checks and stops are. Assumes nothing.
use mathlib.Core.Path.{◌≡◌, refl, sym, ap, ◌∙◌}
use mathlib.Core.Bool.{true, false, not}
use mathlib.Core.List.{List, [], ◌∷◌}
use Prim.Native.Nat.{suc, ◌≤◌, ◌<◌, min}
use native.Mathlib.Omega.{arith}
use lib.ListN.{length, take, length-take}
use lib.Dec.{ltb, leb, eqb}
use lib.Ieee.{Float}
use borrow.Author.Tests.{lt-ltb, le-leb, eq-eqb}
use Rattle.lists.specs.Lists.{choose, overlay}
use Rattle.lists.proofs.Bools.{and-true}
use Rattle.topo.specs.declared.Iteration.{Iteration}
use Rattle.topo.specs.declared.Sharpening.{Sharpening}
use Rattle.topo.specs.Stages.{sharpens}
use Rattle.oc_record.specs.Record.{compliance_of}
use Rattle.run_plain.specs.declared.Phase.{Phase}
use Rattle.run_plain.specs.declared.Phase.TheVariants.{Idle, Solid, Round}
use Rattle.run_plain.specs.declared.State.{State}
use Rattle.run_plain.specs.Lent.{Sizes, answer_short}
use Rattle.run_plain.specs.Formulas.{Steep, update_at, record_at, not_finite, idle, small}
use Rattle.run_plain.specs.Opening.{elements, near_of, case_of}
use Rattle.run_plain.specs.declared.Checks.{Checks}
use Rattle.run_plain.specs.Plain.{Part, nothing, solid, round, Row, in_order, stage_of, sharpest, steady_run, Run, Step, ended, asked_of, updated, stops_of, checks_of}
use Rattle.run_plain.specs.Calls.{ended_of, Lists, Arguments, Result, sizes_of, steep_at, in_range, sound_in, sound, part_in, part_of, case_from, checks_at, design_in, density_in, update_in, record_in, steady_at, stops_at, written_lists, lend, give_back, Call, out_of, fed}
use Rattle.run_plain.proofs.Parts.{take_part, overlay-part, Enough, enough}
use Rattle.run_plain.proofs.Formulas.{Ready}
use Rattle.run_plain.proofs.Counts.{stage-most, steep-at, Climbs, Running, steady-on, row_of}

-- ---- what a call and the plain run have in common
abbrev pub LastFits : List Row → List Float → List Float → Type 0
LastFits [] a b = Unit {0}
LastFits (r ∷ rows) a b = a ≡ b

abbrev pub AskedFits : Part → List Float → List Float → Type 0
AskedFits nothing a b = Unit {0}
AskedFits solid a b = Unit {0}
AskedFits (round n) a b = a ≡ b

abbrev pub Fits : Part → Run → State → Type 0
Fits nothing r s = s.phase ≡ Idle
Fits solid r s = (s.phase ≡ Solid) × (r.rows ≡ []) × Running r.given.goal.sharpen r.steep r.rows s
Fits (round n) r s = (s.phase ≡ Round) × (n ≡ suc (length r.rows)) × (length r.rows < r.given.goal.max_iterations) × Running r.given.goal.sharpen r.steep r.rows s

-- the run r stands as the state s and the lists l say; the lists are as long as l₀
pub record Sim (l₀ : Lists) (r : Run) (s : State) (l : Lists) : Type 0 where
  pub ready : Ready r.given
  pub elements : s.setting.elements ≡ elements r.given
  pub entries : s.setting.entries ≡ length (near_of r.given)
  pub limit : s.setting.max_iterations ≡ r.given.goal.max_iterations
  pub sizes : sizes_of [] l ≡ sizes_of [] l₀
  pub sharpen : s.setting.sharpen ≡ r.given.goal.sharpen
  pub case : case_from s l ≡ case_of r.given
  pub design : design_in s l ≡ r.design
  pub asked : AskedFits r.part (density_in s l) (asked_of r)
  pub last : LastFits r.rows (take s.setting.elements l.last) r.last
  pub rounds : s.progress.rounds ≡ length r.rows
  pub history : take s.progress.rounds l.history ≡ in_order r.rows
  pub solid_work : s.compliances.solid ≡ r.solid_work
  pub fits : Fits r.part r s
  pub climbs : Climbs r.steep r.rows

-- ---- the part and the checks are the same
in-range : (s : State) (f : Sharpening) (b : Steep) (rows : List Row) → s.setting.elements ≤ 65535 → Running f b rows s → in_range s ≡ true
unfolding in_range
in-range s f b rows h r =
    let m : stage_of b ≤ 4 = stage-most b in
    let e : s.progress.stage ≡ stage_of b = r.stage in
    and-true _ _ (and-true _ _ (and-true _ _ (le-leb s.progress.stage 4 (omega arith)) (lt-ltb s.progress.at_stage 20 r.few)) (lt-ltb s.progress.steady 5 r.calm)) (le-leb s.setting.elements 65535 h)

-- every state of a run passes 20's test
pub sound-is : (p : Part) (r : Run) (s : State) → s.setting.elements ≤ 65535 → s.progress.rounds ≡ length r.rows → s.setting.max_iterations ≡ r.given.goal.max_iterations → Fits p r s → sound s ≡ true
unfolding sound
sound-is nothing r s h d m f = ap (λ (x : Phase). sound_in x s) f
sound-is solid r s h d m f =
    let z : s.progress.rounds ≡ 0 = d ∙ ap length f.1 in
    ap (λ (x : Phase). sound_in x s) f.0 ∙ and-true _ _ (in-range s _ _ _ h f.2) (eq-eqb _ _ z)
sound-is (round n) r s h d m f =
    let z : s.progress.rounds < s.setting.max_iterations = omega (arith, f.2) in
    ap (λ (x : Phase). sound_in x s) f.0 ∙ and-true _ _ (in-range s _ _ _ h f.3) (lt-ltb _ _ z)

part_in_lem : (p : Part) (r : Run) (s : State) → s.progress.rounds ≡ length r.rows → Fits p r s → part_in s.phase s ≡ p
part_in_lem nothing r s d f = ap (λ (x : Phase). part_in x s) f
part_in_lem solid r s d f = ap (λ (x : Phase). part_in x s) f.0
part_in_lem (round n) r s d f =
    let q : suc s.progress.rounds ≡ n = omega (arith, f.1) in
    ap (λ (x : Phase). part_in x s) f.0 ∙ ap round q

pub part-is : (p : Part) (r : Run) (s : State) → s.setting.elements ≤ 65535 → s.progress.rounds ≡ length r.rows → s.setting.max_iterations ≡ r.given.goal.max_iterations → Fits p r s → part_of s ≡ p
unfolding part_of choose
part-is p r s h d m f = rw (sound-is p r s h d m f) (part_in_lem p r s d f)

lent-sizes : (k : Sizes) (l l₀ : Lists) → sizes_of [] l ≡ sizes_of [] l₀ → sizes_of k.work (lend k l) ≡ sizes_of k.work (lend k l₀)
lent-sizes k l l₀ e =
    simp length-take (λ i. record {
      volumes = min k.volumes (e i).volumes;
      passive = min k.passive (e i).passive;
      starts = min k.starts (e i).starts;
      near = min k.near (e i).near;
      coef = min k.coef (e i).coef;
      design = min k.design (e i).design;
      density = min k.density (e i).density;
      last = min k.last (e i).last;
      history = min k.history (e i).history;
      work = k.work;
    })

pub checks-same : (l₀ : Lists) (r : Run) (s : State) (l : Lists) (c : Call) → Sim l₀ r s l → checks_at s c.arguments (sizes_of c.lent.work (lend c.lent l)) ≡ checks_of r (fed l₀ c)
unfolding checks_at checks_of
checks-same l₀ r s l c m =
    let z = lent-sizes c.lent l l₀ m.sizes in
    λ i. record {
      short = answer_short (m.elements i) (m.entries i) (m.limit i) (z i);
      said = c.arguments.heard.said;
      stands = ltb 0 (m.rounds i);
      count = not (eqb (length c.arguments.energies) (m.elements i));
      bad = not_finite c.arguments.energies;
      idle = idle (compliance_of c.arguments.energies);
      flag = c.arguments.heard.flag;
    }

-- lists that suffice
abbrev pub Suffices : State → Sizes → Lists → Type 0
Suffices s k l = Enough s.setting.elements s.setting.entries s.setting.max_iterations (sizes_of k.work (lend k l))

pub suffices : (l₀ : Lists) (r : Run) (s : State) (l : Lists) (c : Call) → Sim l₀ r s l → (checks_of r (fed l₀ c)).short ≡ false → Suffices s c.lent l
unfolding checks_at
suffices l₀ r s l c m h = enough _ _ _ _ (ap (λ (x : Checks). x.short) (checks-same l₀ r s l c m) ∙ h)

-- ---- what a call and a step of the plain run show, and that they stand alike after it
pub record Alike (l₀ l : Lists) (x : Result) (y : Step) : Type 0 where
  pub out : out_of x ≡ y.out
  pub sim : Sim l₀ y.run x.state (give_back x.lists l)

-- a part of each list that is given back as it was lent
pub back-same : (k : Sizes) (l : Lists) → give_back (lend k l) l ≡ l
back-same k l =
    λ i. record {
      volumes = overlay-part k.volumes l.volumes i;
      passive = overlay-part k.passive l.passive i;
      starts = overlay-part k.starts l.starts i;
      near = overlay-part k.near l.near i;
      coef = overlay-part k.coef l.coef i;
      design = overlay-part k.design l.design i;
      density = overlay-part k.density l.density i;
      last = overlay-part k.last l.last i;
      history = overlay-part k.history l.history i;
    }

-- the lists that are only read are as they were, whatever is written into the others
pub back_read : (k : Sizes) (l : Lists) (design density last : List Float) (history : List Iteration)
    → give_back (written_lists (lend k l) design density last history) l
    ≡ written_lists l (overlay design l.design) (overlay density l.density) (overlay last l.last) (overlay history l.history)
back_read k l design density last history =
    λ i. record {
      volumes = overlay-part k.volumes l.volumes i;
      passive = overlay-part k.passive l.passive i;
      starts = overlay-part k.starts l.starts i;
      near = overlay-part k.near l.near i;
      coef = overlay-part k.coef l.coef i;
      design = overlay design l.design;
      density = overlay density l.density;
      last = overlay last l.last;
      history = overlay history l.history;
    }

pub sizes-back : (l l₀ : Lists) (design density last : List Float) (history : List Iteration) → sizes_of [] l ≡ sizes_of [] l₀
    → length design ≡ length l.design → length density ≡ length l.density → length last ≡ length l.last → length history ≡ length l.history
    → sizes_of [] (written_lists l design density last history) ≡ sizes_of [] l₀
sizes-back l l₀ design density last history e a b c d =
    let step : sizes_of [] (written_lists l design density last history) ≡ sizes_of [] l =
    λ i. record { volumes = length l.volumes; passive = length l.passive; starts = length l.starts; near = length l.near; coef = length l.coef; design = a i; density = b i; last = c i; history = d i; work = [] } in
    step ∙ e

pub sim-ended : (l₀ : Lists) (r : Run) (s : State) (l : Lists) → Sim l₀ r s l → Sim l₀ (ended r) (ended_of s) l
unfolding case_from
sim-ended l₀ r s l m =
    record { ready = m.ready; elements = m.elements; entries = m.entries; limit = m.limit; sizes = m.sizes; sharpen = m.sharpen; case = m.case; design = m.design; asked = tt; last = m.last; rounds = m.rounds; history = m.history; solid_work = m.solid_work; fits = refl; climbs = m.climbs }

-- ---- what a call reads is what the plain run has
-- a part that is long enough has what the formulas read
lent-case : (s : State) (k : Sizes) (l : Lists) → Suffices s k l → case_from s (lend k l) ≡ case_from s l
unfolding case_from
lent-case s k l h =
    λ i. record {
      volumes = take_part s.setting.elements k.volumes l.volumes h.volumes i;
      passive = take_part s.setting.elements k.passive l.passive h.passive i;
      starts = take_part (suc s.setting.elements) k.starts l.starts h.room.starts i;
      near = take_part s.setting.entries k.near l.near h.near i;
      coef = take_part s.setting.entries k.coef l.coef h.coef i;
      fraction = s.setting.fraction;
      sharpen = sharpens s.setting.sharpen;
    }

pub record Reads (r : Run) (s : State) (l : Lists) : Type 0 where
  pub case : case_from s l ≡ case_of r.given
  pub steep : steep_at s.progress.stage ≡ r.steep
  pub design : design_in s l ≡ r.design
  pub long : length r.design ≡ s.setting.elements
  pub sharpen : s.setting.sharpen ≡ r.given.goal.sharpen

pub reads : (l₀ : Lists) (r : Run) (s : State) (k : Sizes) (l : Lists) → Sim l₀ r s l → Suffices s k l → s.progress.stage ≡ stage_of r.steep → Reads r s (lend k l)
reads l₀ r s k l m h e =
    let d = take_part s.setting.elements k.design l.design h.room.design in
    let b : s.setting.elements ≤ length (take k.design l.design) = h.room.design in
    let n : length (take s.setting.elements (take k.design l.design)) ≡ min s.setting.elements (length (take k.design l.design)) = length-take s.setting.elements (take k.design l.design) in
    record {
      case = lent-case s k l h ∙ m.case;
      steep = steep-at s r.steep e;
      design = d ∙ m.design;
      long = sym (ap length (d ∙ m.design)) ∙ omega arith;
      sharpen = m.sharpen;
    }

-- a round's record and design are the plain run's
pub record Solved (r : Run) (s : State) (a : Arguments) (l : Lists) : Type 0 where
  pub update : update_in s a l ≡ update_at (case_of r.given) r.steep r.design (asked_of r) a.energies
  pub entry : record_in s a l ≡ record_at (case_of r.given) r.steep r.design (asked_of r) a.energies (suc (length r.rows))

pub solved : (r : Run) (s : State) (a : Arguments) (l : Lists) → Reads r s l → density_in s l ≡ asked_of r → s.progress.rounds ≡ length r.rows → Solved r s a l
solved r s a l d q e =
    record {
      update = λ i. update_at (d.case i) (d.steep i) (d.design i) (q i) a.energies;
      entry = λ i. record_at (d.case i) (d.steep i) (d.design i) (q i) a.energies (suc (e i));
    }

-- the stops' tests are the same
pub stops_same : (l₀ : Lists) (r : Run) (s : State) (l : Lists) (c : Call) → Sim l₀ r s l → Reads r s (lend c.lent l) → Solved r s c.arguments (lend c.lent l) → Running r.given.goal.sharpen r.steep r.rows s
    → stops_at s c.arguments.heard (record_in s c.arguments (lend c.lent l)) ≡ stops_of (updated r c.arguments.energies) (fed l₀ c)
unfolding stops_at
stops_same l₀ r s l c m d o g =
    let e = record_in s c.arguments (lend c.lent l) in
    let t : steady_at s e.compliance ≡ steady_run r.given.goal.sharpen (row_of r.steep e ∷ r.rows) = steady-on r.given.goal.sharpen r.steep e r.rows s d.sharpen g in
    let t' = t ∙ (λ i. steady_run r.given.goal.sharpen (row_of r.steep (o.entry i) ∷ r.rows)) in
    λ i. record {
      sharp = sharpest (d.sharpen i) (d.steep i);
      small = small (o.entry i).change;
      levelled = leb 5 (t' i);
      limit = leb (m.limit i) (suc (m.rounds i));
      budget = leb c.arguments.heard.allowed c.arguments.heard.elapsed;
      flag = c.arguments.heard.flag;
    }
