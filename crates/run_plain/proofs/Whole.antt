-- The calls do what the plain run does, whatever list of answers comes: one case for each verdict, then induction on the answers. Assumes nothing.
use Rattle.std.specs.Prelude.{Option, Some, None}
use mathlib.Core.Path.{◌≡◌, refl, sym, ap, ◌∙◌, subst}
use mathlib.Core.Bool.{Bool, true, false, ◌&&◌}
use mathlib.Core.List.{List, [], ◌∷◌, ◌++◌, map}
use Prim.Native.Nat.{ℕ, suc, ◌≤◌, ◌<◌, min}
use native.Mathlib.Omega.{arith}
use lib.ListN.{length, take, set, length-take}
use lib.Seq.{take_all}
use lib.Dec.{ltb, leb}
use lib.Ieee.{Float}
use borrow.Author.Tests.{leb-false}
use Rattle.lists.specs.Lists.{choose, overlay}
use Rattle.lists.proofs.Laws.{choose-false}
use Rattle.refusal.specs.Refusals.{number_of}
use Rattle.topo.specs.declared.Iteration.{Iteration}
use Rattle.topo.specs.declared.Sharpening.{Sharpening}
use Rattle.topo.specs.declared.Stop.{Stop}
use Rattle.topo.specs.declared.Stop.TheVariants.{Stopped}
use Rattle.topo.specs.Stages.{sharpens}
use Rattle.oc_record.specs.Record.{compliance_of}
use Rattle.update_rates.specs.Rates.{Search}
use Rattle.run_plain.specs.declared.Phase.{Phase}
use Rattle.run_plain.specs.declared.Phase.TheVariants.{Idle, Solid, Round}
use Rattle.run_plain.specs.declared.Verdict.{Verdict}
use Rattle.run_plain.specs.declared.Verdict.TheVariants.{Kept, Over, Halts, Begins, Solves}
use Rattle.run_plain.specs.declared.State.{State}
use Rattle.run_plain.specs.declared.Heard.{Heard}
use Rattle.run_plain.specs.Lent.{Sizes}
use Rattle.run_plain.specs.Formulas.{Steep, s1, ones, see, record_at}
use Rattle.run_plain.specs.Opening.{Opening, elements, starts_of, near_of, coef_of, case_of, start_of, entry_of, Entry, Kept as KeptOut, Zeroed, Shut, Opens}
use Rattle.run_plain.specs.Plain.{Part, nothing, solid, round, refused, asks, stops, unopened, shown, Seen, Row, judged, first_stop, sharpest, count_at, level_with, steady_run, due_steep, Run, ended, plain_start, asked_of, asking, with_work, updated, stops_of, onward, checks_of, after, answered, run_from, plain_from, plain_shut, plain_open, plain_run}
use Rattle.run_plain.specs.Calls.{ended_of, Lists, Arguments, Result, sizes_of, steep_at, sound, part_of, case_from, design_in, density_in, checks_at, keeps, ends, first_asked, update_in, record_in, level_at, steady_at, stops_at, stage_after, turns_after, onward_state, solved_lists, solved_by, answer_by, answer_of, Asked, opening_of, opened_state, open_by, in_turn, open_of, World, lend, give_back, Call, world_after, out_of, calls_from, calls_shut, calls_by, calls_run, fed, NoRun, world_open, world_from}
use Rattle.run_plain.specs.Demand.{Stands}
use Rattle.run_plain.proofs.Parts.{take_part, take-overlay, overlay-part, Renewed, renewed, Added, added}
use Rattle.run_plain.proofs.Formulas.{Ready, ready, length-ones, length-start, length-see, length-update}
use Rattle.run_plain.proofs.Counts.{steep-at, Climbs, climbs-on, climbs-same, moved, Running, running-on, row_of, goes_on}
use Rattle.run_plain.proofs.Verdicts.{Told-of, told}
use Rattle.run_plain.proofs.Alike.{LastFits, AskedFits, Fits, Sim, Alike, sound-is, part-is, checks-same, Suffices, suffices, back-same, back_read, sizes-back, sim-ended, Reads, reads, Solved, solved, stops_same}

-- ---- refusals, and the solver's stop
is-kept : (l₀ : Lists) (r : Run) (s : State) (l : Lists) (k : Sizes) (n : ℕ) → Sim l₀ r s l → Alike l₀ l (keeps s n (lend k l)) (record { run = r; out = refused n })
is-kept l₀ r s l k n m = record { out = refl; sim = subst (Sim l₀ r s) (sym (back-same k l)) m }

is-over : (l₀ : Lists) (r : Run) (s : State) (l : Lists) (k : Sizes) (n : ℕ) → Sim l₀ r s l → Alike l₀ l (keeps (ended_of s) n (lend k l)) (record { run = ended r; out = refused n })
is-over l₀ r s l k n m = record { out = refl; sim = subst (Sim l₀ (ended r) (ended_of s)) (sym (back-same k l)) (sim-ended l₀ r s l m) }

last-is : (rows : List Row) (a b : List Float) → ltb 0 (length rows) ≡ true → LastFits rows a b → a ≡ b
last-is [] a b e f = absurd (let z : ◌≡◌ {A = ℕ} 0 1 = cc in omega arith)
last-is (r ∷ rows) a b e f = f

is_halted : (l₀ : Lists) (r : Run) (s : State) (l : Lists) (k : Sizes) → Sim l₀ r s l → Suffices s k l → ltb 0 (length r.rows) ≡ true
    → Alike l₀ l (record { state = ended_of s; reply = ends Stopped; lists = lend k l }) (record { run = ended r; out = stops Stopped r.last })
is_halted l₀ r s l k m h e =
    record {
      out = ap (stops Stopped) (take_part s.setting.elements k.last l.last h.room.last ∙ last-is r.rows _ _ e m.last);
      sim = subst (Sim l₀ (ended r) (ended_of s)) (sym (back-same k l)) (sim-ended l₀ r s l m);
    }

-- ---- the solid part solved
-- as many places as there are elements
see-long : (l₀ : Lists) (r : Run) (s : State) (l : Lists) (b : Steep) (x : List Float) → Sim l₀ r s l → length (see (case_of r.given) b x) ≡ s.setting.elements
unfolding case_of
see-long l₀ r s l b x m = length-see (case_of r.given) b x ∙ m.ready.passive ∙ sym m.elements

is-begun : (l₀ : Lists) (r : Run) (s : State) (l : Lists) (k : Sizes) (a : Arguments) → Sim l₀ r s l → Suffices s k l → r.part ≡ solid
    → Alike l₀ l (first_asked s a (lend k l)) (asking (with_work r (compliance_of a.energies)) 1 r.steep)
unfolding case_from level_at
is-begun l₀ r s l k a m h p =
    let f : (s.phase ≡ Solid) × (r.rows ≡ []) × Running r.given.goal.sharpen r.steep r.rows s = subst (λ (x : Part). Fits x r s) p m.fits in
    let d : Reads r s (lend k l) = reads l₀ r s k l m h f.2.stage in
    let new = see (case_from s (lend k l)) (steep_at s.progress.stage) (design_in s (lend k l)) in
    let new' = asked_of r in
    let e : new ≡ new' = λ i. see (d.case i) (d.steep i) (d.design i) in
    let n : Renewed s.setting.elements k.density new new' l.density = renewed s.setting.elements k.density new new' l.density e (see-long l₀ r s l r.steep r.design m) h.room.density in
    let dl = overlay (take k.design l.design) l.design in
    let sl = overlay (overlay new (take k.density l.density)) l.density in
    let ll = overlay (take k.last l.last) l.last in
    let hl = overlay (take k.history l.history) l.history in
    let z : length r.rows ≡ 0 = ap length f.1 in
    let y : 0 < r.given.goal.max_iterations = m.ready.rounds in
    record {
      out = ap (asks (round 1)) n.part;
      sim = subst (Sim l₀ _ _) (sym (back_read k l _ _ _ _))
          (record {
            ready = m.ready;
            elements = m.elements;
            entries = m.entries;
            limit = m.limit;
            sizes = sizes-back l l₀ dl sl ll hl m.sizes (ap length (overlay-part k.design l.design)) n.long (ap length (overlay-part k.last l.last)) (ap length (overlay-part k.history l.history));
            sharpen = m.sharpen;
            case = m.case;
            design = rw overlay-part m.design;
            asked = n.whole;
            last = rw overlay-part m.last;
            rounds = m.rounds;
            history = rw overlay-part m.history;
            solid_work = refl;
            fits = (refl, omega arith, omega arith, record { stage = f.2.stage; turns = f.2.turns; few = f.2.few; steady = f.2.steady; calm = f.2.calm; before = f.2.before });
            climbs = m.climbs;
          });
    }

-- ---- a round solved
-- the run after a round is recorded, at steepness b, with part p
abbrev recorded_run : Run → List Float → Steep → Part → Run
recorded_run r energies b p = record { given = r.given; part = p; design = (updated r energies).design; steep = b; solid_work = r.solid_work; last = asked_of r; rows = (updated r energies).rows }

abbrev recorded_with : State → Phase → ℕ → ℕ → ℕ → Float → State
recorded_with s ph st tu sy w =
    record { phase = ph; setting = s.setting; progress = record { rounds = suc s.progress.rounds; stage = st; at_stage = tu; steady = sy }; compliances = record { solid = s.compliances.solid; last = w } }

-- the densities that were asked for are laid over those of the last record's round
last-renewed : (r : Run) (s : State) (l : Lists) (k : Sizes) → Suffices s k l → density_in s (lend k l) ≡ asked_of r
    → Renewed s.setting.elements k.last (density_in s (lend k l)) (asked_of r) l.last
last-renewed r s l k h q =
    let x = density_in s (lend k l) in
    let lx : length x ≡ min s.setting.elements (length (take k.density l.density)) = length-take s.setting.elements (take k.density l.density) in
    let hx : s.setting.elements ≤ length (take k.density l.density) = h.room.density in
    let ln : length (asked_of r) ≡ s.setting.elements = ap length (sym q) ∙ omega arith in
    renewed s.setting.elements k.last x (asked_of r) l.last q ln h.room.last

-- the state and the lists after a round is recorded, whatever part of `density` is written
is-recorded : (l₀ : Lists) (r : Run) (s : State) (l : Lists) (k : Sizes) (a : Arguments) (ph : Phase) (st tu sy : ℕ) (w : Float) (b : Steep) (p : Part) (density : List Float)
    → Sim l₀ r s l → Suffices s k l → Reads r s (lend k l) → density_in s (lend k l) ≡ asked_of r → s.progress.rounds < s.setting.max_iterations
    → AskedFits p (take s.setting.elements (overlay density l.density)) (asked_of (recorded_run r a.energies b p)) → length (overlay density l.density) ≡ length l.density
    → Fits p (recorded_run r a.energies b p) (recorded_with s ph st tu sy w) → Climbs b (updated r a.energies).rows
    → Sim l₀ (recorded_run r a.energies b p) (recorded_with s ph st tu sy w) (give_back (solved_lists s a (lend k l) density) l)
unfolding case_from
is-recorded l₀ r s l k a ph st tu sy w b p density m h d q lt hq hs f c =
    let o : Solved r s a (lend k l) = solved r s a (lend k l) d q m.rounds in
    let u = (update_in s a (lend k l)).design in
    let u' = (updated r a.energies).design in
    let x = density_in s (lend k l) in
    let e = record_in s a (lend k l) in
    let nd : Renewed s.setting.elements k.design u u' l.design =
    renewed s.setting.elements k.design u u' l.design (ap (λ (v : Search). v.design) o.update) (length-update _ _ _ _ _ ∙ d.long) h.room.design in
    let nl : Renewed s.setting.elements k.last x (asked_of r) l.last = last-renewed r s l k h q in
    let hh : s.setting.max_iterations ≤ length (take k.history l.history) = h.room.history in
    let nh : Added s.progress.rounds k.history e l.history = added s.progress.rounds k.history e l.history (omega arith) in
    subst (Sim l₀ (recorded_run r a.energies b p) (recorded_with s ph st tu sy w)) (sym (back_read k l (overlay u (take k.design l.design)) density (overlay x (take k.last l.last)) (set (take k.history l.history) s.progress.rounds e)))
    (record {
      ready = m.ready;
      elements = m.elements;
      entries = m.entries;
      limit = m.limit;
      sizes = sizes-back l l₀ (overlay (overlay u (take k.design l.design)) l.design) (overlay density l.density) (overlay (overlay x (take k.last l.last)) l.last) (overlay (set (take k.history l.history) s.progress.rounds e) l.history)
          m.sizes nd.long hs nl.long nh.long;
      sharpen = m.sharpen;
      case = m.case;
      design = nd.whole;
      asked = hq;
      last = nl.whole;
      rounds = ap suc m.rounds;
      history = nh.whole ∙ (λ i. (m.history i) ++ (o.entry i ∷ []));
      solid_work = m.solid_work;
      fits = f;
      climbs = c;
    })

is-stopped : (l₀ : Lists) (r : Run) (s : State) (l : Lists) (k : Sizes) (a : Arguments) (why : Stop) → Sim l₀ r s l → Suffices s k l → Reads r s (lend k l) → density_in s (lend k l) ≡ asked_of r → s.progress.rounds < s.setting.max_iterations
    → Alike l₀ l (solved_by s a (lend k l) (Some why)) (onward (updated r a.energies) (Some why))
is-stopped l₀ r s l k a why m h d q lt =
    record {
      out = ap (stops why) (last-renewed r s l k h q).part;
      sim = is-recorded l₀ r s l k a Idle s.progress.stage s.progress.at_stage s.progress.steady (record_in s a (lend k l)).compliance r.steep nothing (take k.density l.density) m h d q lt
          tt (ap length (overlay-part k.density l.density)) refl (climbs-same r.steep _ r.rows m.climbs);
    }

is-onward : (l₀ : Lists) (r : Run) (s : State) (l : Lists) (k : Sizes) (a : Arguments) → Sim l₀ r s l → Suffices s k l → Reads r s (lend k l) → density_in s (lend k l) ≡ asked_of r
    → Running r.given.goal.sharpen r.steep r.rows s → s.progress.rounds < s.setting.max_iterations
    → (sharpest s.setting.sharpen (steep_at s.progress.stage) && leb 5 (steady_at s (record_in s a (lend k l)).compliance)) ≡ false → leb s.setting.max_iterations (suc s.progress.rounds) ≡ false
    → Alike l₀ l (solved_by s a (lend k l) None) (onward (updated r a.energies) None)
is-onward l₀ r s l k a m h d q g lt hl hr =
    let o : Solved r s a (lend k l) = solved r s a (lend k l) d q m.rounds in
    let f = r.given.goal.sharpen in
    let e = record_in s a (lend k l) in
    let e' = record_at (case_of r.given) r.steep r.design (asked_of r) a.energies (suc (length r.rows)) in
    let b' = due_steep f r.steep (row_of r.steep e' ∷ r.rows) in
    let qn = see (case_of r.given) b' (updated r a.energies).design in
    let n = suc (suc (length r.rows)) in
    let hl' : (sharpest f r.steep && leb 5 (steady_at s e'.compliance)) ≡ false = subst (λ (z : Bool). z ≡ false) (λ i. sharpest (d.sharpen i) (d.steep i) && leb 5 (steady_at s (o.entry i).compliance)) hl in
    let z : suc s.progress.rounds < s.setting.max_iterations = leb-false _ _ hr in
    let zd : s.progress.rounds ≡ length r.rows = m.rounds in
    let zr : s.setting.max_iterations ≡ r.given.goal.max_iterations = m.limit in
    let w : Running f b' (row_of r.steep e' ∷ r.rows) (onward_state s e') = running-on f r.steep r.rows e' s d.sharpen m.climbs g hl' in
    let w' : Running f b' (row_of r.steep e' ∷ r.rows) (onward_state s e) = subst (λ (x : Iteration). Running f b' (row_of r.steep e' ∷ r.rows) (onward_state s x)) (sym o.entry) w in
    let sb : steep_at (stage_after s e) ≡ b' = steep-at (onward_state s e) b' w'.stage in
    let new = see (case_from s (lend k l)) (steep_at (stage_after s e)) (update_in s a (lend k l)).design in
    let en : new ≡ qn = λ i. see (d.case i) (sb i) (o.update i).design in
    let nn : Renewed s.setting.elements k.density new qn l.density = renewed s.setting.elements k.density new qn l.density en (see-long l₀ r s l b' (updated r a.energies).design m) h.room.density in
    record {
      out = (λ i. asks (round (suc (suc (m.rounds i)))) (nn.part i));
      sim = is-recorded l₀ r s l k a Round (stage_after s e) (turns_after s e) (steady_at s e.compliance) e.compliance b' (round n) (overlay new (take k.density l.density)) m h d q lt
          nn.whole nn.long (refl, refl, omega arith, w') (climbs-on f r.steep b' e' r.rows m.climbs (moved f r.steep (row_of r.steep e' ∷ r.rows)));
    }

goes_at : (s : State) (a : Heard) (e : Iteration) → first_stop (stops_at s a e) ≡ None → ((sharpest s.setting.sharpen (steep_at s.progress.stage) && leb 5 (steady_at s e.compliance)) ≡ false) × (leb s.setting.max_iterations (suc s.progress.rounds) ≡ false)
unfolding stops_at
goes_at s a e h = let g = goes_on (stops_at s a e) h in (g.levelled, g.limit)

is-solved : (l₀ : Lists) (r : Run) (s : State) (l : Lists) (c : Call) (n : ℕ) → Sim l₀ r s l → Suffices s c.lent l → r.part ≡ round n
    → Alike l₀ l (answer_by s c.arguments (lend c.lent l) Solves) (after r (fed l₀ c) Solves)
is-solved l₀ r s l c n m h p = go (first_stop (stops_of (updated r c.arguments.energies) (fed l₀ c))) refl
  where
    f : (s.phase ≡ Round) × (n ≡ suc (length r.rows)) × (length r.rows < r.given.goal.max_iterations) × Running r.given.goal.sharpen r.steep r.rows s
    f = subst (λ (x : Part). Fits x r s) p m.fits

    d : Reads r s (lend c.lent l)
    d = reads l₀ r s c.lent l m h f.3.stage

    q : density_in s (lend c.lent l) ≡ asked_of r
    q = take_part s.setting.elements c.lent.density l.density h.room.density ∙ subst (λ (x : Part). AskedFits x (density_in s l) (asked_of r)) p m.asked

    lt : s.progress.rounds < s.setting.max_iterations
    lt = let x : s.progress.rounds ≡ length r.rows = m.rounds in let y : s.setting.max_iterations ≡ r.given.goal.max_iterations = m.limit in let z : length r.rows < r.given.goal.max_iterations = f.2 in omega arith

    t : stops_at s c.arguments.heard (record_in s c.arguments (lend c.lent l)) ≡ stops_of (updated r c.arguments.energies) (fed l₀ c)
    t = stops_same l₀ r s l c m d (solved r s c.arguments (lend c.lent l) d q m.rounds) f.3

    go : (v : Option Stop) → first_stop (stops_of (updated r c.arguments.energies) (fed l₀ c)) ≡ v → Alike l₀ l (answer_by s c.arguments (lend c.lent l) Solves) (after r (fed l₀ c) Solves)
    go (Some why) e = rw (t, e) (is-stopped l₀ r s l c.lent c.arguments why m h d q lt)
    go None e =
        let g = goes_at s c.arguments.heard (record_in s c.arguments (lend c.lent l)) (ap first_stop t ∙ e) in
        rw (t, e) (is-onward l₀ r s l c.lent c.arguments m h d q f.3 lt g.0 g.1)

-- ---- an answer
verdict-is : (l₀ : Lists) (r : Run) (s : State) (l : Lists) (c : Call) → Sim l₀ r s l → (v : Verdict) → Told-of v r.part (checks_of r (fed l₀ c))
    → Alike l₀ l (answer_by s c.arguments (lend c.lent l) v) (after r (fed l₀ c) v)
unfolding checks_of
verdict-is l₀ r s l c m (Kept n) t = is-kept l₀ r s l c.lent (number_of n) m
verdict-is l₀ r s l c m (Over n) t = is-over l₀ r s l c.lent (number_of n) m
verdict-is l₀ r s l c m Halts t = is_halted l₀ r s l c.lent m (suffices l₀ r s l c m t.0) t.1
verdict-is l₀ r s l c m Begins t = is-begun l₀ r s l c.lent c.arguments m (suffices l₀ r s l c m t.0) t.1
verdict-is l₀ r s l c m Solves t = is-solved l₀ r s l c t.1 m (suffices l₀ r s l c m t.0) t.2

pub answer-is : (l₀ : Lists) (r : Run) (s : State) (l : Lists) (c : Call) → Sim l₀ r s l → Alike l₀ l (answer_of s c.arguments c.lent.work (lend c.lent l)) (answered r (fed l₀ c))
unfolding answer_of answered
answer-is l₀ r s l c m =
    let p : part_of s ≡ r.part = part-is r.part r s (rw m.elements m.ready.few) m.rounds m.limit m.fits in
    let q : checks_at s c.arguments (sizes_of c.lent.work (lend c.lent l)) ≡ checks_of r (fed l₀ c) = checks-same l₀ r s l c m in
    rw (p, q) (verdict-is l₀ r s l c m (judged r.part (checks_of r (fed l₀ c))) (told r.part (checks_of r (fed l₀ c))))

-- with no run open an answer is out of turn
pub refused-shut : (s : State) (a : Arguments) (work : List ℕ) (l : Lists) → NoRun s → answer_of s a work l ≡ keeps s 20 l
unfolding answer_of part_of judged sound choose
refused-shut s a work l h = rw h

-- ---- whole lists
from_is : (l₀ : Lists) (r : Run) (s : State) (l : Lists) (more : List Call) → Sim l₀ r s l → calls_from (record { state = s; lists = l }) more ≡ plain_from r (map (fed l₀) more)
unfolding calls_from plain_from
from_is l₀ r s l [] m = refl
from_is l₀ r s l (c ∷ more) m =
    let a : Alike l₀ l (answer_of s c.arguments c.lent.work (lend c.lent l)) (answered r (fed l₀ c)) = answer-is l₀ r s l c m in
    let v = world_after l (answer_of s c.arguments c.lent.work (lend c.lent l)) in
    let e : calls_from v more ≡ plain_from (answered r (fed l₀ c)).run (map (fed l₀) more) = from_is l₀ (answered r (fed l₀ c)).run v.state v.lists more a.sim in
    λ i. record { out = a.out i; left = shown (a.sim.history i) (a.sim.design i) } ∷ e i

-- after a refused opening every answer gets 20
shut-is : (l₀ : Lists) (s : State) (l : Lists) (more : List Call) → NoRun s → calls_shut (record { state = s; lists = l }) more ≡ plain_shut (map (fed l₀) more)
unfolding calls_shut plain_shut
shut-is l₀ s l [] h = refl
shut-is l₀ s l (c ∷ more) h =
    let e : answer_of s c.arguments c.lent.work (lend c.lent l) ≡ keeps s 20 (lend c.lent l) = refused-shut s c.arguments c.lent.work (lend c.lent l) h in
    rw e (ap (λ (t : List Seen). record { out = refused 20; left = unopened } ∷ t) (shut-is l₀ s (give_back (lend c.lent l) l) more h))

-- ---- an opening
-- a part that is read whole
whole_part : {A : Type 0} (n : ℕ) (p l : List A) → length p ≡ n → take n (overlay p l) ≡ p
whole_part n p l e = take-overlay n p l (omega arith) ∙ take_all n p (omega arith)

pub count_none : (d : Steep) → count_at d [] ≡ 0
unfolding count_at
count_none d = refl

choose-same : {A : Type 0} (t : Bool) (a : A) → a ≡ choose t a a
unfolding choose
choose-same true a = refl
choose-same false a = refl

fresh-counts : (f : Sharpening) (s : State) → s.progress.stage ≡ 0 → s.progress.at_stage ≡ 0 → s.progress.steady ≡ 0 → s.progress.rounds ≡ 0 → Running f s1 [] s
unfolding count_at steady_run level_with level_at
fresh-counts f s a b c d =
    record { stage = a; turns = b ∙ choose-same (sharpest f s1) 0; few = omega arith; steady = c; calm = omega arith; before = λ w. choose-false (ltb 0 s.progress.rounds) _ false (ap (λ (n : ℕ). ltb 0 n) d) }

-- the state that an opening leaves
abbrev pub opened-at : Opening → State
opened-at o = opened_state o.goal (elements o) (length (near_of o))

-- the lists that an opening leaves, given back
pub open-sim : (g : Asked) (k : Sizes) (l : Lists) → entry_of (opening_of g k.work (lend k l)) ≡ Opens
    → Sim l (plain_start (opening_of g k.work (lend k l))) (opened-at (opening_of g k.work (lend k l))) (give_back (open_by (opened-at (opening_of g k.work (lend k l))) (opening_of g k.work (lend k l)) (lend k l) Opens).lists l)
unfolding case_from case_of
open-sim g k l e =
    let o : Opening = opening_of g k.work (lend k l) in
    let y : Ready o = ready o e in
    let n = length (take k.volumes l.volumes) in
    let fs : Renewed (suc n) k.starts (starts_of o) (starts_of o) l.starts = renewed _ _ _ _ _ refl y.starts y.room.starts in
    let fn : Renewed (length (near_of o)) k.near (near_of o) (near_of o) l.near = renewed _ _ _ _ _ refl refl y.near in
    let fc : Renewed (length (near_of o)) k.coef (coef_of o) (coef_of o) l.coef = renewed _ _ _ _ _ refl y.coef y.near-coef in
    let fd : Renewed n k.design (start_of o) (start_of o) l.design = renewed _ _ _ _ _ refl (length-start o ∙ y.passive) y.room.design in
    let fq : Renewed n k.density (ones n) (ones n) l.density = renewed _ _ _ _ _ refl (length-ones n) y.room.density in
    record {
      ready = y;
      elements = refl;
      entries = refl;
      limit = refl;
      sizes = λ i. record {
        volumes = length (overlay-part k.volumes l.volumes i);
        passive = length (overlay-part k.passive l.passive i);
        starts = fs.long i;
        near = fn.long i;
        coef = fc.long i;
        design = fd.long i;
        density = fq.long i;
        last = length (overlay-part k.last l.last i);
        history = length (overlay-part k.history l.history i);
        work = [];
      };
      sharpen = refl;
      case = λ i. record {
        volumes = whole_part n (take k.volumes l.volumes) l.volumes refl i;
        passive = whole_part n (take k.passive l.passive) l.passive y.passive i;
        starts = fs.whole i;
        near = fn.whole i;
        coef = fc.whole i;
        fraction = g.goal.fraction;
        sharpen = sharpens g.goal.sharpen;
      };
      design = fd.whole;
      asked = tt;
      last = tt;
      rounds = refl;
      history = refl;
      solid_work = refl;
      fits = (refl, refl, fresh-counts g.goal.sharpen (opened-at o) refl refl refl refl);
      climbs = record { later = λ d b. count_none d };
    }

pub in-turn : (s : State) (g : Asked) (work : List ℕ) (l : Lists) → NoRun s → open_of s g work l ≡ open_by s (opening_of g work l) l (entry_of (opening_of g work l))
unfolding open_of choose
in-turn s g work l h = ap (λ (p : Phase). choose (in_turn p) (open_by s (opening_of g work l) l (entry_of (opening_of g work l))) (keeps s 20 l)) h

-- THE WHOLE RUN: an opening on a state with no run open, and any list of answers
pub whole : (w : World) (k : Sizes) (g : Asked) (more : List Call) → NoRun w.state
    → calls_run w k g more ≡ plain_run (opening_of g k.work (lend k w.lists)) (map (fed w.lists) more)
unfolding calls_run plain_run
whole w k g more h = rw (in-turn w.state g k.work (lend k w.lists) h) (go (entry_of o) refl)
  where
    l : Lists
    l = w.lists

    o : Opening
    o = opening_of g k.work (lend k l)

    by : Entry → Result
    by v = open_by w.state o (lend k l) v

    go : (v : Entry) → entry_of o ≡ v → calls_by (world_after l (by v)) more (by v).reply (out_of (by v)) ≡ plain_open o (map (fed l) more) v
    go Opens e =
        let m = open-sim g k l e in
        let t = from_is l (plain_start o) (opened-at o) (give_back (by Opens).lists l) more m in
        λ i. record { out = asks solid (whole_part (elements o) (ones (elements o)) (take k.density l.density) (length-ones _) i); left = shown [] (m.design i) } ∷ t i
    go (KeptOut n) e = ap (λ (t : List Seen). record { out = refused n; left = unopened } ∷ t) (shut-is l w.state (give_back (by (KeptOut n)).lists l) more h)
    go (Zeroed n) e = ap (λ (t : List Seen). record { out = refused n; left = unopened } ∷ t) (shut-is l w.state (give_back (by (Zeroed n)).lists l) more h)
    go Shut e = ap (λ (t : List Seen). record { out = refused 15; left = unopened } ∷ t) (shut-is l (ended_of w.state) (give_back (by Shut).lists l) more refl)

-- ---- what a run leaves
pub sim-from : (l₀ : Lists) (r : Run) (s : State) (l : Lists) (more : List Call) → Sim l₀ r s l
    → Sim l₀ (run_from r (map (fed l₀) more)) (world_from (record { state = s; lists = l }) more).state (world_from (record { state = s; lists = l }) more).lists
unfolding run_from world_from
sim-from l₀ r s l [] m = m
sim-from l₀ r s l (c ∷ more) m =
    let v = world_after l (answer_of s c.arguments c.lent.work (lend c.lent l)) in
    sim-from l₀ (answered r (fed l₀ c)).run v.state v.lists more (answer-is l₀ r s l c m).sim

pub stands : (l₀ : Lists) (r : Run) (s : State) (l : Lists) → Sim l₀ r s l → Stands (record { state = s; lists = l }) r
stands l₀ r s l m =
    let few : s.setting.elements ≤ 65535 = rw m.elements m.ready.few in
    record {
      passes = sound-is r.part r s few m.rounds m.limit m.fits;
      asks = part-is r.part r s few m.rounds m.limit m.fits;
      closed = λ e. subst (λ (p : Part). Fits p r s) e m.fits;
      solid = m.solid_work;
      records = m.history;
    }

pub opened-stands : (w : World) (k : Sizes) (g : Asked) (more : List Call) → NoRun w.state → entry_of (opening_of g k.work (lend k w.lists)) ≡ Opens
    → Stands (world_from (world_open w k g) more) (run_from (plain_start (opening_of g k.work (lend k w.lists))) (map (fed w.lists) more))
opened-stands w k g more h e = rw (in-turn w.state g k.work (lend k w.lists) h, e) (stands w.lists _ _ _ (sim-from w.lists _ _ _ more (open-sim g k w.lists e)))

shut-stays : (s : State) (l : Lists) (more : List Call) → NoRun s → NoRun (world_from (record { state = s; lists = l }) more).state
unfolding world_from
shut-stays s l [] h = h
shut-stays s l (c ∷ more) h =
    let e : answer_of s c.arguments c.lent.work (lend c.lent l) ≡ keeps s 20 (lend c.lent l) = refused-shut s c.arguments c.lent.work (lend c.lent l) h in
    let v = world_after l (answer_of s c.arguments c.lent.work (lend c.lent l)) in
    shut-stays v.state v.lists more (subst (λ (x : Result). NoRun x.state) (sym e) h)

-- an opening that is refused leaves no run open
pub refused-stands : (w : World) (k : Sizes) (g : Asked) (more : List Call) → NoRun w.state → (entry_of (opening_of g k.work (lend k w.lists)) ≡ Opens → ⊥) → NoRun (world_from (world_open w k g) more).state
refused-stands w k g more h not-open = rw (in-turn w.state g k.work (lend k w.lists) h) (go (entry_of o) refl)
  where
    o : Opening
    o = opening_of g k.work (lend k w.lists)

    go : (v : Entry) → entry_of o ≡ v → NoRun (world_from (world_after w.lists (open_by w.state o (lend k w.lists) v)) more).state
    go Opens e = absurd (not-open e)
    go (KeptOut n) e = shut-stays w.state _ more h
    go (Zeroed n) e = shut-stays w.state _ more h
    go Shut e = shut-stays (ended_of w.state) _ more refl

-- a state with no run open passes 20's test
pub closed-passes : (s : State) → NoRun s → sound s ≡ true
unfolding sound
closed-passes s h = rw h
