-- 01, "The job strip and its program": the worked example, from its strip to what is printed. Definitions only.
use Rattle.std.specs.Prelude.{◌≡◌, true, false, List, [], ◌∷◌, map, ℕ, ◌/◌, ◌%◌, length, take, replicate, Ok, Float}
use Prim.Native.String.{String}
use Rattle.std.specs.Float.{binary64}
use Rattle.std.specs.Float.Ieee.{of_bits}
use Rattle.lists.specs.Lists.{zero64}
use Rattle.ieee.specs.Basic.{one64}
use Rattle.topo.specs.declared.Iteration.{Iteration}
use Rattle.topo.specs.declared.Sharpening.TheVariants.{Off}
use Rattle.topo.specs.Stages.{sharpening_of}
use Rattle.topo.specs.declared.Stop.TheVariants.{Limit}
use Rattle.update_rates.specs.Rates.{half}
use Rattle.shape_solver.specs.Energies.{energies_of}
use Rattle.shape_report.specs.Report.{ascii, ran, text_of}
use Rattle.strip.specs.declared.Job.{Job}
use Rattle.strip.specs.Strip.{Lists, lent, reading, read_strip}
use Rattle.run_plain.specs.declared.Said.TheVariants.{Gave}
use Rattle.run_plain.specs.Lent.{Sizes}
use Rattle.run_plain.specs.Opening.{Opening}
use Rattle.run_plain.specs.Plain.{Answer, Seen, solid, round, asks, stops, shown, plain_run, plain_start, run_from}
use Rattle.run_plain.specs.Calls.{Asked, World, Call, NoRun, opening_of, lend, fed, calls_run}

-- ---- the strip
-- "Words are 32 bits, little-endian"
unfoldable pub bytes_of : List ℕ → List ℕ
bytes_of [] = []
bytes_of (w ∷ words) = w % 0x100 ∷ w / 0x100 % 0x100 ∷ w / 0x1_0000 % 0x100 ∷ w / 0x100_0000 ∷ bytes_of words

-- the first digit of a word is its kind. "start; share, radius; sharpen flag; rounds; planes [..]; per element volume, x, y, z, weight, held flag; end"
unfoldable pub strip : List ℕ
strip =
    bytes_of
    (0x1000_0002
    ∷ 0x2000_003f ∷ 0x3e80_0000 ∷ 0x4000_0000
    ∷ 0x2000_003f ∷ 0x3f00_0000 ∷ 0x4000_0000
    ∷ 0x5000_0000
    ∷ 0x6000_0001
    ∷ 0x6000_0000
    ∷ 0x2000_003f ∷ 0x3f00_0000 ∷ 0x4000_0000
    ∷ 0x2000_0000 ∷ 0x3000_0000 ∷ 0x4000_0000 ∷ 0x2000_0000 ∷ 0x3000_0000 ∷ 0x4000_0000 ∷ 0x2000_0000 ∷ 0x3000_0000 ∷ 0x4000_0000
    ∷ 0x2000_003f ∷ 0x3f00_0000 ∷ 0x4000_0000
    ∷ 0x5000_0001
    ∷ 0x2000_003f ∷ 0x3f00_0000 ∷ 0x4000_0000
    ∷ 0x2000_0040 ∷ 0x3240_0000 ∷ 0x4000_0000 ∷ 0x2000_0000 ∷ 0x3000_0000 ∷ 0x4000_0000 ∷ 0x2000_0000 ∷ 0x3000_0000 ∷ 0x4000_0000
    ∷ 0x2000_0000 ∷ 0x3000_0000 ∷ 0x4000_0000
    ∷ 0x5000_0000
    ∷ 0x7000_002a
    ∷ [])

-- what a reading of it says: 64-bit patterns
abbrev pub head : Job
head = record { elements = 2; fraction = 0x3fe8_0000_0000_0000; radius = 0x3ff0_0000_0000_0000; sharpen = 0; max_iterations = 1; mirrors = 0 }

-- "It holds 256 elements [..], all zero at the start"
abbrev pub empty : Lists
empty = lent (replicate 256 0) (replicate 256 (0 ∷ 0 ∷ 0 ∷ [])) (replicate 256 0) (replicate 256 false) (replicate 3 (replicate 6 0))

abbrev pub full : Lists
full =
    lent
    (0x3ff0_0000_0000_0000 ∷ 0x3ff0_0000_0000_0000 ∷ replicate 254 0)
    ((0 ∷ 0 ∷ 0 ∷ []) ∷ (0x4024_0000_0000_0000 ∷ 0 ∷ 0 ∷ []) ∷ replicate 254 (0 ∷ 0 ∷ 0 ∷ []))
    (0x3ff0_0000_0000_0000 ∷ 0 ∷ replicate 254 0)
    (true ∷ false ∷ replicate 254 false)
    (replicate 3 (replicate 6 0))

-- ---- the run
-- "It holds 256 elements, 64 records and a coefficient list of 4,096 places"
abbrev pub room : List ℕ → Sizes
room work = record { volumes = 2; passive = 2; starts = 257; near = 4096; coef = 4096; design = 256; density = 256; last = 256; history = 64; work = work }

-- the opening of a job that is read
unfoldable pub opening_from : Job → Lists → Opening
opening_from j l =
    record {
      volumes = map (of_bits binary64) (take j.elements l.volumes);
      centroids = map (map (of_bits binary64)) (take j.elements l.centroids);
      passive = take j.elements l.passive;
      mirrors = map (map (of_bits binary64)) (take j.mirrors l.mirrors);
      goal = record { fraction = of_bits binary64 j.fraction; radius = of_bits binary64 j.radius; sharpen = sharpening_of j.sharpen; max_iterations = j.max_iterations };
      flag = false;
      lent = room (256 ∷ 256 ∷ 257 ∷ 256 ∷ 256 ∷ 256 ∷ 256 ∷ 1040 ∷ []);
    }

-- "solves by energy = weight/(2·modulus(level, 1)), never stopping or running out of time": an answer to the densities asked with
unfoldable pub solved_by : List Float → List Float → Answer
solved_by weights densities =
    record {
      heard = record { said = Gave; flag = false; elapsed = 0; allowed = 1 };
      energies = energies_of weights densities (length weights);
      lent = room (256 ∷ 256 ∷ 256 ∷ 256 ∷ 256 ∷ []);
    }

-- "Two elements, unsharpened, one round, share 0.75, radius 1, no planes; volumes 1; middles (0,0,0) and (10,0,0); [..] the first held."
abbrev pub job : Opening
job =
    record {
      volumes = one64 ∷ one64 ∷ [];
      centroids = (zero64 ∷ zero64 ∷ zero64 ∷ []) ∷ (of_bits binary64 0x4024_0000_0000_0000 ∷ zero64 ∷ zero64 ∷ []) ∷ [];
      passive = true ∷ false ∷ [];
      mirrors = [];
      goal = record { fraction = of_bits binary64 0x3fe8_0000_0000_0000; radius = one64; sharpen = Off; max_iterations = 1 };
      flag = false;
      lent = room (256 ∷ 256 ∷ 257 ∷ 256 ∷ 256 ∷ 256 ∷ 256 ∷ 1040 ∷ []);
    }

-- the densities asked with: for the solid part, and for round 1
abbrev pub solid_asked : List Float
solid_asked = one64 ∷ one64 ∷ []

abbrev pub first_asked : List Float
first_asked = one64 ∷ half ∷ []

-- the two answers: "weights 1 and 0"
abbrev pub answers : List Answer
answers = solved_by (one64 ∷ zero64 ∷ []) solid_asked ∷ solved_by (one64 ∷ zero64 ∷ []) first_asked ∷ []

-- "round 1 3FF0000000000000 3FE8000000000000 3FC999999999999A 3FF0000000000000 3FF0000000000000 200"
abbrev pub first_round : Iteration
first_round =
    record {
      number = 1;
      compliance = of_bits binary64 0x3ff0_0000_0000_0000;
      fraction = of_bits binary64 0x3fe8_0000_0000_0000;
      change = of_bits binary64 0x3fc9_9999_9999_999a;
      sharpness = of_bits binary64 0x3ff0_0000_0000_0000;
      grey = of_bits binary64 0x3ff0_0000_0000_0000;
      passes = 200;
    }

-- the design after its update: 1 and 0.3
abbrev pub updated_design : List Float
updated_design = one64 ∷ of_bits binary64 0x3fd3_3333_3333_3333 ∷ []

-- what each call shows: the solid part is asked for, then round 1; then it stops, with the densities of round 1
abbrev pub shown_run : List Seen
shown_run =
    record { out = asks solid solid_asked; left = shown [] first_asked }
    ∷ record { out = asks (round 1) first_asked; left = shown [] first_asked }
    ∷ record { out = stops Limit first_asked; left = shown (first_round ∷ []) updated_design }
    ∷ []

-- "Printed: solid work; round with work, share, change, steepness, grey [..], reckonings [..]; stop; element (from 1) and density bits."
abbrev pub lines : String
lines = "solid 3FF0000000000000\nround 1 3FF0000000000000 3FE8000000000000 3FC999999999999A 3FF0000000000000 3FF0000000000000 200\nstop Limit\n1 3FF0000000000000\n2 3FE0000000000000\n"

-- the strip is read, is this job, its run shows this, and so much is printed; every run of the calls with this opening and these answers, on a state with
-- no run open, shows the same
pub record WorkedExample : Type 0 where
  pub read : read_strip strip empty ≡ reading (Ok head) full
  pub opens : opening_from head full ≡ job
  pub solid_work : (run_from (plain_start job) answers).solid_work ≡ of_bits binary64 0x3ff0_0000_0000_0000
  pub shows : plain_run job answers ≡ shown_run
  pub prints : text_of (ran (run_from (plain_start job) answers).solid_work (first_round ∷ []) Limit first_asked) ≡ ascii lines
  pub calls : (w : World) (k : Sizes) (g : Asked) (more : List Call) → NoRun w.state → opening_of g k.work (lend k w.lists) ≡ job → map (fed w.lists) more ≡ answers → calls_run w k g more ≡ shown_run
