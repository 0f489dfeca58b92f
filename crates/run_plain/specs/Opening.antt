-- 01, "What a refusal hands back": what an opening checks, and the filter that it builds. Definitions only.
use Rattle.std.specs.Prelude.{Bool, true, false, not, ◌&&◌, ◌||◌, List, [], ◌∷◌, ◌++◌, ℕ, zero, suc, ◌+◌, length, eqb, Float}
use Rattle.std.specs.Float.Ieee.{lt}
use Rattle.lists.specs.Lists.{tabulate, zero64}
use Rattle.ieee.specs.Basic.{one64}
use Rattle.topo.specs.declared.Goal.{Goal}
use Rattle.topo.specs.Stages.{sharpens}
use Rattle.lent.specs.Refusals.{Test, first_of}
use Rattle.filter.specs.Filter.{neighbours, start, coefficients}
use Rattle.filter.specs.Build.{rows_refusal, count_tests, filter_tests}
use Rattle.oc_goal.specs.Goal.{no_room, target_of, start_density}
use Rattle.oc_start.specs.Start.{solid_volume, start_design}
use Rattle.run_plain.specs.Lent.{Sizes, open_short}
use Rattle.run_plain.specs.Formulas.{Case, sum_of}

-- an opening's arguments; of the lists that it may write only the lengths
pub record Opening : Type 0 where
  pub volumes : List Float
  pub centroids : List (List Float)
  pub passive : List Bool
  pub mirrors : List (List Float)
  pub goal : Goal
  pub flag : Bool
  pub lent : Sizes

-- what an opening comes to: refused with all lists kept; refused with the filter's lists and the working lists zeroed; refused by the flag; opened
pub data Entry : Type 0 where
  Kept : ℕ → Entry
  Zeroed : ℕ → Entry
  Shut : Entry
  Opens : Entry

-- 5: "share not above 0 and below 1"
abbrev pub fraction_bad : Float → Bool
fraction_bad f = not (lt zero64 f && lt f one64)

module _ (o : Opening) where
  abbrev pub elements : ℕ
  elements = length o.volumes

  abbrev pub total_of : Float
  total_of = sum_of o.volumes

  abbrev pub solid_of : Float
  solid_of = solid_volume o.volumes o.passive

  abbrev pub target_at : Float
  target_at = target_of o.goal.fraction total_of

  -- `Filter::new`: the table's three lists
  unfoldable pub starts_of : List ℕ
  starts_of = tabulate (start o.centroids o.goal.radius o.mirrors) (length o.centroids + 1)

  unfoldable pub near_of : List ℕ
  near_of = neighbours o.centroids o.goal.radius o.mirrors (length o.centroids)

  unfoldable pub coef_of : List Float
  coef_of = coefficients o.centroids o.goal.radius o.mirrors o.volumes (length o.centroids)

  -- 13 and 14 in the first row that has one, 0 for none
  unfoldable pub table_refusal : ℕ
  table_refusal = rows_refusal o.centroids o.goal.radius o.mirrors o.lent.near o.lent.coef (length o.centroids)

  -- 1 to 4, and 8 to 12 with the first 14: as in a build of the filter
  abbrev pub list_tests : List Test
  list_tests = count_tests (not (eqb (length o.centroids) elements) || not (eqb (length o.passive) elements)) elements o.volumes

  abbrev pub mesh_tests : List Test
  mesh_tests = filter_tests o.centroids o.goal.radius o.mirrors (open_short elements o.goal.max_iterations o.lent)

  -- 5 to 7: an opening's own
  abbrev pub goal_tests : List Test
  goal_tests = (fraction_bad o.goal.fraction, 5) ∷ (eqb o.goal.max_iterations 0, 6) ∷ (no_room solid_of total_of target_at, 7) ∷ []

  -- what the opening is refused with before the rows, 0 for none: "1 to 13 in order, but the first 14 comes after 12"
  unfoldable pub first_refusal : ℕ
  first_refusal = first_of (list_tests ++ goal_tests ++ mesh_tests)

  -- a refusal before the rows keeps all; one in a row zeroes; "Last it looks at the flag"
  abbrev pub lastly : Bool → Entry
  lastly true = Shut
  lastly false = Opens

  abbrev pub in_rows : ℕ → Entry
  in_rows zero = lastly o.flag
  in_rows (suc n) = Zeroed (suc n)

  abbrev pub at_first : ℕ → Entry
  at_first zero = in_rows table_refusal
  at_first (suc n) = Kept (suc n)

  unfoldable pub entry_of : Entry
  entry_of = at_first first_refusal

  -- what the formulas of its rounds read
  unfoldable pub case_of : Case
  case_of = record { volumes = o.volumes; passive = o.passive; starts = starts_of; near = near_of; coef = coef_of; fraction = o.goal.fraction; sharpen = sharpens o.goal.sharpen }

  -- "the start's design"
  unfoldable pub start_of : List Float
  start_of = start_design o.passive (start_density solid_of total_of target_at)
