-- Where an opening is not refused before the rows, each of its tests is passed. By the law of the first refusal. Assumes nothing.
use mathlib.Core.Path.{◌≡◌, refl}
use mathlib.Core.List.{◌++◌}
use Rattle.lent.proofs.Refusals.{Passed, passes, front-passes, back_passes}
use Rattle.run_plain.specs.Opening.{Opening, list_tests, mesh_tests, goal_tests, first_refusal}

pub record Checked (o : Opening) : Type 0 where
  pub lists : Passed (list_tests o)
  pub goal : Passed (goal_tests o)
  pub mesh : Passed (mesh_tests o)

pub checked : (o : Opening) → first_refusal o ≡ 0 → Checked o
unfolding first_refusal
checked o e =
    let all = passes (list_tests o ++ goal_tests o ++ mesh_tests o) refl e in
    let later = back_passes (list_tests o) (goal_tests o ++ mesh_tests o) all in
    record {
      lists = front-passes (list_tests o) (goal_tests o ++ mesh_tests o) all;
      goal = front-passes (goal_tests o) (mesh_tests o) later;
      mesh = back_passes (goal_tests o) (mesh_tests o) later;
    }
