-- Whether a list has an unknown name, by its first names and the others. Assumes nothing.
use Rattle.std.proofs.Common.{◌≡◌, ℕ, ◌-◌, ◌<◌, true, false, ◌||◌, List, length, take, drop, sym, ap, ◌∙◌, length-drop, take_all, take-append-drop, arith}
use Rattle.std.proofs.lemmas.List.Folds.{list_any-append}
use Rattle.shift.specs.Grants.{unknown_job}

module _ (jobs n : ℕ) (names : List ℕ) where
  parts : unknown_job jobs names ≡ (unknown_job jobs (take n names) || unknown_job jobs (drop n names))
  unfolding unknown_job
  parts = ap (unknown_job jobs) (sym (take-append-drop n names)) ∙ list_any-append _ (take n names) (drop n names)

  pub front : true ≡ unknown_job jobs (take n names) → true ≡ unknown_job jobs names
  front h = sym (parts ∙ ap (λ b. b || unknown_job jobs (drop n names)) (sym h))

  pub rest : (m : ℕ) → m ≡ length names - n → false ≡ unknown_job jobs (take n names) → unknown_job jobs (take m (drop n names)) ≡ unknown_job jobs names
  rest m e h =
      ap (unknown_job jobs) (take_all m (drop n names) (omega (arith, length-drop n names)))
      ∙ sym (parts ∙ ap (λ b. b || unknown_job jobs (drop n names)) (sym h))

  pub shorter : (m : ℕ) → m ≡ length names - n → 0 < n → n < length names → length (take m (drop n names)) < length names
  shorter m e some h = omega (arith, ap length (take_all m (drop n names) (omega (arith, length-drop n names))), length-drop n names)
