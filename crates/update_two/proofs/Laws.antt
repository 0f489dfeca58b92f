-- The volume kept by what each element adds. Assumes nothing.
use mathlib.Core.Path.{◌≡◌, sym, ap, ◌∙◌}
use Rattle.std.proofs.Common.{Some}
use mathlib.Core.Bool.{Bool, false}
use mathlib.Core.List.{List}
use Prim.Native.Nat.{ℕ, ◌+◌, min}
use native.Mathlib.Omega.{arith}
use lib.ListN.{length, get_or}
use lib.Ieee.{Float, nan, binary64, add, mul, div}
use Rattle.lists.specs.Lists.{tabulate, sum_to, choose}
use Rattle.lists.proofs.Laws.{sum_to-more, get_or-tabulate, length-tabulate, sum_to-same}
use Rattle.ieee.specs.Basic.{one64, clamp_of}
use Rattle.ieee_tanh.specs.Tanh.{tanh_of}
use Rattle.filter_table.specs.Table.{row_sum, applied}
use Rattle.oc_project.specs.Project.{below_of, whole_of, turned, projected}
use Rattle.oc_record.specs.Record.{dot}
use Rattle.oc_seen.specs.Seen.{sharpened, element_density, densities, seen_density}
use Rattle.update_two.specs.Part.{bent, part}

-- ---- one element
module _ (beta : Float) (starts near : List ℕ) (coef volumes : List Float) (passive : List Bool) (y : List Float) where
  abbrev sums : ℕ → Float
  sums e = row_sum near coef y (get_or starts e 0) (get_or starts (e + 1) 0)

  pub part-more : (e e' : ℕ) (below whole z t sum r : Float) → e' ≡ e + 1 → below ≡ below_of beta → whole ≡ whole_of beta → z ≡ bent beta (sums e) → t ≡ tanh_of z
      → sum ≡ sum_to (part beta starts near coef volumes passive y) e
      → r ≡ add binary64 sum (mul binary64 (get_or volumes e nan) (choose (get_or passive e false) one64 (div binary64 (add binary64 below t) whole)))
      → r ≡ sum_to (part beta starts near coef volumes passive y) e'
  unfolding bent part element_density sharpened projected turned
  part-more e e' below whole z t sum r n b w k h s g =
      let v : t ≡ turned beta (clamp_of (sums e)) = h ∙ ap tanh_of k in
      g ∙ (λ i. add binary64 (s i) (mul binary64 (get_or volumes e nan) (choose (get_or passive e false) one64 (div binary64 (add binary64 (b i) (v i)) (w i))))) ∙ sum_to-more (part beta starts near coef volumes passive y) e ∙ ap (sum_to (part beta starts near coef volumes passive y)) (sym n)

  -- at an equal steepness
  pub part_at : (b : Float) (n : ℕ) → b ≡ beta → sum_to (part b starts near coef volumes passive y) n ≡ sum_to (part beta starts near coef volumes passive y) n
  part_at b n e = ap (λ (v : Float). sum_to (part v starts near coef volumes passive y) n) e

  -- ---- all of them
  -- an element's density, by the list of the filtered values
  abbrev seen : ℕ → Float
  seen e = element_density (Some beta) (get_or passive e false) (get_or (tabulate sums (length passive)) e nan)

  pub parts_are : sum_to (part beta starts near coef volumes passive y) (min (length volumes) (length passive)) ≡ dot volumes (seen_density (Some beta) starts near coef passive y)
  unfolding dot seen_density densities applied part
  parts_are =
      let share : ℕ → Float = λ k. mul binary64 (get_or volumes k nan) (get_or (tabulate seen (length passive)) k nan) in
      sum_to-same (part beta starts near coef volumes passive y) share (min (length volumes) (length passive))
      (λ k h. ap (mul binary64 (get_or volumes k nan)) (sym (get_or-tabulate seen (length passive) k nan (omega arith) ∙ ap (element_density (Some beta) (get_or passive k false)) (get_or-tabulate sums (length passive) k nan (omega arith)))))
      ∙ ap (λ (n : ℕ). sum_to share (min (length volumes) n)) (sym (length-tabulate seen (length passive)))
