-- Where nothing is refused both lists are long enough; where something is they are as they were lent. Assumes nothing.
use Rattle.std.proofs.Common.{◌≡◌, ℕ, ◌≤◌, List, length, sym, arith}
use borrow.Author.Tests.{ltb-false}
use lib.Ieee.{Float}
use Rattle.lists.proofs.Laws.{passes_on, neither}
use Rattle.lent.proofs.Lent.{unless-refused}
use Rattle.lent.specs.Lent.{unless}
use Rattle.refusal.specs.declared.Refusal.{Refusal}
use Rattle.refusal.specs.Refusals.{number_of}
use Rattle.refusal.proofs.Numbers.{some_number}
use Rattle.region_design.specs.Design.{design_refusal}

module _ (nodes : List (List Float)) (tets : List (List ℕ)) (v m : ℕ) (e : 0 ≡ design_refusal nodes tets v m) where
  both_fit : (length tets ≤ v) × (length tets ≤ m)
  unfolding design_refusal
  both_fit =
      let short = neither _ _ (passes_on _ 14 0 (omega arith) (passes_on _ 9 _ (omega arith) (passes_on _ 3 _ (omega arith) (sym e)).1).1).0 in
      (ltb-false _ _ short.0, ltb-false _ _ short.1)

  pub volumes_fit : length tets ≤ v
  volumes_fit = both_fit.0

  pub centroids_fit : length tets ≤ m
  centroids_fit = both_fit.1

pub left : {A : Type 0} (r : Refusal) (a b : A) → b ≡ unless (number_of r) a b
left r a b = unless-refused (number_of r) a b (λ z. omega (arith, z, some_number r))
