-- 01's proved case: "projection of 0 and 1 unchanged at all five steepnesses". Each is worked out. Assumes nothing.
use mathlib.Core.Path.{◌≡◌, refl}
use Prim.Native.Nat.{ℕ, zero, suc, ◌<◌}
use native.Mathlib.Omega.{arith}
use lib.ListN.{get_or}
use lib.Ieee.{Float, nan, add, sub, mul, div, of_bits, of_int}
use Rattle.lists.specs.Lists.{fold_to, zero64}
use Rattle.ieee.specs.Basic.{one64}
use Rattle.ieee_tanh.specs.Tanh.{lambert, tanh_of}
use Rattle.oc_project.specs.Project.{stages, below_of, whole_of, turned, projected}

-- 0 and 1 stay where they are
pub record Ends (beta : Float) : Type 0 where
  pub none : projected beta zero64 ≡ zero64
  pub all : projected beta one64 ≡ one64

pub projection-ends : (k : ℕ) → k < 5 → Ends (get_or stages k nan)
unfolding projected below_of whole_of turned tanh_of lambert fold_to add sub mul div of_bits of_int
projection-ends zero h = record { none = refl; all = refl }
projection-ends (suc zero) h = record { none = refl; all = refl }
projection-ends (suc (suc zero)) h = record { none = refl; all = refl }
projection-ends (suc (suc (suc zero))) h = record { none = refl; all = refl }
projection-ends (suc (suc (suc (suc zero)))) h = record { none = refl; all = refl }
projection-ends (suc (suc (suc (suc (suc k))))) h = absurd (omega arith)
