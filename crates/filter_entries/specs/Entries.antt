-- What the writing of one row's entries leaves. What a caller must believe is said by `Build` of crate filter alone. Definitions only.
use Rattle.std.specs.Prelude.{◌≡◌, List, ℕ, ◌+◌, ◌<◌, get_or, set, Float}
use Rattle.std.specs.Float.{nan, binary64}
use Rattle.std.specs.Float.Ieee.{mul, div}
use Rattle.lists.specs.Lists.{fold_to, zero64}
use Rattle.filter.specs.declared.work.TableMut.{TableMut}
use Rattle.filter_look.specs.declared.met.Met.{Met}

-- no two of them hold the same number
abbrev pub Apart : List ℕ → ℕ → Type 0
Apart found count = (j k : ℕ) → j < k → k < count → get_or found j 0 < get_or found k 0

-- what the k-th of them comes to
abbrev pub product_at : List ℕ → List Float → List Float → ℕ → Float
product_at found weight volumes k = mul binary64 (get_or weight (get_or found k 0) nan) (get_or volumes (get_or found k 0) nan)

-- count places from `at` on overwritten by f 0, f 1 ..
unfoldable pub written : {A : Type 0} → ℕ → (ℕ → A) → ℕ → List A → List A
unfolding fold_to
written at f count l = fold_to (λ k s. set s (at + k) (f k)) l count

-- the places that the first count of found name set to zero
unfoldable pub cleared : List ℕ → ℕ → List Float → List Float
unfolding fold_to
cleared found count w = fold_to (λ k s. set s (get_or found k 0) zero64) w count

pub record Written (at : ℕ) (sum : Float) (volumes : List Float) (m : Met) (t : TableMut) (m' : Met) (t' : TableMut) : Type 0 where
  pub starts : t'.starts.now ≡ t.starts.now
  pub nears : t'.near.now ≡ written at (λ k. get_or m.found.now k 0) m.count t.near.now
  pub coefs : t'.coef.now ≡ written at (λ k. div binary64 (product_at m.found.now m.weight.now volumes k) sum) m.count t.coef.now
  pub weights : m'.weight.now ≡ cleared m.found.now m.count m.weight.now
  pub stamps : m'.stamp.now ≡ m.stamp.now
  pub found : m'.found.now ≡ m.found.now
  pub map : m'.bits.now ≡ m.bits.now
  pub count : m'.count ≡ m.count
