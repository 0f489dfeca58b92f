-- How the code holds the lists that the middles are filed in. Definitions only.
use Rattle.std.specs.Prelude.{◌≡◌, ℕ, ◌+◌, ◌<◌, length}
use Rattle.region_by_depth.specs.declared.middles.Filing.{Filing}

-- lists of just the places that n middles need, which are some and few
pub record Long (n : ℕ) (f : Filing) : Type 0 where
  pub some : 0 < n
  pub few : n < 65536
  pub cells : length f.cells.now ≡ n
  pub order : length f.order.now ≡ n
  pub place : length f.place.now ≡ n
  pub first : length f.first.now ≡ n + 1
