-- From a stiffness back to its level. Definitions only.
use Rattle.std.specs.Prelude.{◌≡◌, Bool, true, false, ◌&&◌, ℕ, zero, suc, ◌<◌, Float, Option, Some, None}
use Rattle.std.specs.Float.Ieee.{lt, le, eq}
use Rattle.lists.specs.Lists.{choose}
use Rattle.ieee.specs.Basic.{one64}
use Rattle.topo.specs.Levels.{modulus_of}
use Rattle.topo_moduli.specs.declared.numbers.LevelNumbers.{LevelNumbers}

-- "the moduli of all 1,001 levels for material 1", "each entry equal to the formula of `modulus`"
unfoldable pub modulus_at : ℕ → Float
modulus_at level = modulus_of level one64

-- the greatest level below n at which p holds
unfoldable pub greatest : (ℕ → Bool) → ℕ → Option ℕ
greatest p zero = None
greatest p (suc n) = choose (p n) (Some n) (greatest p n)

-- "From a modulus, give its level"
unfoldable pub level_with : Float → Option ℕ
level_with m = greatest (λ level. eq (modulus_at level) m) 1001

-- the number is from the lowest to the highest modulus, both included
unfoldable pub inside : Float → Bool
inside x = le (modulus_at 0) x && le x (modulus_at 1000)

-- "a number from the lowest to the highest modulus [..] the greatest level whose modulus isn't above it"
unfoldable pub level_below : Float → Option ℕ
level_below x = choose (inside x) (greatest (λ level. le (modulus_at level) x) 1001) None

-- "Errors: 29, kept, for a modulus that no level has, or for a number outside the two ends or not a number."
abbrev pub numbers_of : Option ℕ → LevelNumbers
numbers_of (Some level) = record { refused = 0; level = level }
numbers_of None = record { refused = 29; level = 0 }

-- ---- what holds of them
-- "the greatest level whose modulus isn't above it", as two inequalities
pub record GreatestBelow (x : Float) (level : ℕ) : Type 0 where
  pub few : level < 1001
  pub not-above : le (modulus_at level) x ≡ true
  pub next-above : (k : ℕ) → level < k → k < 1001 → lt x (modulus_at k) ≡ true

pub record Back : Type 0 where
  -- no two levels have one modulus: the moduli rise
  pub rising : (a b : ℕ) → a < b → b < 1001 → lt (modulus_at a) (modulus_at b) ≡ true
  -- "from any of these 1,001 the way there and back is the same level"
  pub there_and_back : (level : ℕ) → level < 1001 → level_with (modulus_at level) ≡ Some level
  pub below : (x : Float) (level : ℕ) → level_below x ≡ Some level → GreatestBelow x level
  -- 29 exactly "for a number outside the two ends or not a number", which no comparison holds of
  pub outside : (x : Float) → level_below x ≡ None → inside x ≡ false
  pub outside-none : (x : Float) → inside x ≡ false → level_below x ≡ None
  -- 29 exactly "for a modulus that no level has"
  pub no-level : (m : Float) → level_with m ≡ None → (level : ℕ) → level < 1001 → eq (modulus_at level) m ≡ false
  pub no-level-none : (m : Float) → ((level : ℕ) → level < 1001 → eq (modulus_at level) m ≡ false) → level_with m ≡ None
